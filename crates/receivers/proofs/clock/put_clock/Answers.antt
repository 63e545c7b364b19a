-- `receivers::clock::put_clock` meets its contract: the four registers are set in turn.
use Rattle.receivers.proofs.ClockLaws.{clock_is}
use Rattle.receivers.proofs.clock.put_clock.Goals as goal

pub returns : goal.returns
returns c =
    clock_is _ _ _ _ _ c.put_reg.ensures c.put_reg-2.ensures c.put_reg-3.ensures
    c.put_reg-4.ensures

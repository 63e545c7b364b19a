-- `receivers::receiving::put_landing` meets its contract: all is read before the four registers are set in turn.
use Rattle.receivers.proofs.UnitLaws.{landing_is}
use Rattle.receivers.proofs.receiving.put_landing.Goals as goal

pub returns : goal.returns
returns c =
    landing_is _ _ c.next_landing_mark-mark.ensures c.reg-kind.ensures c.reg-address.ensures
    c.memory_word-word.ensures c.put_reg.ensures c.put_reg-2.ensures c.put_reg-3.ensures
    c.put_reg-4.ensures

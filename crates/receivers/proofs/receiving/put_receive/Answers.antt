-- `receivers::receiving::put_receive` meets its contract: all is read before the three registers are set in turn.
use Rattle.receivers.proofs.UnitLaws.{receive_is}
use Rattle.receivers.proofs.receiving.put_receive.Goals as goal

pub returns : goal.returns
returns c =
    let next = c.next_receiver-next.ensures in
    receive_is _ _ next.mark next.kind next.address c.put_reg.ensures c.put_reg-2.ensures c.put_reg-3.ensures

-- `sources::send_word` meets its contract: the four registers are read before the first of them is set.
use Rattle.sources.proofs.SenderLaws.{send_is}
use Rattle.sources.proofs.send_word.Goals as goal

pub returns : goal.returns
returns c =
    send_is _ _ _ _ _ _ c.reg-left.ensures c.reg-read.ensures c.reg-write.ensures c.reg-to_go.ensures _ _ _ _
    c.put_reg.ensures c.put_reg-2.ensures c.put_reg-3.ensures c.put_reg-4.ensures

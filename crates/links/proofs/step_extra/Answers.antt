-- `links::step_extra` meets its contract: both words are read before one is set.
use Rattle.links.proofs.ExtraStageLaws.{extended_is}
use Rattle.links.proofs.step_extra.Goals as goal

pub returns : goal.returns
returns c =
    extended_is _ _ _ _ _ _ c.reg-mark.ensures c.reg-word.ensures c.put_reg.ensures c.put_reg-2.ensures

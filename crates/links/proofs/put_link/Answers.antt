-- `links::put_link` meets its contract: the mark and the word are set one after the other.
use Rattle.links.proofs.LinkLaws.{link_is}
use Rattle.links.proofs.put_link.Goals as goal

pub returns : goal.returns
returns c = link_is _ _ _ _ _ _ c.put_row_reg.ensures c.put_row_reg-2.ensures

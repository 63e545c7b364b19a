-- `sheet::head::is_long` meets its contract: the comparison is the definition's.
use Rattle.words.specs.Tests.{◌≤?◌}
use Rattle.sheet.proofs.HeadLaws.{long_is}
use Rattle.sheet.proofs.head.is_long.Goals as goal

pub returns : goal.returns
unfolding ◌≤?◌
returns c = long_is _ _ c.get.ensures

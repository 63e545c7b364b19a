-- `receivers::receiving::next_landing_mark` meets its contract: a payload word lands, nothing else does.
use Rattle.words.specs.Tests.{◌≤?◌}
use Rattle.receivers.proofs.UnitLaws.{landing_marked}
use Rattle.receivers.proofs.receiving.next_landing_mark.Goals as goal

pub returns : goal.returns
unfolding ◌≤?◌
returns c = landing_marked _ _ _ c.memory_mark.ensures c.from.ensures

-- `sources::opening_now` meets its contract: in the loop the circuits before `c` that open a packet are in the mask.
use Rattle.sources.proofs.ActingLaws.{beside_more}
use Rattle.sources.proofs.opening_now.Goals as goal

pub loop-c-preserved : goal.loop-c-preserved
loop-c-preserved c = beside_more _ _ _ _ c.loop-c.invariant c.opening-opening.ensures

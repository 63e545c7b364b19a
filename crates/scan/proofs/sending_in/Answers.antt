-- `scan::sending_in` meets its contract: in the loop the circuits before `c` that the mask has not have nothing to go.
use Rattle.sources.proofs.ActingLaws.{beside_more}
use Rattle.scan.proofs.sending_in.Goals as goal

pub loop-c-preserved : goal.loop-c-preserved
loop-c-preserved c = beside_more _ _ _ _ c.loop-c.invariant c.circuit_in-mask.ensures

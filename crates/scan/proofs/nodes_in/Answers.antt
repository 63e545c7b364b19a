-- `scan::nodes_in` meets its contract: in the loop the nodes before `node` that the mask has not are empty.
use Rattle.sources.proofs.ActingLaws.{beside_more}
use Rattle.scan.proofs.nodes_in.Goals as goal

pub loop-node-preserved : goal.loop-node-preserved
loop-node-preserved c = beside_more _ _ _ _ c.loop-node.invariant c.node_in-mask.ensures

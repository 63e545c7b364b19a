-- `routers::cross_among` meets its contract: in the loop the tables have the first mark and word of each output among the inputs of the nodes that the walk has left behind,
-- and `faults` is not 0 where two of those inputs ask for one output or one of them has a payload word without a choice. The nodes that are
-- passed over have no word in their header stages, and change neither. A state that is too short for its rows has no nodes.
use Rattle.routers.proofs.CrossLaws.{CrossingTo}
use Rattle.routers.proofs.cross_among.Given as goal

abbrev pub invariant-loop-node : goal.invariant-loop-node
invariant-loop-node l = CrossingTo l.s l.nodes l.heads l.node-iterator l.marks l.cells l.faults

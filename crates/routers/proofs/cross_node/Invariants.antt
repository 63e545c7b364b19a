-- `routers::cross_node` meets its contract: the inputs before `input` have been crossed, one after the other.
use Rattle.routers.specs.Inner.Crossing.{CrossedInputs}
use Rattle.routers.proofs.cross_node.Given as goal

abbrev pub invariant-loop-input : goal.invariant-loop-input
invariant-loop-input l = CrossedInputs l.s l.k l.initial.marks l.initial.cells l.input l.marks l.cells l.faults

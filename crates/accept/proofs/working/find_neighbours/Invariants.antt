-- `accept::working::find_neighbours` meets its contract: in the loop the neighbours of the nodes before `node` are put.
use Rattle.accept.proofs.WorkingLaws.{Putting}
use Rattle.accept.proofs.working.find_neighbours.Given as goal

abbrev pub invariant-loop-node : goal.invariant-loop-node
invariant-loop-node l = Putting l.grid.cols l.grid.rows l.node l.initial.near l.near

-- `routers::has_unheld` meets its contract: in the loop `faults` is not 0 where a place before `k` has such a word; the places are the inputs
-- of all nodes. A state that is too short for its rows has no nodes.
use Rattle.routers.proofs.UnheldLaws.{Counting}
use Rattle.routers.proofs.has_unheld.Given as goal

abbrev pub invariant-loop-k : goal.invariant-loop-k
invariant-loop-k l = Counting l.s l.k l.faults

-- `accept::circuits::reads_apart` meets its contract: in the loop the read regions of the circuits before `k` are apart from every receive
-- region: the tables name those at a read region's node, and the others are at another node.
use Rattle.accept.proofs.ArrangedLaws.{ReadsApart}
use Rattle.accept.proofs.circuits.reads_apart.Given as goal

abbrev pub invariant-loop-k : goal.invariant-loop-k
invariant-loop-k l = ReadsApart l.frame.words.now l.k

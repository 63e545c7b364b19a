-- `accept::circuits::circuits_arranged` meets its contract: in the loop the circuits before `k` fit, each ends before the later
-- ones begin, none ends behind `end`, and the tables hold them.
use Rattle.accept.proofs.ArrangedLaws.{Arranging}
use Rattle.accept.proofs.circuits.circuits_arranged.Given as goal

abbrev pub invariant-loop-k : goal.invariant-loop-k
invariant-loop-k l = Arranging l.frame.words.now l.k l.end l.from l.to

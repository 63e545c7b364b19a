-- `accept::circuits::read_apart` meets its contract: in the loop the receive regions from `first` on and before `i` are apart from the read region.
use Rattle.accept.proofs.ArrangedLaws.{ReadApart}
use Rattle.accept.proofs.circuits.read_apart.Given as goal

abbrev pub invariant-loop-i : goal.invariant-loop-i
invariant-loop-i l = ReadApart l.circuits.frame.words.now l.k l.first l.i

-- `sheet::served::mark_circuits` meets its contract: in the loop the circuits of the entries before `i` are marked too.
use Rattle.sheet.proofs.ServedLaws.{Marking}
use Rattle.sheet.proofs.served.mark_circuits.Given as goal

abbrev pub invariant-loop-i : goal.invariant-loop-i
invariant-loop-i l = Marking l.entries l.initial.marks l.marks l.i

-- `quiet::openings::next_opening` meets its contract: of the entries passed none that begins in this cycle or later has words left, and those behind begin no earlier.
use Rattle.quiet.proofs.OpeningLaws.{Seeking}
use Rattle.quiet.proofs.openings.next_opening.Given as goal

abbrev pub invariant-loop-i : goal.invariant-loop-i
invariant-loop-i l = Seeking l.s l.z l.cycle l.entries l.count l.i

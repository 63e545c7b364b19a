-- `scan::join_rows` meets its contract: in the loop a place before `k` whose word in the list is 0 is empty.
use Rattle.scan.proofs.ScanLaws.{Joining}
use Rattle.scan.proofs.join_rows.Given as goal

abbrev pub invariant-loop-k : goal.invariant-loop-k
invariant-loop-k l = Joining l.s l.k-end l.joined l.k

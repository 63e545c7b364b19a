-- `scan::join_rows` meets its contract: in the loop a place before `k` whose word in the list is 0 is empty.
use native.Mathlib.Omega.{arith}
use Rattle.scan.proofs.ScanLaws.{joining_more}
use Rattle.scan.proofs.join_rows.Goals as goal

pub loop-k-preserved : goal.loop-k-preserved
loop-k-preserved c =
    joining_more _ _ _ _ _ c.loop-k.invariant c.loop-k-test.true (omega (arith, c.requires.0)) c.place_joined.ensures

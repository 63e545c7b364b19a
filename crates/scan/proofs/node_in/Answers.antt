-- `scan::node_in` meets its contract: five words joined by or are 0 where each is.
use native.Mathlib.Omega.{arith}
use Rattle.scan.proofs.ScanLaws.{node_none}
use Rattle.scan.proofs.node_in.Goals as goal

pub returns-then-joined-k-eq0 : goal.returns-then-joined-k-eq0
returns-then-joined-k-eq0 c =
    λ none. node_none c.args.joined.now c.args.node (omega arith)

-- `batch::start_each` meets its contract: after i turns the first i transfers are started, each on the state that those before it left.
use Rattle.std.proofs.Common.{◌≡◌, ◌≤◌, length}
use Rattle.batch.specs.Lists.{first_of}
use Rattle.batch.proofs.BatchLaws.{Started}
use Rattle.batch.proofs.start_each.Given as goal

abbrev pub invariant-loop-i : goal.invariant-loop-i
invariant-loop-i g l =
    record {
      ends : l.i-end ≡ g.T.Transfers.size l.transfers;
      room : l.i-end ≤ length l.initial.answers;
      started : Started l.initial.s l.initial.answers (first_of l.i (g.T.Transfers.at_place l.transfers)) l.s l.answers;
    }

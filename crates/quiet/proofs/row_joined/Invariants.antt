-- `quiet::row_joined` meets its contract: in the loop the words joined so far are 0 where each of them is.
use mathlib.Core.Path.{◌≡◌}
use Rattle.words.specs.Tests.{all, ◌=?◌}
use Rattle.network.specs.Registers.{reg}
use Rattle.quiet.proofs.row_joined.Given as goal

abbrev pub invariant-loop-k : goal.invariant-loop-k
invariant-loop-k l = (l.joined =? 0) ≡ all l.k (λ i. reg l.s l.row i =? 0)

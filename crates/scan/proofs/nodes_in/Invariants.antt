-- `scan::nodes_in` meets its contract: in the loop the nodes before `node` that the mask has not are empty.
use Prim.Native.Nat.{ℕ, ◌/◌}
use mathlib.Core.Path.{◌≡◌}
use Rattle.words.specs.Words.{word}
use Rattle.sources.proofs.ActingLaws.{Beside}
use Rattle.scan.proofs.nodes_in.Given as goal

abbrev pub invariant-loop-node : goal.invariant-loop-node
invariant-loop-node l = Beside (λ n. (k : ℕ) → k / 5 ≡ n → word l.joined k ≡ 0) l.mask l.node

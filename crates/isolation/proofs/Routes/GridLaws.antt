-- Laws of a sheet's grid: a step by a side stays in the grid, and a step back leads back; and which links take a cycle.
-- Assumes nothing.
use Prim.Native.Nat.{ℕ, ◌≤◌, ◌<◌}
use mathlib.Core.Bool.{Bool, true, false}
use mathlib.Core.List.{List}
use mathlib.Core.Path.{◌≡◌, refl}
use native.Mathlib.Omega.{arith}
use Rattle.words.specs.Tests.{◌and◌, ◌or◌, ◌=?◌}
use Rattle.words.specs.Words.{pick}
use Rattle.torus.specs.Torus.{neighbour_of, opposite_of, is_vertical}
use Rattle.torus.specs.Route.{memory_output, link_cycles}
use Rattle.torus.proofs.NeighbourLaws.{neighbour_inside, neighbour_back as back}
use Rattle.sheet.specs.Sheet.{columns, rows, is_long, nodes}
use Rattle.sheet.specs.Inner.Passed.{Headed}
use Rattle.sheet.proofs.PassedLaws.{in_grid}
use Rattle.network.specs.Cycle.{has_extra}

module _ (z : List ℕ) (H : Headed z) (node : ℕ) (inside : node < nodes z) where
  -- a neighbour is a node of the grid
  pub neighbour_in : (side : ℕ) → neighbour_of (columns z) (rows z) node side < nodes z
  neighbour_in side = neighbour_inside (in_grid z H node inside) side

  -- a step by a side and a step by its opposite lead back
  pub neighbour_back : (side : ℕ) → side < 4
      → neighbour_of (columns z) (rows z) (neighbour_of (columns z) (rows z) node side) (opposite_of side) ≡ node
  neighbour_back side l = back (in_grid z H node inside) side l

-- a memory output has no link, and so takes no cycle; a link that takes one has an extra register
pub link_memory : (long : Bool) (output : ℕ) → output ≡ memory_output → link_cycles long output ≡ 0
unfolding link_cycles is_vertical ◌and◌ ◌or◌ ◌=?◌
link_memory true output e = rw e refl
link_memory false output e = refl

pub link_has : (z : List ℕ) (output : ℕ) → 1 ≤ link_cycles (is_long z) output → has_extra z output ≡ true
unfolding link_cycles has_extra
link_has z output l = go (is_long z and is_vertical output) l
  where
    go : (b : Bool) → 1 ≤ pick b 1 0 → b ≡ true
    go true h = refl
    go false h = absurd (omega arith)

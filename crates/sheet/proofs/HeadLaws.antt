-- The rows of a grid and its kind, from the head's second word as it was read; and the grid, from what was read of it.
-- Assumes nothing.
use Prim.Native.Nat.{ℕ, ◌-◌, ◌≤◌, ◌<◌}
use mathlib.Core.Bool.{Bool}
use mathlib.Core.List.{List}
use mathlib.Core.Path.{◌≡◌, sym, ◌∙◌, ap, ap₂, subst}
use Rattle.words.specs.Tests.{◌≤?◌}
use Rattle.words.specs.Words.{word}
use Rattle.words.proofs.TestLaws.{yes≤, no≤}
use Rattle.std.specs.Prelude.{Option}
use Rattle.torus.specs.declared.Path.{Path}
use Rattle.torus.specs.Route.{route_from}
use Rattle.torus.specs.Inner.Grid.{InGrid}
use Rattle.torus.specs.Inner.Paths.{path_of}
use Rattle.sheet.specs.Sheet.{columns, long_mark, is_long, rows}

module _ (z : List ℕ) (w : ℕ) (e : w ≡ word z 1) where
  pub long_is : (long_mark ≤? w) ≡ is_long z
  unfolding is_long
  long_is = ap (λ (x : ℕ). long_mark ≤? x) e

  -- with the mark the rest of the word is the rows, without it the word
  pub rows_long : long_mark ≤ w → w - long_mark ≡ rows z
  unfolding rows is_long
  rows_long l = rw (yes≤ (subst (λ (x : ℕ). long_mark ≤ x) e l)) (ap (λ (x : ℕ). x - long_mark) e)

  pub rows_short : w < long_mark → w ≡ rows z
  unfolding rows is_long
  rows_short l = rw (no≤ (subst (λ (x : ℕ). x < long_mark) e l)) e

-- the grid as it was read: its nodes, and where routes lead on it
module _ (z : List ℕ) {cols count : ℕ} (x : cols ≡ columns z) (y : count ≡ rows z) where
  pub grid_read : {node : ℕ} → InGrid (columns z) (rows z) node → InGrid cols count node
  grid_read {node} g =
      subst (λ (n : ℕ). InGrid n count node) (sym x) (subst (λ (n : ℕ). InGrid (columns z) n node) (sym y) g)

  pub path_read : (long : Bool) → is_long z ≡ long → (source route : ℕ) (path : Option Path) → path ≡ path_of (route_from cols count long source route)
      → path ≡ path_of (route_from (columns z) (rows z) (is_long z) source route)
  path_read long e source route path q =
      q ∙ ap₂ (λ (a b : ℕ). path_of (route_from a b long source route)) x y
      ∙ ap (λ (k : Bool). path_of (route_from (columns z) (rows z) k source route)) (sym e)

-- A header's walk from router to router, as the code goes it: where it comes from here is always where it came from the start.
-- Assumes nothing.
use Prim.Native.Nat.{ℕ, suc, ◌+◌, ◌<◌, ◌≤◌}
use mathlib.Core.List.{List}
use mathlib.Core.Path.{◌≡◌, sym, subst, ◌∙◌, ap, ap₂}
use native.Mathlib.Omega.{arith}
use Rattle.packet.specs.Header.{shifted_word}
use Rattle.torus.specs.Torus.{neighbour_of, opposite_of}
use Rattle.torus.proofs.NeighbourLaws.{neighbour_inside}
use Rattle.sheet.specs.Sheet.{columns, rows, nodes}
use Rattle.sheet.specs.Inner.Passed.{Headed}
use Rattle.sheet.proofs.PassedLaws.{in_grid}
use Rattle.inbound.specs.Inner.Bound.{one_more}
use Rattle.std.specs.Prelude.{None, Some}
use Rattle.network.specs.View.{memory_output}
use Rattle.network.specs.Cycle.{output_for}
use Rattle.network.specs.Inbound.{bound_for}
use Rattle.network.proofs.StageLaws.{output_for_small}
use Rattle.network.proofs.BoundLaws.{bound_memory, bound_none, from_next, bound_side}

-- the header w at an output of a node, so many routers left, on its way to what is bound
pub record Walking (bound : ℕ) (z : List ℕ) (cols row_count node output w further : ℕ) : Type 0 where
  pub headed : Headed z
  pub cols_are : cols ≡ columns z
  pub rows_are : row_count ≡ rows z
  pub inside : node < nodes z
  pub output_high : output ≤ 4
  pub rest : bound_for further z node output w ≡ bound

module _ {bound : ℕ} {z : List ℕ} {cols row_count node output w further : ℕ} (g : Walking bound z cols row_count node output w further) where
  -- it comes to the memory, or no router is left
  pub walked_memory : output ≡ memory_output → one_more (Some node) ≡ bound
  walked_memory e = sym (bound_memory z node output w further e) ∙ g.rest

  pub walked_none : (output ≡ memory_output → ⊥) → further ≡ 0 → one_more None ≡ bound
  walked_none ne e = sym (bound_none z node output w ne) ∙ ap (λ n. bound_for n z node output w) (sym e) ∙ g.rest

  -- what the next router has, as it was worked out
  at_next : {next onto v : ℕ} → next ≡ neighbour_of (columns z) (rows z) node output → onto ≡ output_for (opposite_of output) w → v ≡ shifted_word w
      → (m : ℕ) → bound_for m z next onto v ≡ from_next z node output w m
  at_next n o h m = cc

  -- it goes on there
  pub walked_on : {next input onto v less : ℕ} → (output ≡ memory_output → ⊥) → further ≡ less + 1 → next ≡ neighbour_of cols row_count node output
      → input ≡ opposite_of output → onto ≡ output_for input w → v ≡ shifted_word w
      → Walking bound z cols row_count next onto v less
  walked_on {next} {input} {onto} {v} {less} ne more n i o h =
      let there : next ≡ neighbour_of (columns z) (rows z) node output = n ∙ ap₂ (λ c r. neighbour_of c r node output) g.cols_are g.rows_are in
      let by : onto ≡ output_for (opposite_of output) w = o ∙ ap (λ x. output_for x w) i in
      let one_less : further ≡ suc less = omega (arith, more) in
      let grid = in_grid z g.headed node g.inside in
      record {
        headed = g.headed;
        cols_are = g.cols_are;
        rows_are = g.rows_are;
        inside = subst (λ m. m < nodes z) (sym there) (neighbour_inside grid output);
        output_high = output_for_small input w onto o;
        rest =
            at_next there by h less ∙ sym (bound_side z node output w less ne)
            ∙ ap (λ m. bound_for m z node output w) (sym one_less)
            ∙ g.rest;
      }

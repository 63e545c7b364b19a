-- Where a header comes to: one router's step of it, and that a header which comes to a memory does so within `furthest` routers. After eight
-- header stages its route is zeros; by zeros it goes to the memory where it came in from the north, else north, and there north for ever.
-- Assumes nothing.
use Prim.Native.Nat.{ℕ, zero, suc, ◌+◌, ◌*◌, ◌^◌, ◌<◌}
use mathlib.Core.List.{List}
use mathlib.Core.Path.{◌≡◌, refl, sym, ◌∙◌, ap}
use native.Mathlib.Decide.{ℕ_discrete}
use native.Mathlib.Nat.{not-suc-le-zero, pow-suc}
use native.Mathlib.Omega.{arith}
use Rattle.words.specs.Tests.{◌=?◌}
use Rattle.words.proofs.TestLaws.{yes=, no=}
use Rattle.packet.specs.Header.{route_of, later_codes, shifted_word}
use Rattle.torus.specs.Torus.{neighbour_of, opposite_of}
use Rattle.torus.specs.Route.{codes, output_of}
use Rattle.torus.proofs.RouteLaws.{output_memory, output_side}
use Rattle.sheet.specs.Sheet.{columns, rows}
use Rattle.network.specs.View.{memory_output}
use Rattle.network.specs.Cycle.{output_for}
use Rattle.network.specs.Inbound.{bound_for, furthest, BoundSettled}

-- a header stage takes the route's first code off
shifted_route : (w : ℕ) → route_of (shifted_word w) ≡ later_codes (route_of w)
shifted_route w = omega arith

-- the output for a route of zeros: the memory for what came in from the north, else north
zeros_memory : (entry w : ℕ) → route_of w ≡ 0 → entry ≡ 0 → output_for entry w ≡ memory_output
unfolding output_for
zeros_memory entry w r e = sym (output_memory (omega arith) e)

zeros_north : (entry w : ℕ) → route_of w ≡ 0 → (entry ≡ 0 → ⊥) → output_for entry w ≡ 0
unfolding output_for
zeros_north entry w r ne = sym (output_side (omega arith) ne)

module _ (z : List ℕ) (node output w : ℕ) where
  -- on the memory's output it is there, over however many routers
  pub bound_memory : (further : ℕ) → output ≡ memory_output → bound_for further z node output w ≡ node + 1
  unfolding bound_for
  bound_memory zero e = rw (yes= e, bound_for) refl
  bound_memory (suc further) e = rw (yes= e, bound_for) refl

  -- on a side's output with no router left it comes to none
  pub bound_none : (output ≡ memory_output → ⊥) → bound_for 0 z node output w ≡ 0
  unfolding bound_for
  bound_none ne = rw (no= ne, bound_for) refl

  -- on a side's output it comes where it comes from the next router
  abbrev pub from_next : ℕ → ℕ
  from_next further =
      bound_for further z (neighbour_of (columns z) (rows z) node output) (output_for (opposite_of output) w) (shifted_word w)

  pub bound_side : (further : ℕ) → (output ≡ memory_output → ⊥) → bound_for (suc further) z node output w ≡ from_next further
  unfolding bound_for
  bound_side further ne = rw (no= ne, bound_for) refl

  -- so two numbers of routers that agree at the next router agree here
  both_next : (more fewer : ℕ) → from_next more ≡ from_next fewer
      → bound_for (suc more) z node output w ≡ bound_for (suc fewer) z node output w
  both_next more fewer h = go (ℕ_discrete output memory_output)
    where
      go : Dec (output ≡ memory_output) → bound_for (suc more) z node output w ≡ bound_for (suc fewer) z node output w
      go (yes e) = bound_memory (suc more) e ∙ sym (bound_memory (suc fewer) e)
      go (no ne) = bound_side more ne ∙ h ∙ sym (bound_side fewer ne)

-- north for ever
north_ever : (further : ℕ) (z : List ℕ) (node w : ℕ) → route_of w ≡ 0 → bound_for further z node 0 w ≡ 0
north_ever zero z node w r = bound_none z node 0 w (λ e. omega (arith, e))
north_ever (suc further) z node w r =
    let next = neighbour_of (columns z) (rows z) node 0 in
    bound_side z node 0 w further (λ e. omega (arith, e))
    ∙ ap (λ output. bound_for further z next output (shifted_word w)) (zeros_north 2 w r (λ e. omega (arith, e)))
    ∙ north_ever further z next (shifted_word w) (shifted_route w ∙ omega arith)

-- behind the codes one router decides
zeros_decide : (further : ℕ) (z : List ℕ) (node entry w : ℕ) → route_of w ≡ 0
    → bound_for further z node (output_for entry w) (shifted_word w) ≡ bound_for 0 z node (output_for entry w) (shifted_word w)
zeros_decide further z node entry w r = go (ℕ_discrete entry 0)
  where
    go : Dec (entry ≡ 0)
        → bound_for further z node (output_for entry w) (shifted_word w) ≡ bound_for 0 z node (output_for entry w) (shifted_word w)
    go (yes e) =
        let out = zeros_memory entry w r e in
        bound_memory z node (output_for entry w) (shifted_word w) further out
        ∙ sym (bound_memory z node (output_for entry w) (shifted_word w) 0 out)
    go (no ne) =
        let zeros = shifted_route w ∙ ap later_codes r in
        ap (λ output. bound_for further z node output (shifted_word w)) (zeros_north entry w r ne)
        ∙ north_ever further z node (shifted_word w) (omega arith)
        ∙ sym
        (ap (λ output. bound_for 0 z node output (shifted_word w)) (zeros_north entry w r ne)
        ∙ north_ever 0 z node (shifted_word w) (omega arith))

-- a route of so many codes at most is settled after one router more
settled_after : (count further : ℕ) (z : List ℕ) (node output w : ℕ) → count < further → route_of w < 4 ^ count
    → bound_for further z node output w ≡ bound_for (suc count) z node output w
settled_after count zero z node output w l r = absurd (not-suc-le-zero l)
settled_after zero (suc further) z node output w l r =
    both_next z node output w further 0
    (zeros_decide further z (neighbour_of (columns z) (rows z) node output) (opposite_of output) w (omega arith))
settled_after (suc count) (suc further) z node output w l r =
    let low : route_of w < 4 ^ count * 4 = rw (pow-suc 4 count) at r in
    both_next z node output w further (suc count)
    (settled_after count further z _ _ (shifted_word w) (omega arith) (omega (arith, shifted_route w)))

-- no header comes to a memory later
pub bound_settled : BoundSettled
bound_settled further z node output w = settled_after 8 (furthest + further) z node output w (omega arith) (omega arith)

-- one router fewer is too few: by seven codes east and the eighth south a header is not yet there, and by the zeros behind them it is
pub fewer_too_few : (z : List ℕ) (node : ℕ) → bound_for codes z node 1 38229 ≡ bound_for furthest z node 1 38229 → ⊥
unfolding bound_for output_for output_of ◌=?◌
fewer_too_few z node e = omega (arith, e)

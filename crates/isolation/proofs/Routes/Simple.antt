-- A route with no more hops than the distance visits no node twice: a loop cut out would leave a shorter walk.
-- Assumes nothing.
use Prim.Native.Nat.{ℕ, zero, suc, ◌+◌, ◌-◌, ◌*◌, ◌<◌, ◌≤◌}
use mathlib.Core.Bool.{Bool, true, false, false≢true}
use mathlib.Core.List.{List}
use mathlib.Core.Path.{◌≡◌, refl, sym, ◌∙◌, ap, subst}
use native.Mathlib.Nat.{zero-add}
use native.Mathlib.Omega.{arith}
use native.Mathlib.Decide.{dec_lt}
use Rattle.words.specs.Tests.{◌=?◌}
use Rattle.words.specs.Words.{pick}
use Rattle.words.proofs.TestLaws.{yes=}
use Rattle.words.proofs.AllLaws.{any_at}
use Rattle.words.proofs.WordLaws.{least_from_least, least_from_most}
use Rattle.torus.specs.Torus.{neighbour_of, walks, distance_of}
use Rattle.torus.specs.Route.{Wire, source, side, memory, Use}
use Rattle.isolation.proofs.Routes.Way.{wire_at, output_wire, way_node, way_output, Way, node_first, node_next}

-- a walk from a neighbour is a longer walk from the node
walk_longer : (cols rows steps node by to : ℕ) → by < 4 → walks cols rows steps (neighbour_of cols rows node by) to ≡ true
    → walks cols rows (suc steps) node to ≡ true
unfolding walks
walk_longer cols rows steps node by to l h = any_at 4 (λ s. walks cols rows steps (neighbour_of cols rows node s) to) by l h

walk_none : (cols rows node to : ℕ) → node ≡ to → walks cols rows 0 node to ≡ true
unfolding walks
walk_none cols rows node to e = yes= e

-- no walk is shorter than the distance
distance_low : (cols rows node to steps most : ℕ) → most ≤ distance_of cols rows node to → walks cols rows steps node to ≡ true
    → steps < most → ⊥
unfolding distance_of
distance_low cols rows node to steps most m h l =
    omega (
      arith,
      least_from_most (λ n. walks cols rows n node to) (cols * rows) 0,
      least_from_least (λ n. walks cols rows n node to) (cols * rows) 0 steps (omega arith)
          (omega (arith, least_from_most (λ n. walks cols rows n node to) (cols * rows) 0)) h,
    )

-- a wire's node, and whether it comes from a source
abbrev wire_node : Wire → ℕ
wire_node (source node) = node
wire_node (side node s) = node
wire_node (memory node) = node

abbrev is_source : Wire → Bool
is_source (source node) = true
is_source (side node s) = false
is_source (memory node) = false

output_node : (node output : ℕ) → wire_node (output_wire node output) ≡ node
unfolding output_wire
output_node node output = go (output =? 4)
  where
    go : (b : Bool) → wire_node (pick b (memory node) (side node output)) ≡ node
    go true = refl
    go false = refl

output_no_source : (node output : ℕ) → is_source (output_wire node output) ≡ false
unfolding output_wire
output_no_source node output = go (output =? 4)
  where
    go : (b : Bool) → is_source (pick b (memory node) (side node output)) ≡ false
    go true = refl
    go false = refl

-- no output's wire is a source's
pub source_no_output : (from node output : ℕ) → source from ≡ output_wire node output → ⊥
source_no_output from node output e = false≢true (sym (output_no_source node output) ∙ ap is_source (sym e))

module _ {cols rows : ℕ} {long : Bool} {from route : ℕ} {uses : List Use} {end hops : ℕ} (w : Way cols rows long from route uses end hops) where
  abbrev node : ℕ → ℕ
  node k = way_node cols rows from route k

  -- a step of the way before a walk
  step_before : (k steps to : ℕ) → k < hops → walks cols rows steps (node (suc k)) to ≡ true → walks cols rows (suc steps) (node k) to ≡ true
  step_before k steps to l h =
      walk_longer cols rows steps (node k) (way_output cols rows from route k) to (w.side_output k l)
      (subst (λ (n : ℕ). walks cols rows steps n to ≡ true) (node_next cols rows from route k) h)

  -- the way to router k before a walk from there
  way_before : (k steps to : ℕ) → k ≤ hops → walks cols rows steps (node k) to ≡ true → walks cols rows (k + steps) from to ≡ true
  way_before zero steps to l h =
      subst (λ (n : ℕ). walks cols rows n from to ≡ true) (sym (zero-add steps))
      (subst (λ (n : ℕ). walks cols rows steps n to ≡ true) (node_first cols rows from route) h)
  way_before (suc k) steps to l h =
      subst (λ (n : ℕ). walks cols rows n from to ≡ true) (omega arith)
      (way_before k (suc steps) to (omega arith) (step_before k steps to (omega arith) h))

  -- the way from router k on
  way_behind : (left k : ℕ) → k + left ≡ hops → walks cols rows left (node k) end ≡ true
  way_behind zero k e = walk_none cols rows (node k) end (ap node (let z : k ≡ hops = omega arith in z) ∙ w.arrives)
  way_behind (suc left) k e = step_before k left end (omega arith) (way_behind left (suc k) (omega arith))

  module _ (short : hops ≤ distance_of cols rows from end) where
    no_loop : (i j : ℕ) → i < j → j ≤ hops → node i ≡ node j → ⊥
    no_loop i j l h e =
        distance_low cols rows from end (i + (hops - j)) hops short
        (way_before i (hops - j) end (omega arith)
        (subst (λ (n : ℕ). walks cols rows (hops - j) n end ≡ true) (sym e) (way_behind (hops - j) j (omega arith))))
        (omega arith)

    -- equal nodes are those of the same router of the way
    pub way_simple : (i j : ℕ) → i ≤ hops → j ≤ hops → way_node cols rows from route i ≡ way_node cols rows from route j → i ≡ j
    way_simple i j hi hj e = go (dec_lt i j) (dec_lt j i)
      where
        go : Dec (i < j) → Dec (j < i) → i ≡ j
        go (yes l) d = absurd (no_loop i j l hj e)
        go (no a) (yes l) = absurd (no_loop j i l hi (sym e))
        go (no a) (no b) = omega arith

    -- no wire is used twice
    pub use_once : (x y : ℕ) → x ≤ hops + 1 → y ≤ hops + 1 → wire_at uses x ≡ wire_at uses y → x ≡ y
    use_once zero zero hx hy e = refl
    use_once zero (suc y) hx hy e =
        absurd (source_no_output from _ _ (sym w.source_wire ∙ e ∙ w.output_wire_is y (omega arith)))
    use_once (suc x) zero hx hy e =
        absurd (source_no_output from _ _ (sym w.source_wire ∙ sym e ∙ w.output_wire_is x (omega arith)))
    use_once (suc x) (suc y) hx hy e =
        ap suc
        (way_simple x y (omega arith) (omega arith)
        (sym (output_node (node x) (way_output cols rows from route x))
        ∙ ap wire_node (sym (w.output_wire_is x (omega arith)) ∙ e ∙ w.output_wire_is y (omega arith))
        ∙ output_node (node y) (way_output cols rows from route y)))

-- A route that leads somewhere is a walk of as many steps as its hops, so it has no fewer hops than the distance.
-- Assumes nothing.
use Prim.Native.Nat.{ℕ, zero, suc, ◌+◌, ◌*◌, ◌<◌, ◌≤◌}
use mathlib.Core.Bool.{Bool, true, false}
use mathlib.Core.List.{List}
use mathlib.Core.Path.{◌≡◌, refl, sym, subst}
use native.Mathlib.Nat.{mod-lt}
use native.Mathlib.Numerals.{add-one}
use native.Mathlib.Omega.{arith}
use native.Mathlib.Decide.{dec_lt, ℕ_discrete}
use Rattle.words.specs.Tests.{◌=?◌}
use Rattle.words.proofs.TestLaws.{yes=}
use Rattle.words.proofs.AllLaws.{any_at}
use Rattle.words.proofs.WordLaws.{least_from_least, least_from_most}
use Rattle.packet.specs.Header.{first_code, later_codes}
use Rattle.torus.specs.Torus.{neighbour_of, opposite_of, walks, distance_of}
use Rattle.torus.specs.Route.{Use, Route, leads, nowhere, memory_output, output_of, ending, over_side, from_source, side, source, follow, route_from, codes, no_side, router_cycles, link_cycles, hop_cycles}
use Rattle.torus.proofs.RouteLaws.{side_small, follow_memory, follow_side}

module _ (cols rows : ℕ) (long : Bool) where
  -- where a route leads, a walk of as many steps as its hops leads too
  abbrev Walked : ℕ → Route → Type 0
  Walked from (leads uses to hops vertical) = walks cols rows hops from to ≡ true
  Walked from nowhere = Unit {0}

  walked_end : (node delay : ℕ) (b : Bool) → Walked node (ending b node delay)
  unfolding walks
  walked_end node delay true = yes= refl
  walked_end node delay false = tt

  walked_on : (node output link : ℕ) (u : Use) → output < 4 → (r : Route) → Walked (neighbour_of cols rows node output) r
      → Walked node (over_side u link r)
  unfolding walks
  walked_on node output link u h (leads uses to hops vertical) w =
      rw add-one (any_at 4 (λ s. walks cols rows hops (neighbour_of cols rows node s) to) output h w)
  walked_on node output link u h nowhere w = tt

  walked : (left node entry delay route : ℕ) → Walked node (follow left cols rows long node entry delay route)
  unfolding follow
  walked zero node entry delay route = tt
  walked (suc left) node entry delay route =
      go (ℕ_discrete output memory_output)
      (walked left (neighbour_of cols rows node output) (opposite_of output) (delay + hop_cycles long output) (later_codes route))
    where
      output : ℕ
      output = output_of entry (first_code route)

      rest : Route
      rest = follow left cols rows long (neighbour_of cols rows node output) (opposite_of output) (delay + hop_cycles long output) (later_codes route)

      go : Dec (output ≡ memory_output) → Walked (neighbour_of cols rows node output) rest
          → Walked node (follow (suc left) cols rows long node entry delay route)
      go (yes e) w =
          subst (Walked node) (sym (follow_memory cols rows long node entry delay route left e)) (walked_end node delay (later_codes route =? 0))
      go (no ne) w =
          subst (Walked node) (sym (follow_side cols rows long node entry delay route left ne))
          (walked_on node output (link_cycles long output) (record { wire = side node output; delay = delay })
          (side_small entry (first_code route) (mod-lt route (omega arith)) ne) rest w)

  walked_source : (node : ℕ) (u : Use) (r : Route) → Walked node r → Walked node (from_source u r)
  walked_source node u (leads uses to hops vertical) w = w
  walked_source node u nowhere w = tt

  -- no route has fewer hops than the distance of its ends
  pub distance_least : (node route : ℕ) (uses : List Use) (to hops vertical : ℕ) → route_from cols rows long node route ≡ leads uses to hops vertical
      → distance_of cols rows node to ≤ hops
  unfolding route_from distance_of
  distance_least node route uses to hops vertical e = go (dec_lt hops (cols * rows))
    where
      walk : walks cols rows hops node to ≡ true
      walk = subst (Walked node) e (walked_source node (record { wire = source node; delay = 0 }) (follow codes cols rows long node no_side router_cycles route) (walked codes node no_side router_cycles route))

      go : Dec (hops < cols * rows) → distance_of cols rows node to ≤ hops
      go (yes h) = least_from_least (λ steps. walks cols rows steps node to) (cols * rows) 0 hops (omega arith) (omega arith) walk
      go (no h) = omega (arith, least_from_most (λ steps. walks cols rows steps node to) (cols * rows) 0)

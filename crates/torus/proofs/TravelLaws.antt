-- A route's last use has a router's cycles of delay for each of its routers, and one more for each hop over a long link.
-- Assumes nothing.
use Prim.Native.Nat.{ℕ, zero, suc, ◌+◌, ◌*◌}
use mathlib.Core.Bool.{Bool, true, false}
use mathlib.Core.List.{List, ◌∷◌}
use mathlib.Core.Path.{◌≡◌, refl, sym, subst}
use native.Mathlib.Numerals.{add-one}
use native.Mathlib.Omega.{arith}
use native.Mathlib.Decide.{ℕ_discrete}
use Rattle.words.specs.Tests.{◌=?◌}
use Rattle.packet.specs.Header.{first_code, later_codes}
use Rattle.torus.specs.Torus.{neighbour_of, opposite_of}
use Rattle.torus.specs.Route.{Use, Route, leads, nowhere, memory_output, output_of, ending, over_side, from_source, side, source, follow, route_from, codes, no_side, router_cycles, link_cycles, hop_cycles}
use Rattle.torus.specs.Inner.Delays.{delay_at, last_delay}
use Rattle.torus.proofs.RouteLaws.{follow_memory, follow_side}

-- a hop takes a router's cycles and those of its link
pub hop_is : (long : Bool) (output : ℕ) → hop_cycles long output ≡ router_cycles + link_cycles long output
unfolding hop_cycles
hop_is long output = refl

-- so many cycles after the first use of a route, followed from a router on, is the last
abbrev Travelled : ℕ → Route → Type 0
Travelled delay (leads uses node hops vertical) = delay_at uses hops ≡ delay + router_cycles * hops + vertical
Travelled delay nowhere = Unit {0}

travelled_end : (node delay : ℕ) (b : Bool) → Travelled delay (ending b node delay)
unfolding delay_at
travelled_end node delay true = omega arith
travelled_end node delay false = tt

travelled_on : (long : Bool) (node output delay : ℕ) (r : Route) → Travelled (delay + hop_cycles long output) r
    → Travelled delay (over_side (record { wire = side node output; delay = delay }) (link_cycles long output) r)
unfolding delay_at
travelled_on long node output delay (leads uses to hops vertical) t =
    let last : delay_at (record { wire = side node output; delay = delay } ∷ uses) (hops + 1) ≡ delay_at uses hops = rw add-one refl in
    omega (arith, last, t, hop_is long output)
travelled_on long node output delay nowhere t = tt

module _ (cols rows : ℕ) (long : Bool) where
  travelled : (left node entry delay route : ℕ) → Travelled delay (follow left cols rows long node entry delay route)
  unfolding follow
  travelled zero node entry delay route = tt
  travelled (suc left) node entry delay route =
      go (ℕ_discrete output memory_output)
      (travelled left (neighbour_of cols rows node output) (opposite_of output) (delay + hop_cycles long output) (later_codes route))
    where
      output : ℕ
      output = output_of entry (first_code route)

      rest : Route
      rest = follow left cols rows long (neighbour_of cols rows node output) (opposite_of output) (delay + hop_cycles long output) (later_codes route)

      go : Dec (output ≡ memory_output) → Travelled (delay + hop_cycles long output) rest
          → Travelled delay (follow (suc left) cols rows long node entry delay route)
      go (yes e) t =
          subst (Travelled delay) (sym (follow_memory cols rows long node entry delay route left e)) (travelled_end node delay (later_codes route =? 0))
      go (no ne) t =
          subst (Travelled delay) (sym (follow_side cols rows long node entry delay route left ne)) (travelled_on long node output delay rest t)

  -- the same from the source on
  abbrev TravelledFrom : Route → Type 0
  TravelledFrom (leads uses node hops vertical) = last_delay (leads uses node hops vertical) ≡ router_cycles * (hops + 1) + vertical
  TravelledFrom nowhere = Unit {0}

  travelled_source : (node : ℕ) (r : Route) → Travelled router_cycles r → TravelledFrom (from_source (record { wire = source node; delay = 0 }) r)
  unfolding delay_at
  travelled_source node (leads uses to hops vertical) t = omega (arith, t)
  travelled_source node nowhere t = tt

  -- a word travels so many cycles along a route that leads somewhere
  pub last_delay_is : (node route : ℕ) (uses : List Use) (to hops vertical : ℕ) → route_from cols rows long node route ≡ leads uses to hops vertical
      → last_delay (leads uses to hops vertical) ≡ router_cycles * (hops + 1) + vertical
  unfolding route_from
  last_delay_is node route uses to hops vertical e =
      subst TravelledFrom e
      (travelled_source node (follow codes cols rows long node no_side router_cycles route) (travelled codes node no_side router_cycles route))

-- A sheet that passes gives its slots their ways: by shortest routes, so that all slots of a circuit have as many routers and travel as
-- long.
-- Assumes nothing.
use Prim.Native.Nat.{ℕ, suc, ◌+◌, ◌≤◌, ◌<◌}
use mathlib.Core.Bool.{true}
use mathlib.Core.List.{List}
use mathlib.Core.Path.{◌≡◌, refl, ◌∙◌, ap}
use native.Mathlib.Omega.{arith}
use Rattle.torus.proofs.WalkLaws.{distance_least}
use Rattle.torus.proofs.VerticalLaws.{vertical_is}
use Rattle.torus.proofs.TravelLaws.{last_delay_is}
use Rattle.torus.proofs.DistanceLaws.{distance_most}
use Rattle.torus.specs.Route.{router_cycles}
use Rattle.sheet.specs.Sheet.{columns, rows, is_long, circuits}
use Rattle.sheet.specs.Slots.{slot_length, slot_route, source_of, destination_of}
use Rattle.sheet.specs.Flight.{hops_of, vertical_of, flight_cycles}
use Rattle.sheet.specs.Rules.{rule11, verdict}
use Rattle.sheet.specs.Inner.Passed.{Routed}
use Rattle.sheet.proofs.PassedLaws.{in_grid}
use Rattle.sheet.proofs.VerdictLaws.{passed, routed}
use Rattle.soundness.proofs.SheetLaws.{sheet_bounds, circuit_bounds}
use Rattle.isolation.specs.Reckoning.{hops_of, flight_cycles}
use Rattle.isolation.proofs.Routes.Way.{way_node, way_input, way_output, way_delay, node_first, input_first, delay_first, node_next, input_next, delay_next, way_inside, header_output}
use Rattle.isolation.proofs.Routes.Apart.{entry_hops, entry_vertical, entry_last_delay, shared_output, shared_source}
use Rattle.isolation.proofs.Routes.Slotted.{slot_entry, slot_small, slot_way, slot_ends, slot_far, slots_apart}
use Rattle.isolation.proofs.Routes.Ways.{Slot, Course, Leads, Ways}

-- the routers of a circuit, one more than its hops
abbrev pub routers_of : List ℕ → ℕ → ℕ
routers_of z circuit = hops_of z circuit + 1

-- the way of a slot's packet
abbrev pub course_at : List ℕ → ℕ → ℕ → ℕ → Course
course_at z schedule cycle circuit = record {
  node = way_node (columns z) (rows z) (source_of z circuit) (slot_route z schedule cycle circuit);
  input = way_input (columns z) (rows z) (source_of z circuit) (slot_route z schedule cycle circuit);
  output = way_output (columns z) (rows z) (source_of z circuit) (slot_route z schedule cycle circuit);
  delay = way_delay (columns z) (rows z) (is_long z) (source_of z circuit) (slot_route z schedule cycle circuit);
}

module _ (z : List ℕ) (g : Routed z) where
  -- a slot has as many hops as its circuit
  slot_hops : (schedule cycle circuit : ℕ) → Slot z schedule cycle circuit
      → entry_hops z (slot_entry z schedule cycle circuit) + 1 ≡ routers_of z circuit
  unfolding slot_entry
  slot_hops schedule cycle circuit s =
      let w = slot_way z g schedule s.schedule_inside cycle circuit s.begins in
      omega (arith, w.short, distance_least (columns z) (rows z) (is_long z) _ _ _ _ _ _ w.leading)

  -- as many of them over long links
  slot_vertical : (schedule cycle circuit : ℕ) → Slot z schedule cycle circuit
      → entry_vertical z (slot_entry z schedule cycle circuit) ≡ vertical_of z circuit
  unfolding slot_entry vertical_of
  slot_vertical schedule cycle circuit s =
      let small = slot_small z g schedule s.schedule_inside cycle circuit s.begins in
      let w = slot_way z g schedule s.schedule_inside cycle circuit s.begins in
      vertical_is (columns z) (rows z) (is_long z) _ _ small.source_inside _ _ _ _ w.leading w.short

  -- and the output of its last router is its circuit's flight away from its source
  slot_travel : (schedule cycle circuit : ℕ) → Slot z schedule cycle circuit → (k : ℕ) → suc k ≡ routers_of z circuit
      → (course_at z schedule cycle circuit).delay k + router_cycles ≡ flight_cycles z circuit
  unfolding slot_entry
  slot_travel schedule cycle circuit s k e =
      let w = slot_way z g schedule s.schedule_inside cycle circuit s.begins in
      let hops : ℕ = entry_hops z (slot_entry z schedule cycle circuit) in
      let same : hops + 1 ≡ routers_of z circuit = slot_hops schedule cycle circuit s in
      let last : k ≡ hops = omega (arith, same) in
      omega (
        arith,
        same,
        ap (course_at z schedule cycle circuit).delay last,
        w.along.output_delay hops (omega arith),
        last_delay_is (columns z) (rows z) (is_long z) _ _ _ _ _ _ w.leading,
        slot_vertical schedule cycle circuit s,
      )

  slot_leads : (schedule cycle circuit : ℕ) → Slot z schedule cycle circuit
      → Leads z schedule cycle circuit (routers_of z circuit) (flight_cycles z circuit) (course_at z schedule cycle circuit)
  unfolding slot_entry
  slot_leads schedule cycle circuit s =
      let small = slot_small z g schedule s.schedule_inside cycle circuit s.begins in
      let led = slot_way z g schedule s.schedule_inside cycle circuit s.begins in
      let w = led.along in
      let hops : ℕ = entry_hops z (slot_entry z schedule cycle circuit) in
      let same : hops + 1 ≡ routers_of z circuit = slot_hops schedule cycle circuit s in
      let from : ℕ = source_of z circuit in
      let route : ℕ = slot_route z schedule cycle circuit in
      record {
        away = omega (arith, same, slot_far z g schedule s.schedule_inside cycle circuit s.begins);
        long = small.size_low;
        route_fits = omega (arith, small.route_high);
        in_grid = λ k l. (way_inside (columns z) (rows z) from route small.source_inside k).inside;
        first_node = node_first (columns z) (rows z) from route;
        first_input = input_first (columns z) (rows z) from route;
        next_node = λ k l. node_next (columns z) (rows z) from route k;
        next_input = λ k l. input_next (columns z) (rows z) from route k;
        side_output = λ k l. w.side_output k (omega (arith, same));
        last_output = λ k e.
            let last : k ≡ hops = omega (arith, same) in
            ap (way_output (columns z) (rows z) from route) last ∙ w.memory_output_is;
        last_node = λ k e.
            let last : k ≡ hops = omega (arith, same) in
            ap (way_node (columns z) (rows z) from route) last ∙ w.arrives;
        asked_output = λ word k e l. header_output (columns z) (rows z) from route word e k;
        first_delay = delay_first (columns z) (rows z) from route (is_long z);
        next_delay = delay_next (columns z) (rows z) from route (is_long z);
        last_delay_at = slot_travel schedule cycle circuit s;
        rule10 = λ k e.
            let last : k ≡ hops = omega (arith, same) in
            omega (
              arith,
              slot_ends z g schedule s.schedule_inside cycle circuit s.begins,
              entry_last_delay z (slot_entry z schedule cycle circuit) led,
              ap (course_at z schedule cycle circuit).delay last,
            );
      }

  module _ (r : rule11 z ≡ true) where
    output_apart : (schedule cycle cycle' circuit circuit' k k' j j' : ℕ)
        → Slot z schedule cycle circuit → Slot z schedule cycle' circuit' → k < routers_of z circuit → k' < routers_of z circuit'
        → j < slot_length z schedule cycle circuit → j' < slot_length z schedule cycle' circuit'
        → cycle + j + (course_at z schedule cycle circuit).delay k ≡ cycle' + j' + (course_at z schedule cycle' circuit').delay k'
        → (course_at z schedule cycle circuit).node k ≡ (course_at z schedule cycle' circuit').node k'
        → (course_at z schedule cycle circuit).output k ≡ (course_at z schedule cycle' circuit').output k'
        → (cycle ≡ cycle') × (circuit ≡ circuit') × (k ≡ k')
    unfolding slot_entry
    output_apart schedule cycle cycle' circuit circuit' k k' j j' s s' kl kl' jl jl' t n o =
        let w = slot_way z g schedule s.schedule_inside cycle circuit s.begins in
        let w' = slot_way z g schedule s'.schedule_inside cycle' circuit' s'.begins in
        let same = slot_hops schedule cycle circuit s in
        let same' = slot_hops schedule cycle' circuit' s' in
        let a =
        slots_apart z g schedule s.schedule_inside r cycle circuit cycle' circuit' s.begins s'.begins (suc k) (suc k') j j'
        (shared_output z (slot_entry z schedule cycle circuit) (slot_entry z schedule cycle' circuit') k k' j j' w w' (omega arith)
        (omega arith) jl jl' n o
        (omega (arith, t, w.along.output_delay k (omega arith), w'.along.output_delay k' (omega arith)))) in
        (a.0, a.1, omega (arith, a.2))

    source_apart : (schedule cycle cycle' circuit circuit' j j' : ℕ)
        → Slot z schedule cycle circuit → Slot z schedule cycle' circuit'
        → j < slot_length z schedule cycle circuit → j' < slot_length z schedule cycle' circuit' → cycle + j ≡ cycle' + j'
        → source_of z circuit ≡ source_of z circuit' → (cycle ≡ cycle') × (circuit ≡ circuit')
    unfolding slot_entry
    source_apart schedule cycle cycle' circuit circuit' j j' s s' jl jl' t n =
        let a =
        slots_apart z g schedule s.schedule_inside r cycle circuit cycle' circuit' s.begins s'.begins 0 0 j j'
        (shared_source z (slot_entry z schedule cycle circuit) (slot_entry z schedule cycle' circuit') j j'
        (slot_way z g schedule s.schedule_inside cycle circuit s.begins)
        (slot_way z g schedule s'.schedule_inside cycle' circuit' s'.begins) jl jl' n t) in
        (a.0, a.1)

-- the ways of a sheet that passes
pub ways_of : (z : List ℕ) → verdict z ≡ 0 → Ways z
ways_of z e = record {
  routers = routers_of z;
  travel = flight_cycles z;
  course = course_at z;
  leads = slot_leads z (routed z e);
  rule11 = output_apart z (routed z e) (passed z e).rule11_kept;
  rule11_source = source_apart z (routed z e) (passed z e).rule11_kept;
}

pub travel_is : (z : List ℕ) (e : verdict z ≡ 0) (circuit : ℕ) → (ways_of z e).travel circuit ≡ flight_cycles z circuit
unfolding ways_of
travel_is z e circuit = refl

-- no grid has a longer way than over four hops
pub routers_few : (z : List ℕ) (e : verdict z ≡ 0) (circuit : ℕ) → circuit < circuits z → (ways_of z e).routers circuit ≤ 5
unfolding ways_of
routers_few z e circuit l =
    let b = sheet_bounds z e in
    let c = circuit_bounds z b circuit l in
    let h = b.ranged.framed.headed in
    omega (
      arith,
      distance_most (columns z) (rows z) (source_of z circuit) (destination_of z circuit) (in_grid z h (source_of z circuit) c.source_inside)
          (in_grid z h (destination_of z circuit) c.destination_inside),
    )

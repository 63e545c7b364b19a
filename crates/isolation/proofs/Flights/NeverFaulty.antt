-- A session on a sheet that passes has no fault, and what its circuits send is what lands.
-- Assumes nothing.
use Prim.Native.Nat.{ℕ, ◌+◌, ◌<◌}
use mathlib.Core.Bool.{true, false}
use mathlib.Core.List.{List}
use mathlib.Core.Path.{◌≡◌, sym, ap}
use Rattle.sheet.specs.Sheet.{circuits, nodes}
use Rattle.sheet.specs.Slots.{destination_of}
use Rattle.sheet.specs.Flight.{flight_cycles}
use Rattle.sheet.specs.Rules.{verdict}
use Rattle.network.specs.View.{View}
use Rattle.network.specs.Cycle.{tick, faulty}
use Rattle.soundness.proofs.SheetLaws.{sheet_bounds}
use Rattle.isolation.proofs.Routes.SheetWays.{ways_of, travel_is}
use Rattle.isolation.specs.Reckoning.{flight_cycles}
use Rattle.isolation.proofs.Flights.Trajectory.{Trajectory}
use Rattle.isolation.proofs.Flights.Deliver.{is_landed, leaving_now, delivered, Came, came_from, no_fault}

module _ (z : List ℕ) (passes : verdict z ≡ 0) (S : ℕ → View) (J : Trajectory z S) where
  -- no cycle has a fault
  pub never_faulty : (T : ℕ) → faulty z (S T) ≡ false
  never_faulty = no_fault z (sheet_bounds z passes) (ways_of z passes) S J

  -- what a circuit sends lands at its destination after its flight
  pub sent_lands : (t circuit : ℕ) → circuit < circuits z → is_landed (leaving_now z (S t) circuit) ≡ true
      → (tick z (S (t + flight_cycles z circuit))).landing (destination_of z circuit) ≡ leaving_now z (S t) circuit
  sent_lands t circuit l full =
      delivered z (sheet_bounds z passes) (ways_of z passes) S J t (t + flight_cycles z circuit) circuit l
      (ap (λ n. t + n) (sym (travel_is z passes circuit))) full

  -- and all that lands was sent so
  pub landed_sent : (T node : ℕ) → node < nodes z → is_landed ((tick z (S T)).landing node) ≡ true
      → Came z (ways_of z passes) S T node ((tick z (S T)).landing node)
  landed_sent = came_from z (sheet_bounds z passes) (ways_of z passes) S J

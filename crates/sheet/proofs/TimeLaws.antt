-- Number 10 in delays: a packet's last word is on its route's last wire at most five cycles behind the period. And a flight time comes of
-- the grid and the circuit's nodes alone.
-- Assumes nothing.
use Prim.Native.Nat.{ℕ, ◌+◌, ◌-◌, ◌*◌, ◌<◌, ◌≤◌}
use mathlib.Core.Bool.{Bool, true}
use mathlib.Core.List.{List}
use mathlib.Core.Path.{◌≡◌, refl, ◌∙◌, ap, ap₂}
use native.Mathlib.Omega.{arith}
use Rattle.words.specs.Words.{pick}
use Rattle.words.proofs.TestLaws.{is≤}
use Rattle.words.proofs.AllLaws.{all_at}
use Rattle.torus.specs.Torus.{row_of, distance_of, shorter_way}
use Rattle.torus.specs.Route.{Route, leads, nowhere, router_cycles}
use Rattle.torus.specs.Inner.Delays.{last_delay}
use Rattle.torus.proofs.TravelLaws.{last_delay_is}
use Rattle.sheet.specs.declared.circuits.Circuit.{Circuit}
use Rattle.sheet.specs.declared.entries.Entry.{Entry}
use Rattle.sheet.specs.Sheet.{columns, rows, is_long, schedules, period, circuit_at, entries_of, entry_count, entry_at}
use Rattle.sheet.specs.Flight.{hops_of, vertical_of, flight_cycles}
use Rattle.sheet.specs.Rules.{each_entry, entry_route, route_hops, route_vertical, entry_ends, rule10}
use Rattle.sheet.specs.Inner.Passed.{Routed}
use Rattle.sheet.proofs.PassedLaws.{entry_small}

-- number 10 speaks of hops and long links: here they become the delay of the route's last wire
pub ends_in_time : (z : List ℕ) (P : ℕ) (e : Entry) → 1 ≤ e.size → entry_ends z P e ≡ true → e.offset + last_delay (entry_route z e) + e.size ≤ P + 6
unfolding entry_route entry_ends
ends_in_time z P e l h = go (entry_route z e) refl (is≤ _ _ h)
  where
    go : (r : Route) → entry_route z e ≡ r → e.offset + e.size - 1 + router_cycles * route_hops r + route_vertical r ≤ P + 2
        → e.offset + last_delay r + e.size ≤ P + 6
    go (leads uses node hops vertical) q t =
        omega (arith, last_delay_is (columns z) (rows z) (is_long z) (circuit_at z e.circuit).read.node e.route uses node hops vertical q)
    go nowhere q t = omega arith

-- so each entry of a sheet that keeps number 10 ends in time
pub entry_in_time : (z : List ℕ) → Routed z → (j : ℕ) → j < schedules z → (i : ℕ) → i < entry_count (entries_of z j)
    → (entry_at (entries_of z j) i).offset + last_delay (entry_route z (entry_at (entries_of z j) i)) + (entry_at (entries_of z j) i).size ≤ period z j + 6
unfolding rule10 each_entry
entry_in_time z r j h i l =
    ends_in_time z (period z j) (entry_at (entries_of z j) i) (omega (arith, (entry_small z r.ranged j h i l).size_low))
    (all_at (λ i. entry_ends z (period z j) (entry_at (entries_of z j) i)) (entry_count (entries_of z j))
    (all_at (λ j. each_entry z j (entry_ends z (period z j))) (schedules z) r.packets_end j h) i l)

-- circuits of two sheets with one grid, of one kind, and the same two nodes are as many hops apart, and fly as long
module _ (z z' : List ℕ) (c d : ℕ) (e : columns z ≡ columns z') (f : rows z ≡ rows z') (l : is_long z ≡ is_long z')
    (g : circuit_at z c ≡ circuit_at z' d) where
  hops_same : hops_of z c ≡ hops_of z' d
  hops_same =
      ap (λ (m : Circuit). distance_of (columns z) (rows z) m.read.node m.receive.node) g
      ∙ ap₂ (λ (k l : ℕ). distance_of k l (circuit_at z' d).read.node (circuit_at z' d).receive.node) e f

  vertical_same : vertical_of z c ≡ vertical_of z' d
  unfolding vertical_of
  vertical_same =
      ap (λ (m : Circuit). pick (is_long z) (shorter_way (rows z) (row_of (columns z) m.read.node) (row_of (columns z) m.receive.node)) 0) g
      ∙ ap₂ (λ (k n : ℕ). pick (is_long z) (shorter_way n (row_of k (circuit_at z' d).read.node) (row_of k (circuit_at z' d).receive.node)) 0) e f
      ∙ ap (λ (b : Bool). pick b (shorter_way (rows z') (row_of (columns z') (circuit_at z' d).read.node)
      (row_of (columns z') (circuit_at z' d).receive.node)) 0) l

  pub flight_same : flight_cycles z c ≡ flight_cycles z' d
  flight_same = ap₂ (λ (h v : ℕ). router_cycles * (h + 1) + v) hops_same vertical_same

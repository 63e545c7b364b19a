-- What rules 9, 10 and 11 say of a schedule'z entries: each has its way, ends in time, and shares no wire in a cycle with another.
-- Assumes nothing.
use Prim.Native.Nat.{ℕ, suc, ◌+◌, ◌<◌, ◌≤◌}
use mathlib.Core.Bool.{Bool, true, not, false≢true}
use mathlib.Core.List.{List}
use mathlib.Core.Path.{◌≡◌, refl, sym, ◌∙◌, ap, ap₂, subst}
use native.Mathlib.Omega.{arith}
use native.Mathlib.Decide.{ℕ_discrete, dec_lt}
use lib.ListN.{length}
use Rattle.words.specs.Tests.{all, ◌≤?◌, ◌=?◌}
use Rattle.words.proofs.TestLaws.{and_left, and_right, is=, is≤}
use Rattle.words.proofs.AllLaws.{all_at}
use Rattle.torus.specs.Route.{Wire, source, Use, Route, leads, nowhere, route_from, router_cycles}
use Rattle.torus.specs.Inner.Delays.{delay_at, last_delay}
use Rattle.sheet.specs.declared.entries.Entry.{Entry}
use Rattle.sheet.specs.Sheet.{columns, rows, is_long, schedules, circuit_at, entries_of, entry_count, entry_at}
use Rattle.sheet.specs.Flight.{hops_of}
use Rattle.sheet.specs.Wires.{member, meet}
use Rattle.sheet.specs.Rules.{each_entry, entry_route, reaches, entry_leads, rule9, route_hops, route_vertical, uses_of, entry_occupied, rule11_at, rule11}
use Rattle.sheet.specs.Inner.Passed.{Routed}
use Rattle.isolation.proofs.Routes.Way.{wire_at, output_wire, way_node, way_input, way_output, way_delay, Way, way}
use Rattle.isolation.proofs.Routes.Simple.{use_once}
use Rattle.isolation.proofs.Routes.Meet.{wire_in, occupied_at, meet_yes}

-- an entry'z ends, uses, hops, and hops over long links
abbrev pub entry_source : List ℕ → Entry → ℕ
entry_source z e = (circuit_at z e.circuit).read.node

abbrev pub entry_end : List ℕ → Entry → ℕ
entry_end z e = (circuit_at z e.circuit).receive.node

unfoldable pub entry_uses : List ℕ → Entry → List Use
entry_uses z e = uses_of (entry_route z e)

unfoldable pub entry_hops : List ℕ → Entry → ℕ
entry_hops z e = route_hops (entry_route z e)

unfoldable pub entry_vertical : List ℕ → Entry → ℕ
entry_vertical z e = route_vertical (entry_route z e)

-- its way: node, input, output and delay of router k
abbrev pub entry_node : List ℕ → Entry → ℕ → ℕ
entry_node z e k = way_node (columns z) (rows z) (entry_source z e) e.route k

abbrev pub entry_input : List ℕ → Entry → ℕ → ℕ
entry_input z e k = way_input (columns z) (rows z) (entry_source z e) e.route k

abbrev pub entry_output : List ℕ → Entry → ℕ → ℕ
entry_output z e k = way_output (columns z) (rows z) (entry_source z e) e.route k

abbrev pub entry_delay : List ℕ → Entry → ℕ → ℕ
entry_delay z e k = way_delay (columns z) (rows z) (is_long z) (entry_source z e) e.route k

-- number 9 at an entry: its route leads along its way to its circuit'z destination, in no more hops than the distance
pub record EntryWay (z : List ℕ) (e : Entry) : Type 0 where
  pub leading : route_from (columns z) (rows z) (is_long z) (entry_source z e) e.route
      ≡ leads (entry_uses z e) (entry_end z e) (entry_hops z e) (entry_vertical z e)
  pub along : Way (columns z) (rows z) (is_long z) (entry_source z e) e.route (entry_uses z e) (entry_end z e) (entry_hops z e)
  pub short : entry_hops z e ≤ hops_of z e.circuit

reached : (r : Route) (to most : ℕ) → reaches r to most ≡ true
    → (r ≡ leads (uses_of r) to (route_hops r) (route_vertical r)) × (route_hops r ≤ most)
reached (leads uses node hops vertical) to most e =
    (ap (λ (n : ℕ). leads uses n hops vertical) (is= node to (and_left _ _ e)), is≤ hops most (and_right (node =? to) (hops ≤? most) e))
reached nowhere to most e = absurd (false≢true e)

led_way : (z : List ℕ) (e : Entry) → entry_leads z e ≡ true → EntryWay z e
unfolding entry_leads entry_route entry_uses entry_hops entry_vertical
led_way z e h =
    let r = reached (entry_route z e) (entry_end z e) (hops_of z e.circuit) h in
    record {
      leading = r.0;
      along = way (columns z) (rows z) (entry_source z e) e.route (is_long z) (entry_uses z e) (entry_end z e) (entry_hops z e) (entry_vertical z e) r.0;
      short = r.1;
    }

-- what is tested of each entry holds of each
each_entry_of : (z : List ℕ) (test : ℕ → Entry → Bool) → all (schedules z) (λ j. each_entry z j (test j)) ≡ true
    → (j : ℕ) → j < schedules z → (i : ℕ) → i < entry_count (entries_of z j) → test j (entry_at (entries_of z j) i) ≡ true
unfolding each_entry
each_entry_of z test h j jl i il =
    all_at (λ i. test j (entry_at (entries_of z j) i)) (entry_count (entries_of z j))
    (all_at (λ j. each_entry z j (test j)) (schedules z) h j jl) i il

pub entry_way : (z : List ℕ) → rule9 z ≡ true → (j : ℕ) → j < schedules z → (i : ℕ) → i < entry_count (entries_of z j)
    → EntryWay z (entry_at (entries_of z j) i)
unfolding rule9
entry_way z h j jl i il = led_way z (entry_at (entries_of z j) i) (each_entry_of z (λ j. entry_leads z) h j jl i il)

-- the delay of its last wire is that of its last router'z output
pub entry_last_delay : (z : List ℕ) (e : Entry) → EntryWay z e → last_delay (entry_route z e) ≡ entry_delay z e (entry_hops z e) + router_cycles
unfolding entry_route
entry_last_delay z e w = ap last_delay w.leading ∙ w.along.output_delay (entry_hops z e) (omega arith)

-- two entries with one wire in one cycle meet
entries_meet : (z : List ℕ) (e f : Entry) (x y a b : ℕ) → x < length (entry_uses z e) → y < length (entry_uses z f)
    → a < e.size → b < f.size → wire_at (entry_uses z e) x ≡ wire_at (entry_uses z f) y
    → e.offset + delay_at (entry_uses z e) x + a ≡ f.offset + delay_at (entry_uses z f) y + b
    → meet (entry_occupied z e) (entry_occupied z f) ≡ true
unfolding entry_occupied entry_uses
entries_meet z e f x y a b xl yl al bl w t =
    let cycle = e.offset + delay_at (entry_uses z e) x + a in
    meet_yes (wire_at (entry_uses z e) x) cycle (entry_occupied z e) (entry_occupied z f)
    (occupied_at (entry_uses z e) e.size e.offset x a cycle xl al refl)
    (subst (λ (v : Wire). member (wire_in v cycle) (entry_occupied z f) ≡ true) (sym w)
    (occupied_at (entry_uses z f) f.size f.offset y b cycle yl bl (sym t)))

-- rule 11 at two entries
later_apart : (z : List ℕ) → rule11 z ≡ true → (j : ℕ) → j < schedules z → (i k : ℕ) → i < entry_count (entries_of z j) → k < i
    → meet (entry_occupied z (entry_at (entries_of z j) i)) (entry_occupied z (entry_at (entries_of z j) k)) ≡ true → ⊥
unfolding rule11 rule11_at
later_apart z h j jl i k il kl e =
    let E = entry_at (entries_of z j) in
    false≢true
    (sym (ap not e)
    ∙ all_at (λ k. not (meet (entry_occupied z (E i)) (entry_occupied z (E k)))) i
    (all_at (λ i. all i (λ k. not (meet (entry_occupied z (E i)) (entry_occupied z (E k))))) (entry_count (entries_of z j))
    (all_at (rule11_at z) (schedules z) h j jl) i il) k kl)

-- two entries have one wire in one cycle: use x of the one and word a there, use y of the other and word b
pub record Shared (z : List ℕ) (e f : Entry) (x y a b : ℕ) : Type 0 where
  pub first_use : x ≤ entry_hops z e + 1
  pub second_use : y ≤ entry_hops z f + 1
  pub first_word : a < e.size
  pub second_word : b < f.size
  pub one_wire : wire_at (entry_uses z e) x ≡ wire_at (entry_uses z f) y
  pub one_cycle : e.offset + delay_at (entry_uses z e) x + a ≡ f.offset + delay_at (entry_uses z f) y + b

-- the same the other way round
turned : (z : List ℕ) (e f : Entry) (x y a b : ℕ) → Shared z e f x y a b → Shared z f e y x b a
turned z e f x y a b h = record {
  first_use = h.second_use;
  second_use = h.first_use;
  first_word = h.second_word;
  second_word = h.first_word;
  one_wire = sym h.one_wire;
  one_cycle = sym h.one_cycle;
}

-- then they meet
shared_meet : (z : List ℕ) (e f : Entry) (x y a b : ℕ) → EntryWay z e → EntryWay z f → Shared z e f x y a b
    → meet (entry_occupied z e) (entry_occupied z f) ≡ true
shared_meet z e f x y a b p q h =
    entries_meet z e f x y a b (omega (arith, p.along.counted, h.first_use)) (omega (arith, q.along.counted, h.second_use))
    h.first_word h.second_word h.one_wire h.one_cycle

-- an entry has a wire in a cycle once
pub shared_self : (z : List ℕ) (e : Entry) (x y a b : ℕ) → EntryWay z e → Shared z e e x y a b → (x ≡ y) × (a ≡ b)
shared_self z e x y a b p h =
    let q = use_once p.along p.short x y h.first_use h.second_use h.one_wire in
    (q, omega (arith, ap (delay_at (entry_uses z e)) q, h.one_cycle))

module _ (z : List ℕ) (g : Routed z) (h : rule11 z ≡ true) (j : ℕ) (jl : j < schedules z) where
  abbrev entry : ℕ → Entry
  entry i = entry_at (entries_of z j) i

  -- number 11: no two entries of a schedule share a wire in a cycle
  pub entries_apart : (i k : ℕ) → i < entry_count (entries_of z j) → k < entry_count (entries_of z j) → (i ≡ k → ⊥) → (x y a b : ℕ)
      → Shared z (entry_at (entries_of z j) i) (entry_at (entries_of z j) k) x y a b → ⊥
  entries_apart i k il kl ne x y a b m = go (dec_lt i k) (dec_lt k i)
    where
      p : EntryWay z (entry i)
      p = entry_way z g.routes_lead j jl i il

      q : EntryWay z (entry k)
      q = entry_way z g.routes_lead j jl k kl

      go : Dec (i < k) → Dec (k < i) → ⊥
      go (yes l) d =
          later_apart z h j jl k i kl l
          (shared_meet z (entry k) (entry i) y x b a q p (turned z (entry i) (entry k) x y a b m))
      go (no l) (yes r) = later_apart z h j jl i k il r (shared_meet z (entry i) (entry k) x y a b p q m)
      go (no l) (no r) = ne (omega arith)

  -- so one wire in one cycle is of one entry, and there of one use and one word
  pub shared_same : (i k : ℕ) → i < entry_count (entries_of z j) → k < entry_count (entries_of z j) → (x y a b : ℕ)
      → Shared z (entry_at (entries_of z j) i) (entry_at (entries_of z j) k) x y a b → (i ≡ k) × (x ≡ y) × (a ≡ b)
  shared_same i k il kl x y a b m = go (ℕ_discrete i k)
    where
      go : Dec (i ≡ k) → (i ≡ k) × (x ≡ y) × (a ≡ b)
      go (yes e) =
          let o =
          shared_self z (entry i) x y a b (entry_way z g.routes_lead j jl i il)
          (subst (λ (n : ℕ). Shared z (entry i) (entry n) x y a b) (sym e) m) in
          (e, o.0, o.1)
      go (no ne) = absurd (entries_apart i k il kl ne x y a b m)

-- two outputs with one word: the same node and the same output are the same wire
pub shared_output : (z : List ℕ) (e f : Entry) (k m a b : ℕ) → EntryWay z e → EntryWay z f → k ≤ entry_hops z e → m ≤ entry_hops z f
    → a < e.size → b < f.size → entry_node z e k ≡ entry_node z f m → entry_output z e k ≡ entry_output z f m
    → e.offset + delay_at (entry_uses z e) (suc k) + a ≡ f.offset + delay_at (entry_uses z f) (suc m) + b
    → Shared z e f (suc k) (suc m) a b
shared_output z e f k m a b p q kl ml al bl n o t = record {
  first_use = omega arith;
  second_use = omega arith;
  first_word = al;
  second_word = bl;
  one_wire = p.along.output_wire_is k kl ∙ ap₂ output_wire n o ∙ sym (q.along.output_wire_is m ml);
  one_cycle = t;
}

-- two source wires of one node
pub shared_source : (z : List ℕ) (e f : Entry) (a b : ℕ) → EntryWay z e → EntryWay z f → a < e.size → b < f.size
    → entry_source z e ≡ entry_source z f → e.offset + a ≡ f.offset + b → Shared z e f 0 0 a b
shared_source z e f a b p q al bl n t = record {
  first_use = omega arith;
  second_use = omega arith;
  first_word = al;
  second_word = bl;
  one_wire = p.along.source_wire ∙ ap source n ∙ sym q.along.source_wire;
  one_cycle = omega (arith, p.along.source_delay, q.along.source_delay);
}

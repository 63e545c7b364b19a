-- A slot that begins in a cycle is an entry of its schedule: what rules 4, 7, 9, 10 and 11 say, by schedule, cycle and circuit.
-- Assumes nothing.
use Prim.Native.Nat.{ℕ, ◌+◌, ◌-◌, ◌<◌, ◌≤◌}
use mathlib.Core.Bool.{Bool, true, false, false≢true}
use mathlib.Core.List.{List}
use mathlib.Core.Path.{◌≡◌, refl, sym, ◌∙◌, ap, subst}
use native.Mathlib.Omega.{arith}
use Rattle.words.specs.Tests.{◌=?◌, ◌<?◌}
use Rattle.words.proofs.TestLaws.{and_left, and_right, yes=, is=, is≠}
use Rattle.words.proofs.AllLaws.{all_at}
use Rattle.words.proofs.WordLaws.{last_of_le, last_of_passes}
use Rattle.torus.specs.Inner.Delays.{last_delay}
use Rattle.sheet.specs.declared.circuits.Circuit.{Circuit}
use Rattle.sheet.specs.declared.entries.Entry.{Entry}
use Rattle.sheet.specs.Sheet.{memory_words, circuits, nodes, schedules, circuit_at, period, entries_of, entry_count, entry_at}
use Rattle.sheet.specs.Slots.{begins_at, entry_beginning, slot_length, slot_route, source_of, destination_of}
use Rattle.sheet.specs.Rules.{circuit_fits, rule4, entry_route, rule11}
use Rattle.sheet.specs.Inner.Passed.{Routed, EntrySmall}
use Rattle.sheet.proofs.PassedLaws.{entry_small}
use Rattle.sheet.proofs.TimeLaws.{entry_in_time}
use Rattle.isolation.proofs.Routes.Way.{hops_some}
use Rattle.isolation.proofs.Routes.Apart.{entry_hops, EntryWay, entry_way, Shared, shared_same}

-- the entry of a slot: in a schedule, the cycle in which it begins, its circuit
unfoldable pub slot_entry : List ℕ → ℕ → ℕ → ℕ → Entry
slot_entry z j cycle circuit =
    record { offset = cycle; size = slot_length z j cycle circuit; circuit = circuit; route = slot_route z j cycle circuit }

-- its number in the schedule
pub record SlotFound (z : List ℕ) (j cycle circuit : ℕ) : Type 0 where
  pub place : ℕ
  pub listed : place < entry_count (entries_of z j)
  pub entry_is : entry_at (entries_of z j) place ≡ slot_entry z j cycle circuit

made_of : (e : Entry) (offset size circuit route : ℕ) → e.offset ≡ offset → e.size ≡ size → e.circuit ≡ circuit → e.route ≡ route
    → e ≡ record { offset = offset; size = size; circuit = circuit; route = route }
made_of e offset size circuit route a b c d = rw (sym a, sym b, sym c, sym d) refl

-- a slot with a length is an entry
pub slot : (z : List ℕ) (j cycle circuit : ℕ) → 0 < slot_length z j cycle circuit → SlotFound z j cycle circuit
unfolding slot_length slot_route slot_entry entry_beginning begins_at
slot z j cycle circuit h = go (entry_beginning z j cycle circuit =? 0) refl
  where
    go : (b : Bool) → (entry_beginning z j cycle circuit =? 0) ≡ b → SlotFound z j cycle circuit
    go true q = absurd (let y = rw q at h in omega arith)
    go false q =
        let k = entry_beginning z j cycle circuit in
        let some : k ≡ 0 → ⊥ = λ e. false≢true (sym q ∙ yes= e) in
        let p = last_of_passes (begins_at z j cycle circuit) (entry_count (entries_of z j)) some in
        record {
          place = k - 1;
          listed = omega (arith, last_of_le (begins_at z j cycle circuit) (entry_count (entries_of z j)), some);
          entry_is =
              made_of (entry_at (entries_of z j) (k - 1)) cycle (slot_length z j cycle circuit) circuit (slot_route z j cycle circuit)
              (is= _ _ (and_left _ _ p)) (rw q refl)
              (is= _ circuit (and_right ((entry_at (entries_of z j) (k - 1)).offset =? cycle) _ p)) (rw q refl);
        }

-- number 4: a circuit's source and destination differ
fits_differ : (count memory : ℕ) (c : Circuit) → circuit_fits count memory c ≡ true → c.read.node ≡ c.receive.node → ⊥
unfolding circuit_fits
fits_differ count memory c h =
    is≠ c.read.node c.receive.node
    (and_left _ _ (and_right (c.receive.node <? count) _ (and_right (c.read.node <? count) _ h)))

pub ends_differ : (z : List ℕ) → rule4 z ≡ true → (circuit : ℕ) → circuit < circuits z → source_of z circuit ≡ destination_of z circuit → ⊥
unfolding rule4
ends_differ z h circuit l =
    fits_differ (nodes z) (memory_words z) (circuit_at z circuit)
    (all_at (λ k. circuit_fits (nodes z) (memory_words z) (circuit_at z k)) (circuits z) h circuit l)

module _ (z : List ℕ) (g : Routed z) (j : ℕ) (jl : j < schedules z) where
  module _ (cycle circuit : ℕ) (h : 0 < slot_length z j cycle circuit) where
    abbrev found : SlotFound z j cycle circuit
    found = slot z j cycle circuit h

    -- rules 4 and 7 at a slot
    pub slot_small : EntrySmall z j (slot_entry z j cycle circuit)
    slot_small = subst (EntrySmall z j) found.entry_is (entry_small z g.ranged j jl found.place found.listed)

    -- number 9
    pub slot_way : EntryWay z (slot_entry z j cycle circuit)
    slot_way = subst (EntryWay z) found.entry_is (entry_way z g.routes_lead j jl found.place found.listed)

    -- number 10
    pub slot_ends : cycle + last_delay (entry_route z (slot_entry z j cycle circuit)) + slot_length z j cycle circuit ≤ period z j + 6
    unfolding slot_entry
    slot_ends =
        subst (λ (e : Entry). e.offset + last_delay (entry_route z e) + e.size ≤ period z j + 6) found.entry_is
        (entry_in_time z g j jl found.place found.listed)

    -- a slot's packet leaves its source's node
    pub slot_far : 1 ≤ entry_hops z (slot_entry z j cycle circuit)
    unfolding slot_entry
    slot_far = hops_some slot_way.along (ends_differ z g.ranged.circuits_fit circuit slot_small.circuit_inside)

  -- number 11: one wire in one cycle is of one slot, and there of one use and one word
  pub slots_apart : rule11 z ≡ true → (cycle circuit cycle' circuit' : ℕ) → 0 < slot_length z j cycle circuit
      → 0 < slot_length z j cycle' circuit' → (x y a b : ℕ)
      → Shared z (slot_entry z j cycle circuit) (slot_entry z j cycle' circuit') x y a b
      → (cycle ≡ cycle') × (circuit ≡ circuit') × (x ≡ y) × (a ≡ b)
  unfolding slot_entry
  slots_apart r cycle circuit cycle' circuit' h h' x y a b m =
      let p = slot z j cycle circuit h in
      let q = slot z j cycle' circuit' h' in
      let m₁ = subst (λ (e : Entry). Shared z e (slot_entry z j cycle' circuit') x y a b) (sym p.entry_is) m in
      let m₂ = subst (λ (e : Entry). Shared z (entry_at (entries_of z j) p.place) e x y a b) (sym q.entry_is) m₁ in
      let o = shared_same z g r j jl p.place q.place p.listed q.listed x y a b m₂ in
      let e : slot_entry z j cycle circuit ≡ slot_entry z j cycle' circuit' =
      sym p.entry_is ∙ ap (entry_at (entries_of z j)) o.0 ∙ q.entry_is in
      (ap (λ (e : Entry). e.offset) e, ap (λ (e : Entry). e.circuit) e, o.1, o.2)

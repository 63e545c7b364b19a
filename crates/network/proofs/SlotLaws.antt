-- The slot that begins in a cycle: its length and its route, from the entry that was found.
-- Assumes nothing.
use Prim.Native.Nat.{ℕ, ◌-◌, ◌<◌}
use mathlib.Core.Bool.{Bool, true, false, false≢true}
use mathlib.Core.List.{List}
use mathlib.Core.Path.{◌≡◌, refl, sym, ◌∙◌, ap}
use native.Mathlib.Omega.{arith}
use Rattle.words.specs.Tests.{◌=?◌}
use Rattle.words.specs.Words.{pick}
use Rattle.words.proofs.TestLaws.{yes=, no=}
use Rattle.words.proofs.WordLaws.{last_of_le}
use Rattle.sheet.specs.declared.entries.Entry.{Entry}
use Rattle.packet.specs.Header.{routes}
use Rattle.sheet.specs.Sheet.{schedules, entries_of, entry_count, entry_at}
use Rattle.sheet.specs.Inner.Passed.{Ranged}
use Rattle.sheet.proofs.PassedLaws.{entry_small}
use Rattle.sheet.specs.Slots.{begins_at, entry_beginning, slot_length, slot_route}

module _ (z : List ℕ) (j cycle circuit : ℕ) where
  -- the entry that was found is one of the schedule's
  pub found_inside : (found : ℕ) (entries : List ℕ) → found ≡ entry_beginning z j cycle circuit → (found ≡ 0 → ⊥)
      → entries ≡ entries_of z j → found - 1 < entry_count entries
  unfolding entry_beginning
  found_inside found entries e ne q =
      let most = last_of_le (begins_at z j cycle circuit) (entry_count (entries_of z j)) in
      let same : entry_count entries ≡ entry_count (entries_of z j) = ap entry_count q in
      omega (arith, ne)

  -- the slot, from the entry that was found
  module _ (found : ℕ) (e : found ≡ entry_beginning z j cycle circuit) where
    pub length_none : found ≡ 0 → 0 ≡ slot_length z j cycle circuit
    unfolding slot_length
    length_none h = rw (yes= (sym e ∙ h))

    pub route_none : found ≡ 0 → 0 ≡ slot_route z j cycle circuit
    unfolding slot_route
    route_none h = rw (yes= (sym e ∙ h))

    module _ (entries : List ℕ) (q : entries ≡ entries_of z j) (x : Entry) (r : x ≡ entry_at entries (found - 1)) where
      found_entry : x ≡ entry_at (entries_of z j) (entry_beginning z j cycle circuit - 1)
      found_entry =
          r ∙ ap (λ (l : List ℕ). entry_at l (found - 1)) q ∙ ap (λ (n : ℕ). entry_at (entries_of z j) (n - 1)) e

      pub length_is : (found ≡ 0 → ⊥) → x.size ≡ slot_length z j cycle circuit
      unfolding slot_length
      length_is ne = rw (no= (λ h. ne (e ∙ h))) (ap (λ (y : Entry). y.size) found_entry)

      pub route_is : (found ≡ 0 → ⊥) → x.route ≡ slot_route z j cycle circuit
      unfolding slot_route
      route_is ne = rw (no= (λ h. ne (e ∙ h))) (ap (λ (y : Entry). y.route) found_entry)

-- rule 7: a slot's route fits a header
pub route_small : (z : List ℕ) → Ranged z → (j : ℕ) → j < schedules z → (cycle circuit : ℕ) → slot_route z j cycle circuit < routes
unfolding slot_route
route_small z g j h cycle circuit = go (entry_beginning z j cycle circuit =? 0) refl
  where
    go : (b : Bool) → (entry_beginning z j cycle circuit =? 0) ≡ b
        → pick b 0 (entry_at (entries_of z j) (entry_beginning z j cycle circuit - 1)).route < routes
    go true e = omega arith
    go false e =
        let inside = found_inside z j cycle circuit _ _ refl (λ q. false≢true (sym e ∙ yes= q)) refl in
        omega (arith, (entry_small z g j h (entry_beginning z j cycle circuit - 1) inside).route_high)

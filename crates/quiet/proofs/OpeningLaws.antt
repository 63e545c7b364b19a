-- The next slot of a circuit with words left: the loop over the entries that looks for it, and what it finds.
-- Assumes nothing.
use Prim.Native.Nat.{ℕ, zero, suc, ◌+◌, ◌-◌, ◌<◌, ◌≤◌}
use mathlib.Core.Bool.{Bool, true, false, false≢true}
use mathlib.Core.List.{List}
use mathlib.Core.Path.{◌≡◌, refl, sym, subst, ◌∙◌, ap}
use native.Mathlib.Omega.{arith}
use native.Mathlib.Decide.{ℕ_discrete, dec_lt}
use native.Mathlib.Nat.{not-suc-le-zero}
use Rattle.words.specs.Tests.{◌and◌, ◌or◌, ◌≤?◌, ◌=?◌}
use Rattle.words.specs.Words.{pick, last_of}
use Rattle.words.proofs.TestLaws.{and_no, and_on, and_both, and_left, and_right, or_on, or_yes, or_skip, is≤, is=, yes≤, yes=, no≤, no=}
use Rattle.words.proofs.AllLaws.{all_of, all_fails}
use Rattle.words.proofs.WordLaws.{last_of_le, last_of_passes}
use Rattle.sheet.specs.declared.entries.Entry.{Entry}
use Rattle.sheet.specs.Sheet.{circuits, entries_of, entry_count, entry_at}
use Rattle.sheet.specs.Rules.{rule8}
use Rattle.sheet.specs.Inner.Passed.{Ranged}
use Rattle.sheet.specs.Slots.{begins_at, entry_beginning, slot_length}
use Rattle.sheet.proofs.PassedLaws.{entry_small, entries_few}
use Rattle.network.specs.Registers.{reg, sheet_in, clock_row, cycle_place, in_force_place, left_row}
use Rattle.network.specs.Inner.Paired.{Paired}
use Rattle.network.specs.Inner.Quiet.{none_begins}
use Rattle.network.proofs.SlotLaws.{length_none, length_is}
use Rattle.sources.specs.Inner.Slots.{BegunBefore}
use Rattle.quiet.specs.Inner.Openings.{NextOpening}
use Rattle.sources.proofs.BeginLaws.{no_later}

-- an entry that begins earlier is not live; of the others the words left decide
module _ (cycle offset words : ℕ) where
  pub live_no : offset < cycle → false ≡ (cycle ≤? offset and 1 ≤? words)
  live_no l = and_no _ (no≤ l)

  pub live_rest : {left : ℕ} → left ≡ words → cycle ≤ offset → (1 ≤? left) ≡ (cycle ≤? offset and 1 ≤? words)
  live_rest e l = and_on (yes≤ l) (ap (λ (n : ℕ). 1 ≤? n) e)

-- a place that passes is not behind the last that does
last_of_some : (test : ℕ → Bool) (n k : ℕ) → k < n → test k ≡ true → last_of n test ≡ 0 → ⊥
unfolding last_of
last_of_some test zero k l e z = not-suc-le-zero l
last_of_some test (suc n) k l e z = go (test n) refl z (ℕ_discrete k n) (last_of_some test n k)
  where
    go : (b : Bool) → test n ≡ b → pick b (suc n) (last_of n test) ≡ 0 → Dec (k ≡ n) → (k < n → test k ≡ true → last_of n test ≡ 0 → ⊥) → ⊥
    go true q w d r = omega arith
    go false q w (yes d) r = false≢true (sym q ∙ ap test (sym d) ∙ e)
    go false q w (no d) r = r (omega (arith, d)) e w

module _ (s z : List ℕ) where
  abbrev in_force : ℕ
  in_force = reg s clock_row in_force_place

  abbrev entry : ℕ → Entry
  entry k = entry_at (entries_of z in_force) k

  abbrev count : ℕ
  count = entry_count (entries_of z in_force)

  begins : (cycle c k : ℕ) → begins_at z in_force cycle c k ≡ true → ((entry k).offset ≡ cycle) × ((entry k).circuit ≡ c)
  unfolding begins_at
  begins cycle c k e = (is= _ _ (and_left _ _ e), is= _ _ (and_right _ _ e))

  begins_own : (k : ℕ) → begins_at z in_force (entry k).offset (entry k).circuit k ≡ true
  unfolding begins_at
  begins_own k = and_both (yes= refl) (yes= refl)

  -- the loop: of the entries before i, none that begins in this cycle or later is of a circuit with words left
  pub record Seeking (cycle : ℕ) (entries : List ℕ) (size i : ℕ) : Type 0 where
    pub inside : i ≤ size
    pub whole : size ≡ count
    pub few : size ≤ 256
    pub same : entries ≡ entries_of z in_force
    pub dead : (k : ℕ) → k < i → cycle ≤ (entry k).offset → reg s left_row (entry k).circuit ≡ 0

  module _ (g : Paired s z) where
    -- one circuit in one cycle: a slot of it begins in no other way than by an entry
    idle_circuit : (cycle c : ℕ)
        → ((k : ℕ) → k < count → (entry k).offset ≡ cycle → reg s left_row (entry k).circuit ≡ 0)
        → slot_length z in_force cycle c =? 0 or reg s left_row c =? 0 ≡ true
    unfolding entry_beginning
    idle_circuit cycle c dead = go (ℕ_discrete (entry_beginning z in_force cycle c) 0)
      where
        go : Dec (entry_beginning z in_force cycle c ≡ 0) → slot_length z in_force cycle c =? 0 or reg s left_row c =? 0 ≡ true
        go (yes e) = sym (or_yes _ (yes= (sym (length_none z in_force cycle c _ refl e))))
        go (no ne) =
            let k = last_of count (begins_at z in_force cycle c) - 1 in
            let most = last_of_le (begins_at z in_force cycle c) count in
            let at = begins cycle c k (last_of_passes (begins_at z in_force cycle c) count ne) in
            sym (or_skip _ (sym (yes= (ap (reg s left_row) (sym at.1) ∙ dead k (omega (arith, ne)) at.0))))

    idle_cycle : (cycle : ℕ)
        → ((k : ℕ) → k < count → (entry k).offset ≡ cycle → reg s left_row (entry k).circuit ≡ 0) → none_begins s cycle ≡ true
    unfolding none_begins
    idle_cycle cycle dead =
        all_of (circuits (sheet_in s)) _ (λ c l.
        subst (λ (x : List ℕ). slot_length x in_force cycle c =? 0 or reg s left_row c =? 0 ≡ true) g.own (idle_circuit cycle c dead))

    -- a cycle in which an entry of a circuit with words left begins
    live_cycle : Ranged z → (i : ℕ) → i < count → 1 ≤ reg s left_row (entry i).circuit → none_begins s (entry i).offset ≡ false
    unfolding none_begins entry_beginning
    live_cycle ranged i l live =
        let c = (entry i).circuit in
        let cycle = (entry i).offset in
        let found = last_of count (begins_at z in_force cycle c) in
        let most = last_of_le (begins_at z in_force cycle c) count in
        let some : found ≡ 0 → ⊥ = last_of_some (begins_at z in_force cycle c) count i l (begins_own i) in
        let size = length_is z in_force cycle c found refl (entries_of z in_force) refl (entry (found - 1)) refl some in
        let small = entry_small z ranged in_force g.in_force (found - 1) (omega (arith, some)) in
        let inside = (entry_small z ranged in_force g.in_force i l).circuit_inside in
        let own : circuits z ≡ circuits (sheet_in s) = ap circuits g.own in
        let same : slot_length z in_force cycle c ≡ slot_length (sheet_in s) in_force cycle c = ap (λ (x : List ℕ). slot_length x in_force cycle c) g.own in
        sym (all_fails _ (circuits (sheet_in s)) c (omega (arith, inside, own))
        (sym (or_on (no= (λ e. omega (arith, small.size_low, size, same, e))) (sym (no= (λ e. omega (arith, live, e)))))))

    pub seeking_start : (cycle j : ℕ) (entries : List ℕ) (i : ℕ) → j ≡ in_force → entries ≡ entries_of z j → BegunBefore entries cycle i
        → Seeking cycle entries (entry_count entries) i
    seeking_start cycle j entries i a e b =
        let same : entries ≡ entries_of z in_force = e ∙ ap (entries_of z) a in
        let q : entry_count entries ≡ count = ap entry_count same in
        record {
          inside = b.inside;
          whole = q;
          few = omega (arith, q, entries_few z g.framed in_force g.in_force);
          same = same;
          dead = λ k l late.
              let early = subst (λ (x : List ℕ). (entry_at x k).offset < cycle) same (b.earlier k l) in
              absurd (omega arith);
        }

    module _ (cycle : ℕ) (entries : List ℕ) (size i : ℕ) (f : Seeking cycle entries size i) where
      module _ (e : Entry) (read : e ≡ entry_at entries i) where
        read_own : e ≡ entry i
        read_own = read ∙ ap (λ (x : List ℕ). entry_at x i) f.same

        pub seeking_more : i < size → (live : Bool) → live ≡ (cycle ≤? e.offset and 1 ≤? reg s left_row e.circuit) → live ≡ false
            → Seeking cycle entries size (i + 1)
        seeking_more l live test no-live = record {
          inside = omega arith;
          whole = f.whole;
          few = f.few;
          same = f.same;
          dead = λ k kl late. go k kl late (ℕ_discrete k i);
        }
          where
            here : cycle ≤ e.offset → Dec (reg s left_row e.circuit ≡ 0) → reg s left_row e.circuit ≡ 0
            here late (yes q) = q
            here late (no ne) =
                let some : 1 ≤ reg s left_row e.circuit = omega (arith, ne) in
                absurd (false≢true (sym no-live ∙ test ∙ and_both (yes≤ late) (yes≤ some)))

            go : (k : ℕ) → k < i + 1 → cycle ≤ (entry k).offset → Dec (k ≡ i) → reg s left_row (entry k).circuit ≡ 0
            go k kl late (yes q) =
                let own : e ≡ entry k = read_own ∙ ap entry (sym q) in
                subst (λ (x : Entry). reg s left_row x.circuit ≡ 0) own
                (here (subst (λ (x : Entry). cycle ≤ x.offset) (sym own) late) (ℕ_discrete (reg s left_row e.circuit) 0))
            go k kl late (no ne) = f.dead k (omega (arith, ne)) late

      -- up to a cycle before which no entry from i on begins
      idle_to : (r : ℕ) → ((k : ℕ) → i ≤ k → k < count → r ≤ (entry k).offset) → (t : ℕ) → cycle ≤ t → t < r → none_begins s t ≡ true
      idle_to r later t low high = idle_cycle t (λ k l at. go k l at (dec_lt k i))
        where
          go : (k : ℕ) → k < count → (entry k).offset ≡ t → Dec (k < i) → reg s left_row (entry k).circuit ≡ 0
          go k l at (yes h) = f.dead k h (omega arith)
          go k l at (no h) = absurd (omega (arith, later k (omega (arith, h)) l))

      -- by rule 8: up to entry i
      idle_before : rule8 z ≡ true → (r : ℕ) → r ≤ (entry i).offset → (k : ℕ) → i ≤ k → k < count → r ≤ (entry k).offset
      idle_before ascending r low k il l =
          let q : i + (k - i) ≡ k = omega arith in
          let up = no_later z in_force 0 ascending g.in_force i (k - i) (omega arith) in
          let up' : (entry i).offset ≤ (entry k).offset = subst (λ (n : ℕ). (entry i).offset ≤ (entry n).offset) q up in
          omega arith

      module _ (c : cycle ≡ reg s clock_row cycle_place) where
        found_by : (until r : ℕ) → cycle ≤ r → r ≤ until → ((t : ℕ) → cycle ≤ t → t < r → none_begins s t ≡ true)
            → (r < until → none_begins s r ≡ false) → NextOpening s until r
        found_by until r low high idle live = record {
          not_before = omega arith;
          not_behind = high;
          none_begins_before = λ t a b. idle t (omega arith) b;
          begins = live;
        }

        -- no entry is left
        pub opening_none : (until : ℕ) → reg s clock_row cycle_place ≤ until → size ≤ i → NextOpening s until until
        opening_none until low l =
            found_by until until (omega arith) (omega arith)
            (idle_to until (λ k a b. absurd (let z : ⊥ = omega (arith, f.whole) in z))) (λ h. absurd (let z : ⊥ = omega arith in z))

        module _ (ascending : rule8 z ≡ true) (e : Entry) (read : e ≡ entry_at entries i) (l : i < size) where
          -- entry i begins at the end, or behind it
          pub opening_late : (until : ℕ) → reg s clock_row cycle_place ≤ until → until ≤ e.offset → NextOpening s until until
          opening_late until low late =
              let late' = subst (λ (x : Entry). until ≤ x.offset) (read_own e read) late in
              found_by until until (omega arith) (omega arith) (idle_to until (idle_before ascending until late'))
              (λ h. absurd (let z : ⊥ = omega arith in z))

          -- entry i is live
          pub opening_live : Ranged z → (until : ℕ) → e.offset < until → (live : Bool)
              → live ≡ (cycle ≤? e.offset and 1 ≤? reg s left_row e.circuit) → live ≡ true → NextOpening s until e.offset
          opening_live ranged until early live test is_live =
              let own = read_own e read in
              let both = sym test ∙ is_live in
              let low = is≤ cycle e.offset (and_left _ _ both) in
              let some = is≤ 1 (reg s left_row e.circuit) (and_right (cycle ≤? e.offset) _ both) in
              let same : e.offset ≡ (entry i).offset = ap (λ (x : Entry). x.offset) own in
              found_by until e.offset low (omega arith)
              (idle_to e.offset (idle_before ascending e.offset (omega arith)))
              (λ h.
              subst (λ (n : ℕ). none_begins s n ≡ false) (sym same)
              (live_cycle ranged i (omega (arith, f.whole)) (subst (λ (x : Entry). 1 ≤ reg s left_row x.circuit) own some)))

-- The table of slots that begin: how the loop over the entries fills it, and the slot of a circuit that is read from it.
-- Assumes nothing.
use Prim.Native.Nat.{ℕ, zero, suc, ◌+◌, ◌-◌, ◌*◌, ◌<◌, ◌≤◌}
use mathlib.Core.Bool.{Bool, true, false, false≢true}
use mathlib.Core.List.{List}
use mathlib.Core.Path.{◌≡◌, refl, sym, subst, ◌∙◌, ap}
use native.Mathlib.Omega.{arith}
use native.Mathlib.Nat.{add-zero}
use lib.ListN.{set}
use Rattle.words.specs.Tests.{◌and◌, ◌or◌, ◌=?◌}
use Rattle.words.specs.Words.{word, pick, tab, last_of}
use Rattle.words.proofs.TestLaws.{and_no, and_both, and_left, and_no_right, or_yes, or_on, or_cases, yes=, no=, is=, is<}
use Rattle.words.proofs.AllLaws.{all_at}
use Rattle.words.proofs.WordLaws.{last_of_more, tab_at}
use Rattle.sheet.specs.declared.entries.Entry.{Entry}
use Rattle.sheet.specs.Sheet.{circuits, schedules, entries_of, entry_count, entry_at}
use Rattle.sheet.specs.Rules.{precedes, entry_precedes, rule8_at, rule8}
use Rattle.sheet.specs.Inner.Passed.{Framed}
use Rattle.sheet.specs.Slots.{begins_at, entry_beginning, slot_length, slot_route}
use Rattle.sheet.proofs.PassedLaws.{entries_few}
use Rattle.network.specs.Registers.{reg, sheet_in, clock_row, cycle_place, in_force_place}
use Rattle.network.specs.Inner.Machine.{slot_in}
use Rattle.network.specs.Inner.Paired.{Paired}
use Rattle.network.proofs.SlotLaws.{found_inside, length_none, length_is, route_none, route_is}
use Rattle.sources.specs.Inner.Slots.{slot_table, slot_put, BegunBefore}
use Rattle.words.proofs.TableLaws.{tab_same, tab_set}

-- an entry put into the table, or not
module _ (entry : Entry) (number cycle : ℕ) (slots : List ℕ) where
  pub put_begins : entry.offset ≡ cycle → set slots entry.circuit number ≡ slot_put entry number cycle slots
  unfolding slot_put
  put_begins h = rw (yes= h)

  pub put_not : (entry.offset ≡ cycle → ⊥) → slots ≡ slot_put entry number cycle slots
  unfolding slot_put
  put_not ne = rw (no= ne)

-- the entries before i are in the table
module _ (z : List ℕ) (j cycle : ℕ) where
  abbrev last_before : ℕ → ℕ → ℕ
  last_before i c = last_of i (begins_at z j cycle c)

  pub record Filling (entries slots : List ℕ) (count : ℕ) (begins : Bool) (i : ℕ) : Type 0 where
    pub inside : i ≤ count
    pub whole : count ≡ entry_count (entries_of z j)
    pub few : count ≤ 256
    pub same : entries ≡ entries_of z j
    pub table : slots ≡ tab 64 (last_before i)
    pub none : begins ≡ false → slots ≡ tab 64 (λ (c : ℕ). 0)

  -- one more entry, by what its test says
  last_begins : (i c : ℕ) (b : Bool) → begins_at z j cycle c i ≡ b → last_before (i + 1) c ≡ pick b (i + 1) (last_before i c)
  last_begins i c b e =
      last_of_more (begins_at z j cycle c) i ∙ ap (λ (t : Bool). pick t (i + 1) (last_before i c)) e

  module _ (i : ℕ) (e : Entry) (read : e ≡ entry_at (entries_of z j) i) where
    begins_is : (c : ℕ) → begins_at z j cycle c i ≡ (e.offset =? cycle and e.circuit =? c)
    unfolding begins_at
    begins_is c = ap (λ (x : Entry). x.offset =? cycle and x.circuit =? c) (sym read)

    module _ (h : e.offset ≡ cycle) where
      last_here : i + 1 ≡ last_before (i + 1) e.circuit
      last_here = sym (last_begins i e.circuit true (begins_is e.circuit ∙ and_both (yes= h) (yes= refl)))

      last_other : (c : ℕ) → (c ≡ e.circuit → ⊥) → last_before i c ≡ last_before (i + 1) c
      last_other c ne = sym (last_begins i c false (begins_is c ∙ and_no_right _ _ (no= (λ q. ne (sym q)))))

    last_over : (e.offset ≡ cycle → ⊥) → (c : ℕ) → last_before i c ≡ last_before (i + 1) c
    last_over ne c = sym (last_begins i c false (begins_is c ∙ sym (and_no _ (no= ne))))

    put_more : (slots : List ℕ) → slots ≡ tab 64 (last_before i) → slot_put e (i + 1) cycle slots ≡ tab 64 (last_before (i + 1))
    put_more slots q = ap (slot_put e (i + 1) cycle) q ∙ go (e.offset =? cycle) refl
      where
        go : (b : Bool) → (e.offset =? cycle) ≡ b → slot_put e (i + 1) cycle (tab 64 (last_before i)) ≡ tab 64 (last_before (i + 1))
        go true t =
            let h = is= _ _ t in
            sym (put_begins e (i + 1) cycle (tab 64 (last_before i)) h)
            ∙ tab_set 64 (last_before i) (last_before (i + 1)) e.circuit (i + 1) (λ l. last_here h) (λ c l ne. last_other h c ne)
        go false t =
            let ne : e.offset ≡ cycle → ⊥ = λ q. false≢true (sym t ∙ yes= q) in
            sym (put_not e (i + 1) cycle (tab 64 (last_before i)) ne)
            ∙ tab_same 64 (last_before i) (last_before (i + 1)) (λ c l. last_over ne c)

  -- by rule 8 the offsets ascend
  module _ (r : rule8 z ≡ true) (h : j < schedules z) where
    ascends : (i : ℕ) → i + 1 < entry_count (entries_of z j)
        → (entry_at (entries_of z j) i).offset ≤ (entry_at (entries_of z j) (i + 1)).offset
    unfolding rule8 rule8_at entry_precedes precedes
    ascends i l =
        let in_order = all_at _ (schedules z) r j h in
        let l' : i < entry_count (entries_of z j) - 1 = omega arith in
        let here = all_at _ (entry_count (entries_of z j) - 1) in_order i l' in
        or_cases _ _ here (λ less. (let x = is< _ _ less in omega arith)) (λ same. (let x = is= _ _ (and_left _ _ same) in omega arith))

    -- so no entry in front of another begins later
    pub no_later : (k n : ℕ) → k + n < entry_count (entries_of z j) → (entry_at (entries_of z j) k).offset ≤ (entry_at (entries_of z j) (k + n)).offset
    no_later k zero l =
        let q : k ≡ k + 0 = sym (add-zero k) in
        subst (λ (i : ℕ). (entry_at (entries_of z j) k).offset ≤ (entry_at (entries_of z j) i).offset) q (omega arith)
    no_later k (suc n) l =
        let before = no_later k n (omega arith) in
        let up = ascends (k + n) (omega arith) in
        let q : k + n + 1 ≡ k + suc n = omega arith in
        subst (λ (i : ℕ). (entry_at (entries_of z j) k).offset ≤ (entry_at (entries_of z j) i).offset) q (omega arith)

    -- sixteen more entries begin before the cycle where the last of them does
    pub behind_more : (entries : List ℕ) (i : ℕ) → entries ≡ entries_of z j → BegunBefore entries cycle i → i + 16 ≤ entry_count entries
        → (e : Entry) → e ≡ entry_at entries (i + 15) → e.offset < cycle → BegunBefore entries cycle (i + 16)
    behind_more entries i same g l e read early = record {
      inside = l;
      earlier = λ k kl. subst (λ (x : List ℕ). (entry_at x k).offset < cycle) (sym same) (go k kl);
    }
      where
        go : (k : ℕ) → k < i + 16 → (entry_at (entries_of z j) k).offset < cycle
        go k kl =
            let q : k + (i + 15 - k) ≡ i + 15 = omega arith in
            let fits : entry_count entries ≡ entry_count (entries_of z j) = ap entry_count same in
            let last : (entry_at (entries_of z j) (i + 15)).offset < cycle =
            subst (λ (x : Entry). x.offset < cycle) (read ∙ ap (λ (x : List ℕ). entry_at x (i + 15)) same) early in
            let up = no_later k (i + 15 - k) (omega arith) in
            let up' : (entry_at (entries_of z j) k).offset ≤ (entry_at (entries_of z j) (i + 15)).offset =
            subst (λ (n : ℕ). (entry_at (entries_of z j) k).offset ≤ (entry_at (entries_of z j) n).offset) q up in
            omega arith

    module _ (i : ℕ) (late : cycle < (entry_at (entries_of z j) i).offset) where
      later : (n : ℕ) → i + n < entry_count (entries_of z j) → cycle < (entry_at (entries_of z j) (i + n)).offset
      later zero l = subst (λ (k : ℕ). cycle < (entry_at (entries_of z j) k).offset) (sym (add-zero i)) late
      later (suc n) l =
          let before = later n (omega arith) in
          let up = ascends (i + n) (omega arith) in
          let q : i + n + 1 ≡ i + suc n = omega arith in
          subst (λ (k : ℕ). cycle < (entry_at (entries_of z j) k).offset) q (omega arith)

      last_late : (n : ℕ) → i + n ≤ entry_count (entries_of z j) → (c : ℕ) → last_before (i + n) c ≡ last_before i c
      last_late zero l c = ap (λ (k : ℕ). last_before k c) (add-zero i)
      last_late (suc n) l c =
          let above = later n (omega arith) in
          let q : i + suc n ≡ i + n + 1 = omega arith in
          ap (λ (k : ℕ). last_before k c) q
          ∙ sym (last_over (i + n) (entry_at (entries_of z j) (i + n)) refl (λ e. omega arith) c)
          ∙ last_late n (omega arith) c

  -- of entries that begin before the cycle none begins in it
  last_none : (n : ℕ) → ((k : ℕ) → k < n → (entry_at (entries_of z j) k).offset < cycle) → (c : ℕ) → last_before n c ≡ 0
  unfolding last_of
  last_none zero early c = refl
  last_none (suc n) early c =
      let here = early n (omega arith) in
      let q : suc n ≡ n + 1 = omega arith in
      ap (λ (k : ℕ). last_before k c) q
      ∙ sym (last_over n (entry_at (entries_of z j) n) refl (λ e. omega arith) c)
      ∙ last_none n (λ k l. early k (omega arith)) c

  filling_start : (entries slots : List ℕ) (i : ℕ) → Framed z → j < schedules z → entries ≡ entries_of z j → slots ≡ tab 64 (λ (c : ℕ). 0)
      → BegunBefore entries cycle i → Filling entries slots (entry_count entries) false i
  filling_start entries slots i f l e t b =
      let q : entry_count entries ≡ entry_count (entries_of z j) = ap entry_count e in
      record {
        inside = b.inside;
        whole = q;
        few = omega (arith, entries_few z f j l);
        same = e;
        table = t ∙ tab_same 64 (λ (c : ℕ). 0) (last_before i)
            (λ c h. sym (last_none i (λ k kl. subst (λ (x : List ℕ). (entry_at x k).offset < cycle) e (b.earlier k kl)) c));
        none = λ idle. t;
      }

  module _ (entries slots : List ℕ) (count : ℕ) (begins : Bool) (i : ℕ) (g : Filling entries slots count begins i) where
    -- while none begins, nothing is put into the table
    none_more : (e : Entry) (begins' : Bool) → begins' ≡ begins or (e.offset =? cycle) → begins' ≡ false
        → slot_put e (i + 1) cycle slots ≡ tab 64 (λ (c : ℕ). 0)
    none_more e begins' b idle = go begins refl
      where
        go : (x : Bool) → begins ≡ x → slot_put e (i + 1) cycle slots ≡ tab 64 (λ (c : ℕ). 0)
        go true t = absurd (false≢true (sym idle ∙ b ∙ sym (or_yes (e.offset =? cycle) t)))
        go false t =
            let later : (e.offset =? cycle) ≡ false = or_on t refl ∙ sym b ∙ idle in
            sym (put_not e (i + 1) cycle slots (λ h. false≢true (sym later ∙ yes= h))) ∙ g.none t

    pub filling_more : i < count → (e : Entry) → e ≡ entry_at entries i → (begins' : Bool) → begins' ≡ begins or (e.offset =? cycle)
        → (after : List ℕ) → after ≡ slot_put e (i + 1) cycle slots → Filling entries after count begins' (i + 1)
    filling_more l e read begins' b after q = record {
      inside = omega arith;
      whole = g.whole;
      few = g.few;
      same = g.same;
      table = q ∙ put_more i e (read ∙ ap (λ (x : List ℕ). entry_at x i) g.same) slots g.table;
      none = λ idle. q ∙ none_more e begins' b idle;
    }

    filling_done : count ≤ i → slots ≡ tab 64 (entry_beginning z j cycle)
    unfolding entry_beginning
    filling_done l =
        let q : i ≡ entry_count (entries_of z j) = omega (arith, g.inside, g.whole) in
        g.table ∙ tab_same 64 (last_before i) (entry_beginning z j cycle) (λ c h. ap (λ (n : ℕ). last_before n c) q)

    -- an entry later than the cycle: by rule 8 those behind it are later too
    filling_stop : rule8 z ≡ true → j < schedules z → i < count → (e : Entry) → e ≡ entry_at entries i → cycle < e.offset
        → slots ≡ tab 64 (entry_beginning z j cycle)
    unfolding entry_beginning
    filling_stop r h l e read late =
        let q : i + (count - i) ≡ entry_count (entries_of z j) = omega (arith, g.whole) in
        let from : cycle < (entry_at (entries_of z j) i).offset =
        subst (λ (x : Entry). cycle < x.offset) (read ∙ ap (λ (x : List ℕ). entry_at x i) g.same) late in
        g.table
        ∙ tab_same 64 (last_before i) (entry_beginning z j cycle)
        (λ c k. sym (last_late r h i from (count - i) (omega arith) c) ∙ ap (λ (n : ℕ). last_before n c) q)

-- the table of a state
module _ (s z : List ℕ) (g : Paired s z) where
  abbrev in_force : ℕ
  in_force = reg s clock_row in_force_place

  abbrev cycle_now : ℕ
  cycle_now = reg s clock_row cycle_place

  -- the loop over the schedule in force
  pub table_start : (cycle j : ℕ) (entries slots : List ℕ) (i : ℕ) → j ≡ in_force → entries ≡ entries_of z j → slots ≡ tab 64 (λ (c : ℕ). 0)
      → BegunBefore entries cycle i → Filling z in_force cycle entries slots (entry_count entries) false i
  table_start cycle j entries slots i a e t b =
      filling_start z in_force cycle entries slots i g.framed g.in_force (e ∙ ap (entries_of z) a) t b

  table_as : (cycle : ℕ) (slots : List ℕ) → cycle ≡ cycle_now → slots ≡ tab 64 (entry_beginning z in_force cycle) → slots ≡ slot_table s
  unfolding slot_table
  table_as cycle slots b e =
      e ∙ ap (λ (t : ℕ). tab 64 (entry_beginning z in_force t)) b
      ∙ ap (λ (x : List ℕ). tab 64 (entry_beginning x in_force cycle_now)) g.own

  pub table_done : (cycle : ℕ) (entries slots : List ℕ) (count : ℕ) (begins : Bool) (i : ℕ) → cycle ≡ cycle_now
      → Filling z in_force cycle entries slots count begins i → count ≤ i → slots ≡ slot_table s
  table_done cycle entries slots count begins i b f l =
      table_as cycle slots b (filling_done z in_force cycle entries slots count begins i f l)

  pub table_stop : rule8 z ≡ true → (cycle : ℕ) (entries slots : List ℕ) (count : ℕ) (begins : Bool) (i : ℕ) → cycle ≡ cycle_now
      → Filling z in_force cycle entries slots count begins i → i < count → (e : Entry) → e ≡ entry_at entries i → cycle < e.offset
      → slots ≡ slot_table s
  table_stop r cycle entries slots count begins i b f l e read late =
      table_as cycle slots b (filling_stop z in_force cycle entries slots count begins i f r g.in_force l e read late)

  -- the entry of circuit c, as it is found in the table
  module _ (slots : List ℕ) (t : slots ≡ slot_table s) (c : ℕ) (l : c < circuits z) (found : ℕ) (e : found ≡ word slots c) where
    found_is : found ≡ entry_beginning z in_force cycle_now c
    unfolding slot_table
    found_is =
        let few : c < 64 = omega (arith, g.framed.headed.circuits_high) in
        e ∙ ap (λ (x : List ℕ). word x c) t ∙ tab_at 64 _ c few ∙ ap (λ (x : List ℕ). entry_beginning x in_force cycle_now c) (sym g.own)

    length_own : slot_length z in_force cycle_now c ≡ slot_in s c
    unfolding slot_in
    length_own = ap (λ (x : List ℕ). slot_length x in_force cycle_now c) g.own

    route_own : slot_route z in_force cycle_now c ≡ slot_route (sheet_in s) in_force cycle_now c
    route_own = ap (λ (x : List ℕ). slot_route x in_force cycle_now c) g.own

    pub no_slot : found ≡ 0 → 0 ≡ slot_in s c
    no_slot h = length_none z in_force cycle_now c found found_is h ∙ length_own

    pub no_route : found ≡ 0 → 0 ≡ slot_route (sheet_in s) in_force cycle_now c
    no_route h = route_none z in_force cycle_now c found found_is h ∙ route_own

    module _ (ne : found ≡ 0 → ⊥) (j : ℕ) (a : j ≡ in_force) (entries : List ℕ) (q : entries ≡ entries_of z j) where
      entries_own : entries ≡ entries_of z in_force
      entries_own = q ∙ ap (entries_of z) a

      pub slot_inside : found - 1 < entry_count entries
      slot_inside = found_inside z in_force cycle_now c found entries found_is ne entries_own

      pub slot_size : (x : Entry) → x ≡ entry_at entries (found - 1) → x.size ≡ slot_in s c
      slot_size x r = length_is z in_force cycle_now c found found_is entries entries_own x r ne ∙ length_own

      pub slot_route_is : (x : Entry) → x ≡ entry_at entries (found - 1) → x.route ≡ slot_route (sheet_in s) in_force cycle_now c
      slot_route_is x r = route_is z in_force cycle_now c found found_is entries entries_own x r ne ∙ route_own

-- a schedule's entries are few
pub passing_few : {z : List ℕ} {j : ℕ} {entries : List ℕ} → Framed z → j < schedules z → entries ≡ entries_of z j → entry_count entries ≤ 256
passing_few {z} {j} {entries} f l e =
    let q : entry_count entries ≡ entry_count (entries_of z j) = ap entry_count e in
    omega (arith, entries_few z f j l)

-- a step more that begins before the cycle
pub passing_more : (z : List ℕ) (j cycle : ℕ) (entries : List ℕ) (step : ℕ) → rule8 z ≡ true → j < schedules z → entries ≡ entries_of z j
    → BegunBefore entries cycle (step * 16) → step * 16 + 16 ≤ entry_count entries → (e : Entry) → e ≡ entry_at entries (step * 16 + 15)
    → e.offset < cycle → BegunBefore entries cycle ((step + 1) * 16)
passing_more z j cycle entries step r l same g fits e read early =
    let next : step * 16 + 16 ≡ (step + 1) * 16 = omega arith in
    subst (BegunBefore entries cycle) next (behind_more z j cycle r l entries (step * 16) same g fits e read early)

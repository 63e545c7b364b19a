-- The marks of the circuits that have a slot, entry by entry and schedule by schedule, and number 26 read from them.
-- Assumes nothing.
use Prim.Native.Nat.{ℕ, ◌+◌, ◌<◌, ◌≤◌}
use mathlib.Core.Bool.{Bool, true, false}
use mathlib.Core.List.{List}
use mathlib.Core.Path.{◌≡◌, refl, sym, ◌∙◌, ap}
use native.Mathlib.Omega.{arith}
use lib.ListN.{length, set, replicate}
use Rattle.words.specs.Tests.{any, ◌or◌, ◌=?◌}
use Rattle.words.specs.Words.{word, pick, tab}
use Rattle.words.proofs.TestLaws.{yes=, no=}
use Rattle.words.proofs.AllLaws.{any_more, any_start}
use Rattle.words.proofs.WordLaws.{length_tab, tab_at, tab_is}
use Rattle.words.proofs.TableLaws.{tab_zeros, tab_same, tab_set}
use Rattle.sheet.specs.declared.entries.Entry.{Entry}
use Rattle.sheet.specs.Sheet.{schedules, entries_of, entry_count, entry_at}
use Rattle.sheet.specs.Rules.{serves, is_served}
use Rattle.sheet.specs.Inner.Passed.{Ranged}
use Rattle.sheet.specs.Inner.Served.{Markable, marked_by, marks_of}
use Rattle.sheet.proofs.PassedLaws.{entry_small}

-- a mark set by the first test or by the second
pick_either : (a b : Bool) (v w : ℕ) → pick b v (pick a v w) ≡ pick (a or b) v w
unfolding ◌or◌
pick_either true true v w = refl
pick_either true false v w = refl
pick_either false b v w = refl

-- the circuits of the first i entries are marked too
module _ (entries before : List ℕ) where
  abbrev mark_at : ℕ → ℕ → ℕ
  mark_at i c = pick (any i (λ k. (entry_at entries k).circuit =? c)) 1 (word before c)

  mark_more : (i c : ℕ) → pick ((entry_at entries i).circuit =? c) 1 (mark_at i c) ≡ mark_at (i + 1) c
  mark_more i c =
      pick_either (any i (λ k. (entry_at entries k).circuit =? c)) ((entry_at entries i).circuit =? c) 1 (word before c)
      ∙ ap (λ (b : Bool). pick b 1 (word before c)) (sym (any_more (λ k. (entry_at entries k).circuit =? c) i))

  pub record Marking (marks : List ℕ) (i : ℕ) : Type 0 where
    pub inside : i ≤ entry_count entries
    pub table : marks ≡ tab 64 (mark_at i)

  pub marking_start : length before ≡ 64 → Marking before 0
  marking_start e = record {
    inside = omega arith;
    table =
        tab_is before 64 (mark_at 0) e
        (λ c l. ap (λ (b : Bool). pick b 1 (word before c)) (sym (any_start (λ k. (entry_at entries k).circuit =? c))));
  }

  pub marking_more : (i : ℕ) (marks : List ℕ) → Marking marks i → i < entry_count entries → (e : Entry) → e ≡ entry_at entries i
      → Marking (set marks e.circuit 1) (i + 1)
  marking_more i marks g l e read = record {
    inside = omega arith;
    table =
        ap (λ (list : List ℕ). set list e.circuit 1) g.table
        ∙ ap (λ (x : Entry). set (tab 64 (mark_at i)) x.circuit 1) read
        ∙ tab_set 64 (mark_at i) (mark_at (i + 1)) (entry_at entries i).circuit 1
        (λ l. ap (λ (b : Bool). pick b 1 (mark_at i (entry_at entries i).circuit)) (sym (yes= refl)) ∙ mark_more i (entry_at entries i).circuit)
        (λ c l ne. ap (λ (b : Bool). pick b 1 (mark_at i c)) (sym (no= (λ h. ne (sym h)))) ∙ mark_more i c);
  }

  pub marking_length : (i : ℕ) (marks : List ℕ) → Marking marks i → length marks ≡ 64
  marking_length i marks g = ap length g.table ∙ length_tab 64 _

  pub marking_done : (i : ℕ) (marks : List ℕ) → Marking marks i → entry_count entries ≤ i → marks ≡ marked_by entries before
  unfolding marked_by serves
  marking_done i marks g l =
      let e : i ≡ entry_count entries = omega (arith, g.inside) in
      g.table ∙ ap (λ (n : ℕ). tab 64 (mark_at n)) e

-- the circuits that the first schedules serve
module _ (z : List ℕ) where
  abbrev served_to : ℕ → ℕ → Bool
  served_to n c = any n (λ j. serves (entries_of z j) c)

  pub marks_start : replicate 64 0 ≡ marks_of z 0
  unfolding marks_of
  marks_start =
      tab_zeros 64 ∙ tab_same 64 _ _ (λ c l. ap (λ (b : Bool). pick {A = ℕ} b 1 0) (sym (any_start (λ j. serves (entries_of z j) c))))

  pub marks_length : (n : ℕ) → length (marks_of z n) ≡ 64
  unfolding marks_of
  marks_length n = length_tab 64 _

  mark_within : (n c : ℕ) → c < 64 → word (marks_of z n) c ≡ pick (served_to n c) 1 0
  unfolding marks_of
  mark_within n c l = tab_at 64 _ c l

  pub marks_more : (j : ℕ) → marked_by (entries_of z j) (marks_of z j) ≡ marks_of z (j + 1)
  unfolding marked_by marks_of
  marks_more j = tab_same 64 _ _ go
    where
      go : (c : ℕ) → c < 64 → pick (serves (entries_of z j) c) 1 (word (marks_of z j) c) ≡ pick (served_to (j + 1) c) 1 0
      go c l =
          ap (λ (v : ℕ). pick (serves (entries_of z j) c) 1 v) (mark_within j c l)
          ∙ pick_either (served_to j c) (serves (entries_of z j) c) 1 0
          ∙ ap (λ (b : Bool). pick {A = ℕ} b 1 0) (sym (any_more (λ i. serves (entries_of z i) c) j))

  pub marks_done : (marks : List ℕ) (j : ℕ) → marks ≡ marks_of z j → j ≡ schedules z → marks ≡ marks_of z (schedules z)
  marks_done marks j q e = q ∙ ap (marks_of z) e

  -- by number 7 each entry's circuit has its mark
  pub markable : Ranged z → (j : ℕ) → j < schedules z → (entries marks : List ℕ) → entries ≡ entries_of z j → length marks ≡ 64 → Markable entries marks
  markable g j h entries marks q e = rw q (record {
    places = e;
    inside = λ i l. omega (arith, (entry_small z g j h i l).circuit_inside, g.framed.headed.circuits_high);
  })

  -- a circuit is served where its mark is set, and only there
  module _ (marks : List ℕ) (q : marks ≡ marks_of z (schedules z)) (c : ℕ) (l : c < 64) where
    mark_is : word marks c ≡ pick (is_served z c) 1 0
    unfolding is_served
    mark_is = ap (λ (m : List ℕ). word m c) q ∙ mark_within (schedules z) c l

    pub unmarked : word marks c ≡ 0 → is_served z c ≡ false
    unmarked e = go (is_served z c) (sym mark_is ∙ e)
      where
        go : (b : Bool) → pick {A = ℕ} b 1 0 ≡ 0 → b ≡ false
        go true e₀ = absurd (omega (arith, e₀))
        go false e₀ = refl

    pub has_mark : (word marks c ≡ 0 → ⊥) → is_served z c ≡ true
    has_mark ne = go (is_served z c) (λ e. ne (mark_is ∙ e))
      where
        go : (b : Bool) → (pick {A = ℕ} b 1 0 ≡ 0 → ⊥) → b ≡ true
        go true e₀ = refl
        go false e₀ = absurd (e₀ refl)

-- The verdict from the numbers of its three groups of rules, and the answers from their numbers.
-- Assumes nothing.
use Prim.Native.Nat.{ℕ, zero, suc, ◌<◌, ◌≤◌}
use mathlib.Core.Bool.{Bool}
use mathlib.Core.List.{List, [], ◌++◌}
use mathlib.Core.Path.{◌≡◌, refl, sym, ◌∙◌, ap, subst}
use native.Mathlib.Omega.{arith}
use lib.ListN.{length}
use Rattle.words.specs.Words.{pick}
use Rattle.words.proofs.TestLaws.{yes=, no=, yes<, no<, is<}
use Rattle.words.proofs.NumberLaws.{then_zero, unless_zero, then_first, then_next, unless_no, unless_yes}
use Rattle.sheet.specs.Sheet.{blank_sheet, meant, schedules, schedule_place, entries_of}
use Rattle.sheet.specs.Rules.{frame_rules, circuit_rules, entry_rules, first_broken, verdict, sheet_number}
use Rattle.sheet.specs.Inner.Passed.{Framed}
use Rattle.sheet.proofs.VerdictLaws.{append_kept, append_broken, passed_framed}
use Rattle.sheet.proofs.MeantLaws.{meant_none, meant_some, number_some}
use Rattle.checker.specs.Answers.{entries_number, entries_part}

module _ (z : List ℕ) where
  -- the first group decides; it is kept, and the second decides; both are kept, and the third decides
  module _ (n : ℕ) (e : n ≡ first_broken frame_rules z) where
    pub frame_decides : (n ≡ 0 → ⊥) → n ≡ verdict z
    unfolding verdict
    frame_decides ne = e ∙ sym (append_broken z frame_rules (circuit_rules ++ entry_rules) (λ e₀. ne (e ∙ e₀)))

    module _ (e₀ : n ≡ 0) (m : ℕ) (f : m ≡ first_broken circuit_rules z) where
      behind_frame : first_broken (circuit_rules ++ entry_rules) z ≡ verdict z
      unfolding verdict
      behind_frame = sym (append_kept z frame_rules (circuit_rules ++ entry_rules) (sym e ∙ e₀) refl)

      pub circuits_decide : (m ≡ 0 → ⊥) → m ≡ verdict z
      circuits_decide ne = f ∙ sym (append_broken z circuit_rules entry_rules (λ y. ne (f ∙ y))) ∙ behind_frame

      pub entries_decide : m ≡ 0 → (k : ℕ) → k ≡ first_broken entry_rules z → k ≡ verdict z
      entries_decide y k g = g ∙ sym (append_kept z circuit_rules entry_rules (sym f ∙ y) refl) ∙ behind_frame

-- the number of handing back entries
module _ (z : List ℕ) (j n : ℕ) (e : n ≡ sheet_number z) where
  pub sheet_refused : (n ≡ 0 → ⊥) → n ≡ entries_number z j
  unfolding entries_number
  sheet_refused ne = then_first _ e ne

  pub schedule_there : n ≡ 0 → j < schedules (meant z) → 0 ≡ entries_number z j
  unfolding entries_number
  schedule_there e₀ h = then_next (sym e ∙ e₀) (unless_yes 15 (yes< h))

  pub schedule_absent : n ≡ 0 → schedules (meant z) ≤ j → 15 ≡ entries_number z j
  unfolding entries_number
  schedule_absent e₀ h = then_next (sym e ∙ e₀) (unless_no 15 (no< h))

-- where the number is 0, the sheet passes and the schedule exists
pub record Handed (z : List ℕ) (j : ℕ) : Type 0 where
  pub passes : sheet_number z ≡ 0
  pub there : j < schedules (meant z)

pub handed : (z : List ℕ) (j : ℕ) → entries_number z j ≡ 0 → Handed z j
unfolding entries_number
handed z j h =
    let passed = then_zero _ _ h in
    record { passes = passed.0; there = is< _ _ (unless_zero 15 _ (omega arith) passed.1) }

-- of words that are there: they stand for themselves
pub handed_some : (z : List ℕ) (j : ℕ) → entries_number z j ≡ 0 → (length z ≡ 0 → ⊥) → Framed z × (j < schedules z)
handed_some z j h ne =
    let same = meant_some z ne in
    let p = handed z j h in
    (passed_framed z (sym (number_some z ne) ∙ p.passes), subst (λ (x : List ℕ). j < schedules x) same p.there)

-- of no words: their one schedule has no entries
blank_entries : (j : ℕ) → j < schedules blank_sheet → entries_of blank_sheet j ≡ []
unfolding entries_of schedule_place
blank_entries zero h = refl
blank_entries (suc j) h = absurd (omega arith)

-- the part: the entries where the number is 0, else nothing
module _ (z : List ℕ) (j n : ℕ) (e : n ≡ entries_number z j) where
  pub part_empty : (n ≡ 0 → ⊥) → [] ≡ entries_part z j
  unfolding entries_part
  part_empty ne = sym (ap (λ (b : Bool). pick b (entries_of (meant z) j) []) (no= (λ e₀. ne (e ∙ e₀))))

  part_whole : n ≡ 0 → entries_of (meant z) j ≡ entries_part z j
  unfolding entries_part
  part_whole e₀ = sym (ap (λ (b : Bool). pick b (entries_of (meant z) j) []) (yes= (sym e ∙ e₀)))

  pub part_some : n ≡ 0 → (length z ≡ 0 → ⊥) → entries_of z j ≡ entries_part z j
  part_some e₀ ne = ap (λ (x : List ℕ). entries_of x j) (sym (meant_some z ne)) ∙ part_whole e₀

  pub part_none : n ≡ 0 → length z ≡ 0 → [] ≡ entries_part z j
  part_none e₀ none =
      let same = meant_none z none in
      let there = subst (λ (x : List ℕ). j < schedules x) same (handed z j (sym e ∙ e₀)).there in
      sym (blank_entries j there) ∙ ap (λ (x : List ℕ). entries_of x j) (sym same) ∙ part_whole e₀

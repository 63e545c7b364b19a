-- What handed-over words stand for: no words for the idle network, others for themselves.
-- Assumes nothing.
use Prim.Native.Nat.{ℕ}
use mathlib.Core.List.{List, [], ◌∷◌}
use mathlib.Core.Path.{◌≡◌, refl, sym, ◌∙◌, ap}
use native.Mathlib.Omega.{arith}
use lib.ListN.{length}
use Rattle.words.specs.Tests.{all, between, ◌and◌, ◌≤?◌, ◌<?◌, ◌=?◌}
use Rattle.sheet.specs.Sheet.{blank_sheet, meant, rows, is_long, schedule_place, entries_of}
use Rattle.sheet.specs.Rules.{rule1, rule2, schedule_fits, rule3, rule4, rule5, rule6, each_entry, entry_fits, rule7_at, rule7, entry_precedes, rule8_at, rule8}
use Rattle.sheet.specs.Rules.{rule9, rule10, rule11_at, rule11, first_broken, verdict, sheet_number}

pub itself : (w : ℕ) (z : List ℕ) → w ∷ z ≡ meant (w ∷ z)
unfolding meant
itself w z = refl

pub meant_none : (z : List ℕ) → length z ≡ 0 → meant z ≡ blank_sheet
unfolding meant
meant_none [] e = refl
meant_none (w ∷ z) e = absurd (omega arith)

pub meant_some : (z : List ℕ) → (length z ≡ 0 → ⊥) → meant z ≡ z
unfolding meant
meant_some [] ne = absurd (ne refl)
meant_some (w ∷ z) ne = sym (itself w z)

-- what is meant stands for itself
pub meant_again : (z : List ℕ) → meant (meant z) ≡ meant z
unfolding meant
meant_again [] = refl
meant_again (w ∷ z) = refl

-- the idle network passes
pub meant_passes : sheet_number [] ≡ 0
unfolding meant verdict first_broken
    rule1 rule2 schedule_fits rule3
    rule4 rule5 rule6
    each_entry entry_fits rule7_at rule7 entry_precedes rule8_at rule8
    rule9 rule10 rule11_at rule11
    rows is_long schedule_place entries_of
    all between ◌and◌ ◌≤?◌ ◌<?◌ ◌=?◌
meant_passes = refl

-- the number of handed-over words, from that of words as they stand
module _ (z : List ℕ) where
  pub number_none : length z ≡ 0 → sheet_number z ≡ 0
  unfolding meant
  number_none e = ap verdict (meant_none z e) ∙ meant_passes

  pub number_some : (length z ≡ 0 → ⊥) → sheet_number z ≡ verdict z
  number_some ne = ap verdict (meant_some z ne)

-- Sheet A without its slot: the checker and load refuse it with 26 (document 02, L8), and a state that holds it is sound.
-- Assumes nothing.
use Prim.Native.Nat.{ℕ}
use mathlib.Core.Bool.{true}
use mathlib.Core.List.{List, [], ◌∷◌}
use mathlib.Core.Path.{◌≡◌, refl, sym, ◌∙◌, ap}
use native.Mathlib.Omega.{arith}
use Rattle.words.specs.Words.{word}
use Rattle.words.specs.Tests.{all, any, between, ◌and◌, ◌or◌, ◌≤?◌, ◌<?◌, ◌=?◌, ◌≠?◌}
use Rattle.words.proofs.NumberLaws.{then_first}
use Rattle.sheet.specs.Sheet.{rows, schedule_place, circuit_at, entries_of, is_long}
use Rattle.sheet.specs.Rules.{rule1, rule2, schedule_fits, rule3, first_broken, verdict, check_rules, check_number}
use Rattle.sheet.specs.Rules.{region_fits, circuit_fits, rule4, rule5, apart, receive_apart, rule6, each_entry, entry_fits, rule7_at, rule7, rule8_at, rule8}
use Rattle.sheet.specs.Rules.{rule9, rule10, rule11_at, rule11, serves, is_served, rule26}
use Rattle.sheet.proofs.MeantLaws.{itself}
use Rattle.soundness.specs.Sound.{sound}
use Rattle.session.specs.Calls.{Lent, load, number, load_words_number, loaded}
use Rattle.session.proofs.KeptLaws.{loaded_sound}
use Rattle.isolation.specs.Examples.{sheet_on}

abbrev pub unserved : List ℕ
unserved = sheet_on 1 (0 ∷ 1 ∷ 0 ∷ 4 ∷ 0 ∷ 4 ∷ []) 0 []

-- it keeps 1 to 11, and not 26
abbrev numbers : List ℕ
numbers = verdict unserved ∷ first_broken check_rules unserved ∷ []

pub numbers_are : numbers ≡ 0 ∷ 26 ∷ []
unfolding verdict first_broken
    rule1 rule2 schedule_fits rule3
    region_fits circuit_fits rule4 rule5 apart receive_apart rule6
    each_entry entry_fits rule7_at rule7 rule8_at rule8
    rule9 rule10 rule11_at rule11
    serves is_served rule26
    rows is_long schedule_place circuit_at entries_of
    all any between ◌and◌ ◌or◌ ◌≤?◌ ◌<?◌ ◌=?◌ ◌≠?◌
numbers_are = refl

keeps : verdict unserved ≡ 0
keeps = ap (λ (l : List ℕ). word l 0) numbers_are

-- as handed-over words
pub checker_refuses : check_number unserved ≡ 26
checker_refuses = ap (first_broken check_rules) (sym (itself _ _)) ∙ ap (λ (l : List ℕ). word l 1) numbers_are

-- load refuses it whatever is lent, also where 12 or 14 would apply
pub load_refuses : (w : Lent) → number (load unserved) w ≡ 26
unfolding load_words_number
load_refuses w = sym (then_first _ (sym checker_refuses) (λ e. (let z : ⊥ = omega (arith, e) in z)))

pub state_sound : (s : List ℕ) → sound (loaded unserved s) ≡ true
state_sound s = loaded_sound unserved s keeps

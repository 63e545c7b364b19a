-- The checker's rules: 26 behind 1 to 11, of words as they stand and of those that a caller hands over.
-- Assumes nothing.
use Prim.Native.Nat.{ℕ}
use mathlib.Core.Bool.{Bool, true, false}
use mathlib.Core.List.{List, [], ◌∷◌}
use mathlib.Core.Path.{◌≡◌, refl, sym, ◌∙◌, ap}
use native.Mathlib.Decide.{ℕ_discrete}
use lib.ListN.{length}
use Rattle.words.specs.Tests.{all}
use Rattle.sheet.specs.Sheet.{meant}
use Rattle.sheet.specs.Rules.{rule26, first_broken, sheet_rules, verdict, sheet_number, check_rules, check_number}
use Rattle.sheet.specs.Inner.Passed.{Ranged}
use Rattle.sheet.proofs.VerdictLaws.{done, here, on, append_kept, append_broken, routed}
use Rattle.sheet.proofs.MeantLaws.{meant_none, meant_some, meant_passes}

module _ (z : List ℕ) where
  -- one of 1 to 11 applies, and 26 is not asked
  rules_after : (verdict z ≡ 0 → ⊥) → first_broken check_rules z ≡ verdict z
  unfolding verdict
  rules_after ne = append_broken z sheet_rules _ ne

  -- none of them does, and 26 decides
  rules_rest : verdict z ≡ 0 → first_broken check_rules z ≡ first_broken (record { number = 26; keeps = rule26 } ∷ []) z
  unfolding verdict
  rules_rest h = append_kept z sheet_rules _ h refl

  served_passes : verdict z ≡ 0 → rule26 z ≡ true → 0 ≡ first_broken check_rules z
  served_passes h e = on z _ [] e (done z) ∙ sym (rules_rest h)

  pub rules_pass : first_broken check_rules z ≡ 0 → verdict z ≡ 0
  rules_pass h = go (ℕ_discrete (verdict z) 0)
    where
      go : Dec (verdict z ≡ 0) → verdict z ≡ 0
      go (yes e) = e
      go (no ne) = sym (rules_after ne) ∙ h

  -- the same from the number 1 to 11 and the test of 26 as they were worked out
  module _ {n : ℕ} (e : n ≡ verdict z) where
    pub number_first : (n ≡ 0 → ⊥) → n ≡ first_broken check_rules z
    number_first ne = e ∙ sym (rules_after (λ h. ne (e ∙ h)))

    module _ (e₀ : n ≡ 0) where
      pub number_ranged : Ranged z
      number_ranged = (routed z (sym e ∙ e₀)).ranged

      module _ {b : Bool} (f : b ≡ rule26 z) where
        pub number_served : b ≡ true → 0 ≡ first_broken check_rules z
        number_served t = served_passes (sym e ∙ e₀) (sym f ∙ t)

        pub number_unserved : b ≡ false → 26 ≡ first_broken check_rules z
        number_unserved t = here z _ [] (sym f ∙ t) ∙ sym (rules_rest (sym e ∙ e₀))

-- what the checker passes keeps the rules 1 to 11
pub check_passes : (z : List ℕ) → check_number z ≡ 0 → sheet_number z ≡ 0
check_passes z = rules_pass (meant z)

-- where one of 1 to 11 applies, the checker answers it
pub check_after : (z : List ℕ) → (sheet_number z ≡ 0 → ⊥) → check_number z ≡ sheet_number z
check_after z = rules_after (meant z)

-- the idle network has no circuits
idle_served : rule26 (meant []) ≡ true
unfolding meant rule26 all
idle_served = refl

pub idle_passes : check_number [] ≡ 0
idle_passes = sym (served_passes (meant []) meant_passes idle_served)

-- the checker's number of handed-over words, from that of words as they stand
module _ (z : List ℕ) where
  pub check_none : length z ≡ 0 → check_number z ≡ 0
  check_none e = ap (first_broken check_rules) (meant_none z e ∙ sym (meant_none [] refl)) ∙ idle_passes

  pub check_some : (length z ≡ 0 → ⊥) → check_number z ≡ first_broken check_rules z
  check_some ne = ap (first_broken check_rules) (meant_some z ne)

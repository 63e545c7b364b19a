-- The verdict, one rule at a time, and what a sheet that passes keeps.
-- Assumes nothing.
use Prim.Native.Nat.{ℕ, zero, suc}
use mathlib.Core.Bool.{Bool, true, false, false≢true}
use mathlib.Core.List.{List, [], ◌∷◌, ◌++◌}
use mathlib.Core.Path.{◌≡◌, refl, sym, ◌∙◌, ap}
use native.Mathlib.Omega.{arith}
use Rattle.sheet.specs.Rules.{Rule, first_broken, verdict}
use Rattle.sheet.specs.Inner.Passed.{Framed, Routed, Passed}
use Rattle.sheet.proofs.PassedLaws.{headed, framed}

-- all rules are kept
pub done : (z : List ℕ) → 0 ≡ first_broken [] z
unfolding first_broken
done z = refl

module _ (z : List ℕ) (r : Rule) (rs : List Rule) where
  -- the first rule is broken
  pub here : r.keeps z ≡ false → r.number ≡ first_broken (r ∷ rs) z
  unfolding first_broken
  here e = rw (e, first_broken) refl

  -- the first rule is kept, and those behind it decide
  pub on : {v : ℕ} → r.keeps z ≡ true → v ≡ first_broken rs z → v ≡ first_broken (r ∷ rs) z
  unfolding first_broken
  on e f = f ∙ rw (e, first_broken) refl

  -- where none is broken, the first is kept, and none behind it is broken
  pub kept : first_broken (r ∷ rs) z ≡ 0 → (r.number ≡ 0 → ⊥) → (r.keeps z ≡ true) × (first_broken rs z ≡ 0)
  kept h ne = go (r.keeps z) refl
    where
      go : (b : Bool) → r.keeps z ≡ b → (r.keeps z ≡ true) × (first_broken rs z ≡ 0)
      go true e = (e, on e refl ∙ h)
      go false e = absurd (ne (here e ∙ h))

-- no rule of the list has the number 0, which `refl` proves of a list that is written out
abbrev pub numbered : List Rule → Bool
numbered [] = true
numbered (r ∷ rs) = elim r.number [ zero ↦ false | suc n ↦ numbered rs ]

first_number : (r : Rule) (rs : List Rule) → numbered (r ∷ rs) ≡ true → r.number ≡ 0 → ⊥
first_number r rs n e₀ = false≢true (sym (ap (λ (k : ℕ). elim k [ zero ↦ false | suc m ↦ numbered rs ]) e₀) ∙ n)

rest_numbered : (r : Rule) (rs : List Rule) → numbered (r ∷ rs) ≡ true → numbered rs ≡ true
rest_numbered r rs n = go r.number n
  where
    go : (k : ℕ) → elim k [ zero ↦ false | suc m ↦ numbered rs ] ≡ true → numbered rs ≡ true
    go zero e = absurd (false≢true e)
    go (suc m) e = e

-- the rules of a first list are kept, and those of a second decide
pub append_kept : (z : List ℕ) (xs ys : List Rule) → first_broken xs z ≡ 0 → numbered xs ≡ true
    → first_broken (xs ++ ys) z ≡ first_broken ys z
append_kept z [] ys h n = refl
append_kept z (r ∷ xs) ys h n =
    let k = kept z r xs h (first_number r xs n) in
    sym (on z r (xs ++ ys) k.0 (sym (append_kept z xs ys k.1 (rest_numbered r xs n))))

-- a rule of a first list is broken
pub append_broken : (z : List ℕ) (xs ys : List Rule) → (first_broken xs z ≡ 0 → ⊥)
    → first_broken (xs ++ ys) z ≡ first_broken xs z
append_broken z [] ys h = absurd (h (sym (done z)))
append_broken z (r ∷ xs) ys h = go (r.keeps z) refl (append_broken z xs ys)
  where
    go : (b : Bool) → r.keeps z ≡ b → ((first_broken xs z ≡ 0 → ⊥) → first_broken (xs ++ ys) z ≡ first_broken xs z)
        → first_broken ((r ∷ xs) ++ ys) z ≡ first_broken (r ∷ xs) z
    go true e f = sym (on z r (xs ++ ys) e refl) ∙ f (λ e₀. h (sym (on z r xs e (sym e₀)))) ∙ on z r xs e refl
    go false e f = sym (here z r (xs ++ ys) e) ∙ here z r xs e

-- a sheet with verdict 0 keeps all rules
pub passed : (z : List ℕ) → verdict z ≡ 0 → Passed z
unfolding verdict
passed z h =
    let k₁ = kept z _ _ h (λ e. omega (arith, e)) in
    let k₂ = kept z _ _ k₁.1 (λ e. omega (arith, e)) in
    let k₃ = kept z _ _ k₂.1 (λ e. omega (arith, e)) in
    let k₄ = kept z _ _ k₃.1 (λ e. omega (arith, e)) in
    let k₅ = kept z _ _ k₄.1 (λ e. omega (arith, e)) in
    let k₆ = kept z _ _ k₅.1 (λ e. omega (arith, e)) in
    let k₇ = kept z _ _ k₆.1 (λ e. omega (arith, e)) in
    let k₈ = kept z _ _ k₇.1 (λ e. omega (arith, e)) in
    let k₉ = kept z _ _ k₈.1 (λ e. omega (arith, e)) in
    let k₁₀ = kept z _ _ k₉.1 (λ e. omega (arith, e)) in
    let k₁₁ = kept z _ _ k₁₀.1 (λ e. omega (arith, e)) in
    record {
      rule1_kept = k₁.0;
      rule2_kept = k₂.0;
      rule3_kept = k₃.0;
      rule4_kept = k₄.0;
      rule5_kept = k₅.0;
      rule6_kept = k₆.0;
      rule7_kept = k₇.0;
      rule8_kept = k₈.0;
      rule9_kept = k₉.0;
      rule10_kept = k₁₀.0;
      rule11_kept = k₁₁.0;
    }

-- and one that keeps them has it
pub verdict_none : (z : List ℕ) → Passed z → verdict z ≡ 0
unfolding verdict
verdict_none z p =
    sym (on z _ _ p.rule1_kept (on z _ _ p.rule2_kept (on z _ _ p.rule3_kept (on z _ _ p.rule4_kept (on z _ _ p.rule5_kept
    (on z _ _ p.rule6_kept (on z _ _ p.rule7_kept (on z _ _ p.rule8_kept (on z _ _ p.rule9_kept (on z _ _ p.rule10_kept
    (on z _ _ p.rule11_kept (done z))))))))))))

-- a sheet with verdict 0 is divided into its parts
pub passed_framed : (z : List ℕ) → verdict z ≡ 0 → Framed z
passed_framed z h =
    let p = passed z h in
    framed z (headed z p.rule1_kept p.rule2_kept) p.rule3_kept

-- a sheet with verdict 0 has routes that lead to their ends in time
pub routed : (z : List ℕ) → verdict z ≡ 0 → Routed z
routed z h =
    let p = passed z h in
    record {
      ranged = record { framed = passed_framed z h; circuits_fit = p.rule4_kept; entries_fit = p.rule7_kept };
      routes_lead = p.rule9_kept;
      packets_end = p.rule10_kept;
    }

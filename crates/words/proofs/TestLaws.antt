-- What a test made of the shut operators gives, part by part; a test from its fact, and the fact from its test.
-- Assumes nothing.
use Prim.Native.Nat.{ℕ, ◌<◌, ◌≤◌}
use mathlib.Core.Bool.{Bool, true, false, not, false≢true}
use native.Mathlib.Omega.{arith}
use native.Mathlib.Decide.{dec_le, ℕ_discrete}
use borrow.Author.Tests.{le-leb, lt-leb, lt-ltb, le-ltb, eq-eqb, ne_eqb, leb-true, ltb-true, eqb-true}
use Rattle.words.specs.Tests.{◌and◌, ◌or◌, ◌≤?◌, ◌<?◌, ◌=?◌, ◌≠?◌}
use mathlib.Core.Path.{◌≡◌, refl, ◌∙◌, sym, ap}

-- the first test fails
pub and_no : {a : Bool} (b : Bool) → a ≡ false → false ≡ a and b
unfolding ◌and◌ ◌or◌
and_no b e = sym (ap (λ (t : Bool). t and b) e)

-- the first test passes, and the rest decides
pub and_on : {a b v : Bool} → a ≡ true → v ≡ b → v ≡ a and b
unfolding ◌and◌ ◌or◌
and_on {a} {b} {v} e r = r ∙ sym (ap (λ (t : Bool). t and b) e)

-- both pass
pub and_both : {a b : Bool} → a ≡ true → b ≡ true → a and b ≡ true
unfolding ◌and◌ ◌or◌
and_both {a} {b} e f = ap (λ (t : Bool). t and b) e ∙ f

-- the first test holds
pub or_yes : {a : Bool} (b : Bool) → a ≡ true → true ≡ a or b
unfolding ◌and◌ ◌or◌
or_yes b e = sym (ap (λ (t : Bool). t or b) e)

-- the first test does not hold, and the rest decides
pub or_on : {a b v : Bool} → a ≡ false → v ≡ b → v ≡ a or b
unfolding ◌and◌ ◌or◌
or_on {a} {b} {v} e r = r ∙ sym (ap (λ (t : Bool). t or b) e)

pub and_left : (a b : Bool) → a and b ≡ true → a ≡ true
unfolding ◌and◌ ◌or◌
and_left true b e = refl
and_left false b e = e

pub and_right : (a b : Bool) → a and b ≡ true → b ≡ true
unfolding ◌and◌ ◌or◌
and_right true b e = e
and_right false b e = false_any b e
  where
    false_any : (b : Bool) → false ≡ true → b ≡ true
    false_any true e = refl
    false_any false e = e

pub and_no_right : (a b : Bool) → b ≡ false → a and b ≡ false
unfolding ◌and◌ ◌or◌
and_no_right true b e = e
and_no_right false b e = refl

-- a later test fails
pub and_skip : (a : Bool) {b : Bool} → false ≡ b → false ≡ a and b
unfolding ◌and◌ ◌or◌
and_skip true r = r
and_skip false r = refl

-- a later test holds
pub or_skip : (a : Bool) {b : Bool} → true ≡ b → true ≡ a or b
unfolding ◌and◌ ◌or◌
or_skip true r = refl
or_skip false r = r

-- each test, from the fact
pub yes≤ : {a b : ℕ} → a ≤ b → (a ≤? b) ≡ true
unfolding ◌≤?◌
yes≤ h = le-leb _ _ h

pub no≤ : {a b : ℕ} → b < a → (a ≤? b) ≡ false
unfolding ◌≤?◌
no≤ h = lt-leb _ _ h

pub yes< : {a b : ℕ} → a < b → (a <? b) ≡ true
unfolding ◌<?◌
yes< h = lt-ltb _ _ h

pub no< : {a b : ℕ} → b ≤ a → (a <? b) ≡ false
unfolding ◌<?◌
no< h = le-ltb _ _ h

pub yes= : {a b : ℕ} → a ≡ b → (a =? b) ≡ true
unfolding ◌=?◌
yes= h = eq-eqb _ _ h

pub no= : {a b : ℕ} → (a ≡ b → ⊥) → (a =? b) ≡ false
unfolding ◌=?◌
no= h = ne_eqb _ _ h

pub yes≠ : {a b : ℕ} → (a ≡ b → ⊥) → (a ≠? b) ≡ true
unfolding ◌≠?◌
yes≠ h = ap not (ne_eqb _ _ h)

pub no≠ : {a b : ℕ} → a ≡ b → (a ≠? b) ≡ false
unfolding ◌≠?◌
no≠ h = ap not (eq-eqb _ _ h)

-- and the fact, from the test
pub is≤ : (a b : ℕ) → (a ≤? b) ≡ true → a ≤ b
unfolding ◌≤?◌
is≤ a b h = leb-true a b h

pub is< : (a b : ℕ) → (a <? b) ≡ true → a < b
unfolding ◌<?◌
is< a b h = ltb-true a b h

pub is= : (a b : ℕ) → (a =? b) ≡ true → a ≡ b
unfolding ◌=?◌
is= a b h = eqb-true a b h

pub is≠ : (a b : ℕ) → (a ≠? b) ≡ true → a ≡ b → ⊥
is≠ a b h e = false≢true (sym (no≠ e) ∙ h)

pub not< : (a b : ℕ) → (a <? b) ≡ false → b ≤ a
not< a b e = go (dec_le b a)
  where
    go : Dec (b ≤ a) → b ≤ a
    go (yes p) = p
    go (no p) = absurd (false≢true (sym e ∙ yes< (omega (arith, p))))

pub not≠ : (a b : ℕ) → (a ≠? b) ≡ false → a ≡ b
not≠ a b e = go (ℕ_discrete a b)
  where
    go : Dec (a ≡ b) → a ≡ b
    go (yes p) = p
    go (no p) = absurd (false≢true (sym e ∙ yes≠ p))

-- one of two tests holds
pub or_cases : (a b : Bool) {A : Type 0} → a or b ≡ true → (a ≡ true → A) → (b ≡ true → A) → A
unfolding ◌or◌
or_cases true b e f g = f refl
or_cases false b e f g = g e

-- several tests in another order
pub or_false : (a : Bool) → a ≡ a or false
unfolding ◌or◌
or_false true = refl
or_false false = refl

pub or_swap : (a b : Bool) → a or b ≡ b or a
unfolding ◌or◌
or_swap true b = or_yes_right b
  where
    or_yes_right : (b : Bool) → true ≡ b or true
    or_yes_right true = refl
    or_yes_right false = refl
or_swap false b = or_false b

pub or_assoc : (a b c : Bool) → a or (b or c) ≡ (a or b) or c
unfolding ◌or◌
or_assoc true b c = refl
or_assoc false b c = refl

pub or_pairs : (a b c d : Bool) → (a or b) or (c or d) ≡ (a or c) or (b or d)
unfolding ◌or◌
or_pairs true b c d = refl
or_pairs false true c d = or_skip c refl
or_pairs false false c d = refl

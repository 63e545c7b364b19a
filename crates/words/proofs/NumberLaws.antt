-- Laws of the first number that applies: it is 0 exactly where every test holds; and it is what tests made in turn find.
-- Assumes nothing.
use Prim.Native.Nat.{ℕ, suc, ◌<◌}
use mathlib.Core.Bool.{Bool, true, false, false≢true}
use mathlib.Core.Path.{◌≡◌, refl, sym, ◌∙◌, ap}
use native.Mathlib.Omega.{arith}
use Rattle.words.specs.Tests.{◌=?◌, ◌and◌}
use Rattle.words.specs.Words.{pick}
use Rattle.words.specs.Numbers.{unless, ◌then◌}
use Rattle.words.proofs.TestLaws.{is=, yes=, no=}

-- no number of two applies
pub then_zero : (a b : ℕ) → (a then b) ≡ 0 → (a ≡ 0) × (b ≡ 0)
unfolding ◌then◌
then_zero a b e = go (a =? 0) refl e
  where
    go : (t : Bool) → (a =? 0) ≡ t → pick t b a ≡ 0 → (a ≡ 0) × (b ≡ 0)
    go true q r = (is= a 0 q, r)
    go false q r = absurd (false≢true (sym q ∙ yes= r))

-- a number does not apply: its test holds
pub unless_zero : (number : ℕ) (test : Bool) → 0 < number → unless number test ≡ 0 → test ≡ true
unfolding unless
unless_zero number true l e = refl
unless_zero number false l e = absurd (let z : ⊥ = omega arith in z)

-- and back
pub zero_then : {a b : ℕ} → a ≡ 0 → b ≡ 0 → (a then b) ≡ 0
unfolding ◌then◌
zero_then {a} {b} e f = ap (λ (t : Bool). pick t b a) (yes= e) ∙ f

pub zero_unless : (number : ℕ) {test : Bool} → test ≡ true → unless number test ≡ 0
unfolding unless
zero_unless number {test} e = ap (λ (t : Bool). pick t 0 number) e

-- tests one after another
pub then_test : (a b : ℕ) → ((a then b) =? 0) ≡ (a =? 0 and b =? 0)
unfolding ◌then◌ ◌and◌
then_test a b = go (a =? 0) refl
  where
    go : (t : Bool) → (a =? 0) ≡ t → (pick t b a =? 0) ≡ (t and b =? 0)
    go true e = refl
    go false e = e

pub unless_test : (n : ℕ) (t : Bool) → (unless (suc n) t =? 0) ≡ t
unfolding unless
unless_test n true = yes= refl
unless_test n false = no= (λ e. absurd (let z : ⊥ = omega arith in z))

-- behind a number that is 0, the rest decides
pub after_zero : {a : ℕ} (b : ℕ) → a ≡ 0 → ((a then b) =? 0) ≡ (b =? 0)
unfolding ◌and◌
after_zero {a} b e = then_test a b ∙ ap (λ (t : Bool). t and b =? 0) (yes= e)

-- a test, then a number
pub test_then : (n : ℕ) (t : Bool) (b : ℕ) → ((unless (suc n) t then b) =? 0) ≡ (t and b =? 0)
test_then n t b = then_test (unless (suc n) t) b ∙ ap (λ (u : Bool). u and b =? 0) (unless_test n t)

-- the first number applies
pub then_first : {n a : ℕ} (b : ℕ) → n ≡ a → (n ≡ 0 → ⊥) → n ≡ (a then b)
unfolding ◌then◌
then_first {n} {a} b e ne = e ∙ sym (ap (λ (t : Bool). pick t b a) (no= (λ z. ne (e ∙ z))))

-- it does not, and the rest decides
pub then_next : {a b v : ℕ} → a ≡ 0 → v ≡ b → v ≡ (a then b)
unfolding ◌then◌
then_next {a} {b} e r = r ∙ sym (ap (λ (t : Bool). pick t b a) (yes= e))

-- a number whose test does not hold
pub unless_no : (number : ℕ) {test : Bool} → test ≡ false → number ≡ unless number test
unfolding unless
unless_no number e = sym (ap (λ (t : Bool). pick t 0 number) e)

-- one whose test holds
pub unless_yes : (number : ℕ) {test : Bool} → test ≡ true → 0 ≡ unless number test
unless_yes number e = sym (zero_unless number e)

-- a number in the midst of others: its test does not hold, or it does and the rest decides
pub then_stop : (number : ℕ) {test : Bool} (rest : ℕ) → 0 < number → test ≡ false → number ≡ (unless number test then rest)
then_stop number rest l e = then_first rest (unless_no number e) (λ z. omega arith)

pub then_on : (number : ℕ) {test : Bool} {rest v : ℕ} → test ≡ true → v ≡ rest → v ≡ (unless number test then rest)
then_on number e r = then_next (zero_unless number e) r

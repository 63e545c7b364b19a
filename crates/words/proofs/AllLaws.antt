-- The laws of `all` and `any`: how a loop that tests each number goes on, fails and ends, and what holds of each number then.
-- Assumes nothing.
use Prim.Native.Nat.{ℕ, zero, suc, ◌+◌, ◌*◌, ◌<◌, ◌≤◌}
use mathlib.Core.Bool.{Bool, true, false}
use mathlib.Core.Path.{◌≡◌, refl, sym, subst, ◌∙◌, ap, ap₂}
use native.Mathlib.Omega.{arith}
use native.Mathlib.Numerals.{add-one}
use native.Mathlib.Decide.{ℕ_discrete}
use native.Mathlib.Nat.{not-suc-le-zero, add-zero, add-suc, zero-mul, suc-mul}
use Rattle.words.specs.Tests.{all, any, ◌and◌, ◌or◌}
use Rattle.words.proofs.TestLaws.{and_no, and_both, and_left, and_right, and_no_right, or_yes, or_on, or_skip, or_false, or_assoc, or_pairs}

module _ (p : ℕ → Bool) where
  pub all_none : true ≡ all 0 p
  unfolding all
  all_none = refl

  pub all_more : (i : ℕ) → all i p ≡ true → p i ≡ true → all (i + 1) p ≡ true
  unfolding all
  all_more i h e = rw add-one (and_both h e)

  -- n is where the loop's counter stands at the end
  pub all_done : (n i : ℕ) → all i p ≡ true → i ≤ n → n ≤ i → true ≡ all n p
  all_done n i h a b =
      let e : i ≡ n = omega arith in
      sym (subst (λ (m : ℕ). all m p ≡ true) e h)

  pub all_at : (n : ℕ) → all n p ≡ true → (k : ℕ) → k < n → p k ≡ true
  unfolding all
  all_at zero h k l = absurd (not-suc-le-zero l)
  all_at (suc n) h k l = go (ℕ_discrete k n) (all_at n (and_left (all n p) (p n) h) k)
    where
      go : Dec (k ≡ n) → (k < n → p k ≡ true) → p k ≡ true
      go (yes e) r = ap p e ∙ and_right (all n p) (p n) h
      go (no ne) r = r (omega (arith, ne))

  pub all_fails : (n k : ℕ) → k < n → p k ≡ false → false ≡ all n p
  unfolding all
  all_fails zero k l e = absurd (not-suc-le-zero l)
  all_fails (suc n) k l e = go (ℕ_discrete k n) (all_fails n k)
    where
      go : Dec (k ≡ n) → (k < n → p k ≡ false → false ≡ all n p) → false ≡ all n p and p n
      go (yes q) r = sym (and_no_right (all n p) (p n) (ap p (sym q) ∙ e))
      go (no ne) r = and_no (p n) (sym (r (omega (arith, ne)) e))

-- a test that holds of each number below n
pub all_of : (n : ℕ) (test : ℕ → Bool) → ((k : ℕ) → k < n → test k ≡ true) → all n test ≡ true
unfolding all
all_of zero test h = refl
all_of (suc n) test h = and_both (all_of n test (λ k l. h k (omega arith))) (h n (omega arith))

-- two tests that agree at each number below n
pub all_same : (n : ℕ) (p q : ℕ → Bool) → ((k : ℕ) → k < n → p k ≡ q k) → all n p ≡ all n q
unfolding all
all_same zero p q h = refl
all_same (suc n) p q h = ap₂ ◌and◌ (all_same n p q (λ k l. h k (omega arith))) (h n (omega arith))

-- a test that holds of a number below n holds of some
pub any_at : (n : ℕ) (p : ℕ → Bool) (k : ℕ) → k < n → p k ≡ true → any n p ≡ true
unfolding any
any_at zero p k l e = absurd (not-suc-le-zero l)
any_at (suc n) p k l e = go (ℕ_discrete k n) (any_at n p k)
  where
    go : Dec (k ≡ n) → (k < n → p k ≡ true → any n p ≡ true) → any n p or p n ≡ true
    go (yes q) r = sym (or_skip (any n p) (sym (ap p (sym q) ∙ e)))
    go (no ne) r = sym (or_yes (p n) (r (omega (arith, ne)) e))

-- a test that fails at each number below n holds of none
pub any_none : (n : ℕ) (p : ℕ → Bool) → ((k : ℕ) → k < n → p k ≡ false) → any n p ≡ false
unfolding any
any_none zero p h = refl
any_none (suc n) p h = sym (or_on (any_none n p (λ k l. h k (omega arith))) (sym (h n (omega arith))))

pub any_same : (n : ℕ) (p q : ℕ → Bool) → ((k : ℕ) → k < n → p k ≡ q k) → any n p ≡ any n q
unfolding any
any_same zero p q h = refl
any_same (suc n) p q h = ap₂ ◌or◌ (any_same n p q (λ k l. h k (omega arith))) (h n (omega arith))

-- one number more
pub any_more : (p : ℕ → Bool) (n : ℕ) → any (n + 1) p ≡ any n p or p n
unfolding any
any_more p n = rw add-one

-- a loop that looks for a number that passes: it begins, and the next does not pass either
pub any_start : (p : ℕ → Bool) → any 0 p ≡ false
unfolding any
any_start p = refl

pub any_still_none : (p : ℕ → Bool) (k : ℕ) → any k p ≡ false → p k ≡ false → any (k + 1) p ≡ false
any_still_none p k h e = any_more p k ∙ sym (or_on h (sym e))

-- some number passes one of two tests
pub any_or : (n : ℕ) (p q : ℕ → Bool) → any n p or any n q ≡ any n (λ k. p k or q k)
unfolding any
any_or zero p q = sym (or_false false)
any_or (suc n) p q = or_pairs (any n p) (p n) (any n q) (q n) ∙ ap (λ t. t or (p n or q n)) (any_or n p q)

-- some number below a + b is one below a, or a and one below b
pub any_split : (p : ℕ → Bool) (a b : ℕ) → any (a + b) p ≡ any a p or any b (λ i. p (a + i))
unfolding any
any_split p a zero = rw add-zero (or_false (any a p))
any_split p a (suc b) =
    rw add-suc (ap (λ t. t or p (a + b)) (any_split p a b) ∙ sym (or_assoc (any a p) (any b (λ i. p (a + i))) (p (a + b))))

-- n rows of m numbers, row by row
pub any_by_row : (p : ℕ → Bool) (n m : ℕ) → any (n * m) p ≡ any n (λ row. any m (λ i. p (row * m + i)))
unfolding any
any_by_row p zero m = rw zero-mul refl
any_by_row p (suc n) m =
    ap (λ k. any k p) (suc-mul n m) ∙ any_split p (n * m) m ∙ ap (λ t. t or any m (λ i. p (n * m + i))) (any_by_row p n m)

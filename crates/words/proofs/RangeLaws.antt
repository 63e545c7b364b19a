-- What `all` and `any` of a range of numbers answer, where the closure computes a test: our `all` and `any` of that test.
-- Assumes nothing.
use Prim.Native.Nat.{ℕ, zero, suc, ◌+◌}
use mathlib.Core.Bool.{Bool, true, false, ◌&&◌, ◌||◌}
use mathlib.Core.List.{List}
use mathlib.Core.Path.{◌≡◌, refl, sym, ◌∙◌, ap}
use native.Mathlib.Omega.{arith}
use denote.Param.Members.{Mut}
use Rattle.std.specs.declared.option.Option.{Option}
use Rattle.std.specs.declared.ops.Range.{Range}
use Rattle.std.specs.Fn.{Called}
use Rattle.std.specs.Iterator.{YieldsThen}
use Rattle.std.specs.List.{FoldsTo, list_all, list_any, range_with_len}
use Rattle.std.specs.Option.{MatchOption}
use Rattle.std.proofs.lemmas.Iterator.{YieldsList-from_range}
use Rattle.std.proofs.lemmas.Iterator.Search.{all_from_yields_List, any_from_yields_List}
use Rattle.std.proofs.iter.Yields.{nat_range_steps}
use Rattle.words.specs.Tests.{all, any, ◌and◌, ◌or◌}

-- from the front, as a range gives its numbers
all_front : (n : ℕ) (test : ℕ → Bool) → all (suc n) test ≡ (test 0 && all n (λ k. test (suc k)))
unfolding all ◌and◌
all_front zero test = go (test 0)
  where
    go : (b : Bool) → true and b ≡ (b && true)
    go true = refl
    go false = refl
all_front (suc n) test = ap (λ t. t and test (suc n)) (all_front n test) ∙ go (test 0) (all n (λ k. test (suc k))) (test (suc n))
  where
    go : (a b c : Bool) → (a && b) and c ≡ (a && (b and c))
    go true b c = refl
    go false b c = refl

any_front : (n : ℕ) (test : ℕ → Bool) → any (suc n) test ≡ (test 0 || any n (λ k. test (suc k)))
unfolding any ◌or◌
any_front zero test = go (test 0)
  where
    go : (b : Bool) → false or b ≡ (b || false)
    go true = refl
    go false = refl
any_front (suc n) test = ap (λ t. t or test (suc n)) (any_front n test) ∙ go (test 0) (any n (λ k. test (suc k))) (test (suc n))
  where
    go : (a b c : Bool) → (a || b) or c ≡ (a || (b or c))
    go true b c = refl
    go false b c = refl

none_on : (a : ℕ) → a + 0 ≡ a
none_on a = omega arith

shift : (a k : ℕ) → a + 1 + k ≡ a + suc k
shift a k = omega arith

list_all_range : (n a : ℕ) (test : ℕ → Bool) → list_all test (range_with_len a n) ≡ all n (λ k. test (a + k))
unfolding all
list_all_range zero a test = refl
list_all_range (suc n) a test =
    ap (λ t. test a && t) (list_all_range n (a + 1) test)
    ∙ (λ i. test (sym (none_on a) i) && all n (λ k. test (shift a k i)))
    ∙ sym (all_front n (λ k. test (a + k)))

list_any_range : (n a : ℕ) (test : ℕ → Bool) → list_any test (range_with_len a n) ≡ any n (λ k. test (a + k))
unfolding any
list_any_range zero a test = refl
list_any_range (suc n) a test =
    ap (λ t. test a || t) (list_any_range n (a + 1) test)
    ∙ (λ i. test (sym (none_on a) i) || any n (λ k. test (shift a k i)))
    ∙ sym (any_front n (λ k. test (a + k)))

from_none : (a k : ℕ) → a ≡ 0 → a + k ≡ k
from_none a k e = omega arith

module _ {F : Type 0} {g : Mut F (ℕ × Unit {0}) Bool} (test : ℕ → Bool) {s u : Range ℕ} {f : F} {r : Bool} {n : ℕ} where
  -- `(0..n).all(f)`
  pub all_range : s.start ≡ 0 → s.end ≡ n
      → (xs : List ℕ) × (o : Option ℕ) × (j : F) × YieldsThen nat_range_steps s xs o u × FoldsTo (λ p x q. Called g p (x, tt) true q) f xs j × MatchOption o (r ≡ true) (λ x. (r ≡ false) × ((h : F) × Called g j (x, tt) false h))
      → ((x : ℕ) (b : Bool) (q : F) → Called g f (x, tt) b q → (q ≡ f) × (b ≡ test x))
      → r ≡ all n test
  all_range z e d k =
      all_from_yields_List test u f r d (YieldsList-from_range s.start s.end n refl (omega arith)) k
      ∙ list_all_range _ _ test
      ∙ (λ i. all n (λ j. test (from_none s.start j z i)))

  -- `(0..n).any(f)`
  pub any_range : s.start ≡ 0 → s.end ≡ n
      → (xs : List ℕ) × (o : Option ℕ) × (j : F) × YieldsThen nat_range_steps s xs o u × FoldsTo (λ p x q. Called g p (x, tt) false q) f xs j × MatchOption o (r ≡ false) (λ x. (r ≡ true) × ((h : F) × Called g j (x, tt) true h))
      → ((x : ℕ) (b : Bool) (q : F) → Called g f (x, tt) b q → (q ≡ f) × (b ≡ test x))
      → r ≡ any n test
  any_range z e d k =
      any_from_yields_List test u f r d (YieldsList-from_range s.start s.end n refl (omega arith)) k
      ∙ list_any_range _ _ test
      ∙ (λ i. any n (λ j. test (from_none s.start j z i)))

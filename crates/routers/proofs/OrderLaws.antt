-- How many of the inputs of each node are among the first k inputs of all nodes, in the order of their places.
-- Assumes nothing.
use Prim.Native.Nat.{ℕ, ◌+◌, ◌*◌, ◌/◌, ◌%◌, ◌<◌, ◌≤◌}
use mathlib.Core.Path.{◌≡◌, refl, sym, ◌∙◌, ap}
use native.Mathlib.Omega.{arith}
use native.Mathlib.Decide.{ℕ_discrete, dec_lt}
use Rattle.words.specs.Tests.{◌<?◌, ◌=?◌}
use Rattle.words.specs.Words.{pick}
use Rattle.words.proofs.TestLaws.{yes=, no=, yes<, no<}

-- of the five inputs of the node that a place belongs to, how many are among the first k inputs of all nodes
unfoldable pub passed : ℕ → ℕ → ℕ
passed p k = pick (p / 5 <? k / 5) 5 (pick (p / 5 =? k / 5) (k % 5) 0)

module _ (p k : ℕ) where
  passed_all : p / 5 < k / 5 → passed p k ≡ 5
  unfolding passed
  passed_all h = rw (yes< h) refl

  pub passed_some : p / 5 ≡ k / 5 → passed p k ≡ k % 5
  unfolding passed
  passed_some h =
      let le : k / 5 ≤ p / 5 = omega arith in
      rw (no< le, yes= h) refl

  passed_none : k / 5 < p / 5 → passed p k ≡ 0
  unfolding passed
  passed_none h =
      let le : k / 5 ≤ p / 5 = omega arith in
      let other : p / 5 ≡ k / 5 → ⊥ = λ e. (let z : ⊥ = omega (arith, e) in z) in
      rw (no< le, no= other) refl

-- one input more, of the place's own node, or of another
pub passed_own : (p k : ℕ) → p / 5 ≡ k / 5 → passed p (k + 1) ≡ passed p k + 1
passed_own p k h = go (dec_lt (k % 5) 4)
  where
    go : Dec (k % 5 < 4) → passed p (k + 1) ≡ passed p k + 1
    go (yes l) =
        let same : p / 5 ≡ (k + 1) / 5 = omega arith in
        let more : (k + 1) % 5 ≡ k % 5 + 1 = omega arith in
        passed_some p (k + 1) same ∙ more ∙ ap (λ n. n + 1) (sym (passed_some p k h))
    go (no g) =
        let over : p / 5 < (k + 1) / 5 = omega (arith, g) in
        let last : 5 ≡ k % 5 + 1 = omega (arith, g) in
        passed_all p (k + 1) over ∙ last ∙ ap (λ n. n + 1) (sym (passed_some p k h))

pub passed_other : (p k : ℕ) → (p / 5 ≡ k / 5 → ⊥) → passed p (k + 1) ≡ passed p k
passed_other p k ne = go (dec_lt (p / 5) (k / 5)) (ℕ_discrete (p / 5) ((k + 1) / 5))
  where
    go : Dec (p / 5 < k / 5) → Dec (p / 5 ≡ (k + 1) / 5) → passed p (k + 1) ≡ passed p k
    go (yes l) d =
        let l' : p / 5 < (k + 1) / 5 = omega arith in
        passed_all p (k + 1) l' ∙ sym (passed_all p k l)
    go (no g) (yes e) =
        let l : k / 5 < p / 5 = omega (arith, g, ne) in
        let z : (k + 1) % 5 ≡ 0 = omega arith in
        passed_some p (k + 1) e ∙ z ∙ sym (passed_none p k l)
    go (no g) (no f) =
        let l : k / 5 < p / 5 = omega (arith, g, ne) in
        let l' : (k + 1) / 5 < p / 5 = omega (arith, f) in
        passed_none p (k + 1) l' ∙ sym (passed_none p k l)

pub passed_start : (p : ℕ) → passed p 0 ≡ 0
passed_start p = go (ℕ_discrete (p / 5) 0)
  where
    go : Dec (p / 5 ≡ 0) → passed p 0 ≡ 0
    go (yes e) = passed_some p 0 e
    go (no ne) = let l : 0 / 5 < p / 5 = omega (arith, ne) in passed_none p 0 l

-- after all inputs of n nodes
pub passed_end : (p n : ℕ) → p < n * 5 → passed p (n * 5) ≡ 5
passed_end p n l =
    let h : p / 5 < (n * 5) / 5 = omega arith in
    passed_all p (n * 5) h

passed_beyond : (p n : ℕ) → n * 5 ≤ p → passed p (n * 5) ≡ 0
passed_beyond p n l = go (ℕ_discrete (p / 5) ((n * 5) / 5))
  where
    go : Dec (p / 5 ≡ (n * 5) / 5) → passed p (n * 5) ≡ 0
    go (yes e) =
        let z : (n * 5) % 5 ≡ 0 = omega arith in
        passed_some p (n * 5) e ∙ z
    go (no ne) =
        let h : (n * 5) / 5 < p / 5 = omega (arith, ne) in
        passed_none p (n * 5) h

-- so a fold over the passed inputs is the fold over all five at the n nodes' places, and over none elsewhere
pub passed_over : (fold : ℕ → ℕ) (p n m : ℕ) → n ≡ m → fold 0 ≡ 0 → fold (passed p (n * 5)) ≡ pick (p <? m * 5) (fold 5) 0
passed_over fold p n m own none = go (dec_lt p (n * 5))
  where
    go : Dec (p < n * 5) → fold (passed p (n * 5)) ≡ pick (p <? m * 5) (fold 5) 0
    go (yes l) =
        let inside : p < m * 5 = omega arith in
        ap fold (passed_end p n l) ∙ sym (ap (λ t. pick t (fold 5) 0) (yes< inside))
    go (no g) =
        let beyond : n * 5 ≤ p = omega (arith, g) in
        let outside : m * 5 ≤ p = omega arith in
        ap fold (passed_beyond p n beyond) ∙ none ∙ sym (ap (λ t. pick t (fold 5) 0) (no< outside))

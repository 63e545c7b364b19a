-- Tables that a loop fills out of order: one place set, and two tables that agree.
-- Assumes nothing.
use Prim.Native.Nat.{ℕ, ◌<◌}
use mathlib.Core.Path.{◌≡◌, sym, ◌∙◌, ap}
use native.Mathlib.Omega.{arith}
use native.Mathlib.Decide.{ℕ_discrete}
use lib.ListN.{set, replicate, length-set, length-replicate, get_or-replicate}
use lib.Seq.{get_or-set_same, get_or-set_other}
use Rattle.words.specs.Words.{word, tab}
use Rattle.words.proofs.WordLaws.{length_tab, tab_at, tab_is}

-- a table of zeros, as a new array has it
pub tab_zeros : (n : ℕ) → replicate n 0 ≡ tab n (λ (k : ℕ). 0)
tab_zeros n = tab_is (replicate n 0) n (λ (k : ℕ). 0) (length-replicate {A = ℕ} n 0) (λ k l. get_or-replicate n k 0 0 l)

module _ (n : ℕ) (f g : ℕ → ℕ) where
  pub tab_same : ((k : ℕ) → k < n → f k ≡ g k) → tab n f ≡ tab n g
  tab_same h = tab_is (tab n f) n g (length_tab n f) (λ k l. tab_at n f k l ∙ h k l)

  -- place k is set to v, all others stay; past the end nothing is set
  pub tab_set : (k v : ℕ) → (k < n → v ≡ g k) → ((j : ℕ) → j < n → (j ≡ k → ⊥) → f j ≡ g j) → set (tab n f) k v ≡ tab n g
  tab_set k v here other =
      tab_is (set (tab n f) k v) n g (length-set (tab n f) k v ∙ length_tab n f) (λ j l. go j l (ℕ_discrete j k))
    where
      at : k < n → word (set (tab n f) k v) k ≡ v
      at l = get_or-set_same (tab n f) k v 0 (rw length_tab l)

      go : (j : ℕ) → j < n → Dec (j ≡ k) → word (set (tab n f) k v) j ≡ g j
      go j l (yes e) =
          let l' : k < n = omega arith in
          ap (word (set (tab n f) k v)) e ∙ at l' ∙ here l' ∙ ap g (sym e)
      go j l (no ne) = get_or-set_other (tab n f) k j v 0 ne ∙ tab_at n f j l ∙ other j l ne

-- The first mark that is not empty, and the word beside it: where all are empty it is 0.
-- Assumes nothing.
use Prim.Native.Nat.{ℕ, zero, suc, ◌<◌}
use mathlib.Core.Path.{◌≡◌, refl, ◌∙◌, sym}
use native.Mathlib.Omega.{arith}
use native.Mathlib.Decide.{ℕ_discrete}
use Rattle.words.proofs.TestLaws.{yes=, no=}
use Rattle.network.specs.Inner.Machine.{first_mark, first_word}

module _ (marks : ℕ → ℕ) where
  pub first_none : first_mark 0 marks ≡ 0
  unfolding first_mark
  first_none = refl

  -- so far all are empty: the next one decides
  first_next : (n : ℕ) → first_mark n marks ≡ 0 → first_mark (suc n) marks ≡ marks n
  unfolding first_mark
  first_next n h = rw (yes= h, first_mark)

  word_over : (words : ℕ → ℕ) (n : ℕ) → first_mark n marks ≡ 0 → marks n ≡ 0 → first_word (suc n) marks words ≡ 0
  unfolding first_word
  word_over words n h e = rw (yes= h, yes= e, first_word)

  -- all are empty, one by one
  pub first_empty : (n : ℕ) → ((k : ℕ) → k < n → marks k ≡ 0) → first_mark n marks ≡ 0
  first_empty zero h = first_none
  first_empty (suc n) h = first_next n (first_empty n (λ k l. h k (omega arith))) ∙ h n (omega arith)

  -- one is not empty: it stays
  first_stays : (n v : ℕ) → first_mark n marks ≡ v → (v ≡ 0 → ⊥) → first_mark (suc n) marks ≡ v
  unfolding first_mark
  first_stays n v h ne = rw (no= (λ e. ne (sym h ∙ e)), first_mark) h

  -- a mark that is not empty stays, so that none stands before an empty one
  mark_before : (n : ℕ) → first_mark (suc n) marks ≡ 0 → first_mark n marks ≡ 0
  mark_before n h = go (ℕ_discrete (first_mark n marks) 0)
    where
      go : Dec (first_mark n marks ≡ 0) → first_mark n marks ≡ 0
      go (yes e) = e
      go (no ne) = absurd (ne (sym (first_stays n _ refl ne) ∙ h))

  word_none : (words : ℕ → ℕ) → first_word 0 marks words ≡ 0
  unfolding first_word
  word_none words = refl

  -- all are empty
  pub word_empty : (words : ℕ → ℕ) (n : ℕ) → first_mark n marks ≡ 0 → first_word n marks words ≡ 0
  word_empty words zero h = word_none words
  word_empty words (suc n) h =
      let before = mark_before n h in
      word_over words n before (sym (first_next n before) ∙ h)

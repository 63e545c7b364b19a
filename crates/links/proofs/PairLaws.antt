-- Two rows side by side, the marks and the words, written at one place; a loop that fills rows; and words joined by or.
-- Assumes nothing.
use Prim.Native.Nat.{ℕ, ◌+◌, ◌<◌, ◌≤◌}
use mathlib.Core.List.{List}
use mathlib.Core.Path.{◌≡◌, sym, subst, ◌∙◌, ap}
use native.Mathlib.Omega.{arith}
use lib.Bits.{bit_or, or_add_and, and_le_l, and_le_r}
use lib.ListN.{length}
use Rattle.network.specs.Registers.{put, row_count, row_words, moving_words}
use Rattle.network.specs.Inner.Stages.{stage}
use Rattle.network.proofs.FillLaws.{Wrote, wrote_one, wrote_more, Staged, staged_is}

-- a mark, and the word in the row behind it
pub pair_wrote : (row k mark w : ℕ) (new : ℕ → ℕ) (s s₁ s₂ : List ℕ) → row + 1 < row_count → k < row_words → moving_words ≤ length s
    → mark ≡ new row → w ≡ new (row + 1) → s₁ ≡ put s row k mark → s₂ ≡ put s₁ (row + 1) k w → Wrote row (row + 1) k new s s₂
pair_wrote row k mark w new s s₁ s₂ rl kl long a b p q =
    let first = subst (Wrote row row k new s) (sym p) (wrote_one row k mark new s (omega arith) kl long a) in
    subst (Wrote row (row + 1) k new s) (sym q) (wrote_more row row k w new s s₁ (omega arith) rl kl long first b)

-- a loop that is over has filled the rows up to its count
pub filled : (low high n k : ℕ) (f : ℕ → ℕ → ℕ) (s now : List ℕ) → moving_words ≤ length s → Staged low high k f s now → k ≤ n → n ≤ k
    → now ≡ stage low high n f s
filled low high n k f s now long g a b =
    let e : k ≡ n = omega arith in
    staged_is low high k f s now long g ∙ ap (λ i. stage low high i f s) e

-- two words joined by or are 0: so is each
pub or_left : (a b : ℕ) → bit_or a b ≡ 0 → a ≡ 0
or_left a b e =
    let sum = or_add_and a b in
    let less = and_le_r a b in
    omega arith

pub or_right : (a b : ℕ) → bit_or a b ≡ 0 → b ≡ 0
or_right a b e =
    let sum = or_add_and a b in
    let less = and_le_l a b in
    omega arith

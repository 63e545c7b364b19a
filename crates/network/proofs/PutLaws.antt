-- What stands in the registers after one of them is set.
-- Assumes nothing.
use Prim.Native.Nat.{ℕ, ◌+◌, ◌*◌, ◌<◌}
use mathlib.Core.Path.{◌≡◌, ap}
use mathlib.Core.List.{List}
use native.Mathlib.Omega.{arith}
use lib.ListN.{length, take, drop, length-set}
use lib.Seq.{get_or-set_same, get_or-set_other, drop-set-lt}
use Rattle.words.specs.Words.{word}
use Rattle.network.specs.Registers.{reg, put, sheet_in, sheet_length, row_words, moving_words}

module _ (s : List ℕ) (row k w : ℕ) where
  pub put_same : row * row_words + k < length s → reg (put s row k w) row k ≡ w
  unfolding reg
  put_same l = get_or-set_same s (row * row_words + k) w 0 l

  pub put_other : (other j : ℕ) → (other * row_words + j ≡ row * row_words + k → ⊥) → reg (put s row k w) other j ≡ reg s other j
  unfolding reg
  put_other other j ne = get_or-set_other s (row * row_words + k) (other * row_words + j) w 0 ne

  pub put_length : length (put s row k w) ≡ length s
  put_length = length-set s (row * row_words + k) w

  -- what lies behind the rows, and so the sheet with its length
  module _ (l : row * row_words + k < moving_words) where
    pub put_rest : drop moving_words (put s row k w) ≡ drop moving_words s
    put_rest = drop-set-lt moving_words s (row * row_words + k) w l

    pub put_sheet : sheet_in (put s row k w) ≡ sheet_in s
    unfolding sheet_in
    put_sheet = ap (λ rest. take (word rest 0) (drop 1 rest)) put_rest

    pub put_sheet_length : sheet_length (put s row k w) ≡ sheet_length s
    unfolding sheet_length
    put_sheet_length = get_or-set_other s (row * row_words + k) moving_words w 0 (λ e. omega arith)

-- The line for an input, test by test.
-- Assumes nothing.
use Prim.Native.Nat.{ℕ, ◌+◌, ◌*◌, ◌<◌, ◌≤◌}
use mathlib.Core.Bool.{Bool}
use mathlib.Core.List.{List}
use mathlib.Core.Path.{◌≡◌, sym, ◌∙◌, ap}
use native.Mathlib.Omega.{arith}
use lib.ListN.{length, take, replicate}
use Rattle.words.specs.Tests.{◌<?◌}
use Rattle.words.specs.Words.{pick}
use Rattle.words.proofs.TestLaws.{yes<, no<}
use Rattle.words.proofs.WordLaws.{length_zeros}
use Rattle.sheet.specs.Sheet.{sheet_words}
use Rattle.sheet.specs.Rules.{check_number}
use Rattle.octets.specs.Octets.{word_in}
use Rattle.sheet_check.specs.Line.{TooLarge, InputEnds, sheet_of, verdict_line, line_of}

module _ (b : List ℕ) where
  pub no_length : length b < 4 → InputEnds ≡ line_of b
  unfolding line_of
  no_length h =
      sym (ap (λ (t : Bool). pick t InputEnds (pick (sheet_words <? word_in b 0) TooLarge (pick (length b <? 4 * (1 + word_in b 0)) InputEnds (verdict_line (check_number (sheet_of b)))))) (yes< h))

  module _ (h : 4 ≤ length b) (n : ℕ) (e : n ≡ word_in b 0) where
    has_length : pick (sheet_words <? word_in b 0) TooLarge (pick (length b <? 4 * (1 + word_in b 0)) InputEnds (verdict_line (check_number (sheet_of b)))) ≡ line_of b
    unfolding line_of
    has_length =
        sym (ap (λ (t : Bool). pick t InputEnds (pick (sheet_words <? word_in b 0) TooLarge (pick (length b <? 4 * (1 + word_in b 0)) InputEnds (verdict_line (check_number (sheet_of b)))))) (no< h))

    pub too_large : sheet_words < n → TooLarge ≡ line_of b
    too_large l =
        sym (ap (λ (t : Bool). pick t TooLarge (pick (length b <? 4 * (1 + word_in b 0)) InputEnds (verdict_line (check_number (sheet_of b))))) (yes< (omega (arith, e, l))))
        ∙ has_length

    module _ (l : n ≤ sheet_words) where
      small : pick (length b <? 4 * (1 + word_in b 0)) InputEnds (verdict_line (check_number (sheet_of b))) ≡ line_of b
      small =
          sym (ap (λ (t : Bool). pick t TooLarge (pick (length b <? 4 * (1 + word_in b 0)) InputEnds (verdict_line (check_number (sheet_of b))))) (no< (omega (arith, e, l))))
          ∙ has_length

      pub sheet_ends : length b < 4 * (1 + n) → InputEnds ≡ line_of b
      sheet_ends k = sym (ap (λ (t : Bool). pick t InputEnds (verdict_line (check_number (sheet_of b)))) (yes< (omega (arith, e, k)))) ∙ small

      pub whole : 4 * (1 + n) ≤ length b → verdict_line (check_number (sheet_of b)) ≡ line_of b
      whole k = sym (ap (λ (t : Bool). pick t InputEnds (verdict_line (check_number (sheet_of b)))) (no< (omega (arith, e, k)))) ∙ small

-- the part of the words that a sheet needs
pub part_ready : (n m : ℕ) (b : List ℕ) → n ≤ m → 4 * (1 + n) ≤ length b → n ≡ word_in b 0
    → (4 * (1 + length {A = ℕ} (take n (replicate m 0))) ≤ length b) × (length {A = ℕ} (take n (replicate m 0)) ≡ word_in b 0)
part_ready n m b h k e = (omega (arith, length_zeros n m h), length_zeros n m h ∙ e)

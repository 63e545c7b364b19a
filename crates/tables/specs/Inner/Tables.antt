-- What is worked out before a cycle writes anything: the slots that begin, the source wires, and the outputs of the crossbars.
use Rattle.std.specs.Prelude.{ℕ, ◌*◌, ◌/◌, ◌%◌, List, ◌≡◌}
use Rattle.words.specs.Tests.{◌<?◌}
use Rattle.words.specs.Words.{pick, tab}
use Rattle.sheet.specs.Sheet.{nodes}
use Rattle.network.specs.Registers.{sheet_in, row_words}
use Rattle.network.specs.Inner.Machine.{source_mark, source_word, next_out_mark, next_out_word}
use Rattle.sources.specs.Inner.Slots.{slot_table}

pub record Tables (s m slots source_marks source_words out_marks out_words : List ℕ) : Type 0 where
  pub slot : slots ≡ slot_table s
  pub source_mark_is : source_marks ≡ tab 16 (source_mark s)
  pub source_word_is : source_words ≡ tab 16 (source_word s m)
  pub out_mark_is : out_marks ≡ tab row_words (λ k. pick (k <? nodes (sheet_in s) * 5) (next_out_mark s (k / 5) (k % 5)) 0)
  pub out_word_is : out_words ≡ tab row_words (λ k. pick (k <? nodes (sheet_in s) * 5) (next_out_word s (k / 5) (k % 5)) 0)

-- the tables as they are lent: zeros
pub record Empty (slots source_marks source_words out_marks out_words : List ℕ) : Type 0 where
  pub slot : slots ≡ tab 64 (λ k. 0)
  pub source_mark_is : source_marks ≡ tab 16 (λ k. 0)
  pub source_word_is : source_words ≡ tab 16 (λ k. 0)
  pub out_mark_is : out_marks ≡ tab row_words (λ k. 0)
  pub out_word_is : out_words ≡ tab row_words (λ k. 0)

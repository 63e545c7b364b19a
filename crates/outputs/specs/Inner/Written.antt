-- What one node's part of the outputs writes. Nobody has to believe this: the contract of the whole stage says what the rows hold in the end.
use Rattle.std.specs.Prelude.{ℕ, ◌+◌, ◌≤◌, ◌<◌, List, ◌≡◌, length, drop}
use Rattle.words.specs.Words.{word}
use Rattle.network.specs.Registers.{reg, out_mark, out_word, row_count, row_words, moving_words}

-- the out registers of the five outputs from output k on have what the tables have there, and nothing else changed
pub record NodeOuts (k : ℕ) (marks cells s after : List ℕ) : Type 0 where
  pub same_length : length after ≡ length s
  pub same_rest : drop moving_words after ≡ drop moving_words s
  pub marked : (j : ℕ) → k ≤ j → j < k + 5 → reg after out_mark j ≡ word marks j
  pub worded : (j : ℕ) → k ≤ j → j < k + 5 → reg after out_word j ≡ word cells j
  pub elsewhere : (row j : ℕ) → row < row_count → j < row_words → (out_mark ≤ row → row ≤ out_word → k ≤ j → j < k + 5 → ⊥) → reg after row j ≡ reg s row j

-- Words in bytes, little-endian: four bytes a word, lowest first.
use Rattle.std.specs.Prelude.{ℕ, ◌+◌, ◌*◌, List}
use Rattle.words.specs.Words.{word}

-- word k of a list of bytes; a byte past the end reads as 0
unfoldable pub word_in : List ℕ → ℕ → ℕ
word_in bytes k = word bytes (4 * k) + 256 * word bytes (4 * k + 1) + 65536 * word bytes (4 * k + 2) + 16777216 * word bytes (4 * k + 3)

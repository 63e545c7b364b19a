-- Each turn stores the next word, so the slice is the table of the words.
use Rattle.std.proofs.Common.{◌≡◌, ℕ, ◌+◌, ◌<◌}
use Rattle.words.specs.Words.{word}
use Rattle.octets.specs.Octets.{word_in}
use Rattle.octets.proofs.read_words.Given as goal

abbrev pub invariant-loop-k : goal.invariant-loop-k
invariant-loop-k l = (j : ℕ) → j < l.k → word l.into j ≡ word_in l.bytes (l.first + j)

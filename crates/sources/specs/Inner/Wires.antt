-- The source wires as the circuits fill them one after another: what the circuits before c have put there.
use Rattle.std.specs.Prelude.{ℕ, Bool, List, set}
use Rattle.words.specs.Tests.{◌and◌, ◌≤?◌, ◌=?◌}
use Rattle.words.specs.Words.{word, pick, tab}
use Rattle.sheet.specs.Slots.{source_of}
use Rattle.network.specs.Registers.{sheet_in}
use Rattle.network.specs.Inner.Machine.{first_mark, first_word, own_mark, sent_mark, sent_word}

-- the marks and the words, node by node
unfoldable pub marks_before : List ℕ → ℕ → List ℕ
marks_before s c = tab 16 (λ n. first_mark c (own_mark s n))

unfoldable pub words_before : List ℕ → List ℕ → ℕ → List ℕ
words_before s m c = tab 16 (λ n. first_word c (own_mark s n) (sent_word s m))

-- a word put at a node where the wire is free, else nothing
unfoldable pub put_free : List ℕ → ℕ → ℕ → List ℕ → List ℕ
put_free marks node w list = pick (word marks node =? 0) (set list node w) list

-- circuit c puts a mark on a wire that a circuit before it has taken
unfoldable pub crowds_at : List ℕ → ℕ → Bool
crowds_at s c = 1 ≤? sent_mark s c and 1 ≤? first_mark c (own_mark s (source_of (sheet_in s) c))

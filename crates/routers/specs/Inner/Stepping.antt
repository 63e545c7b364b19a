-- What one input's header stage writes. Nobody has to believe this: the contract of the whole stage says what the rows hold in the end.
use Rattle.std.specs.Prelude.{ℕ, zero, suc, ◌+◌, ◌%◌, List}
use Rattle.network.specs.Registers.{reg, put, link_mark, link_word, head_mark, head_word, choice_row, latch_row}
use Rattle.network.specs.Inner.Machine.{next_head_word, next_choice, next_latch}

-- the header stage of input k: its mark, its word, its choice, and its latch
unfoldable pub head_stepped : List ℕ → ℕ → List ℕ
head_stepped s k =
    put
    (put
    (put
    (put s head_mark k (reg s link_mark k))
    head_word k (next_head_word (reg s link_mark k) (reg s link_word k)))
    choice_row k (next_choice (k % 5) (reg s latch_row k) (reg s link_mark k) (reg s link_word k)))
    latch_row k (next_latch (k % 5) (reg s latch_row k) (reg s link_mark k) (reg s link_word k))

-- those of so many inputs from input k on, one after the other
unfoldable pub heads_stepped : ℕ → List ℕ → ℕ → List ℕ
heads_stepped zero s k = s
heads_stepped (suc n) s k = head_stepped (heads_stepped n s k) (k + n)

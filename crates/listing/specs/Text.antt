-- The texts that the programs print, as bytes in ASCII (document 01, "The key's examples"): a word in decimal, a landing's line, and the
-- messages.
use Rattle.std.specs.Prelude.{ℕ, zero, suc, ◌+◌, ◌/◌, ◌%◌, ◌^◌, List, [], ◌∷◌, ◌++◌}
use Rattle.words.specs.Tests.{◌<?◌}
use Rattle.words.specs.Words.{least_from}

abbrev pub space : ℕ
space = 32

abbrev pub line_end : ℕ
line_end = 10

-- the fewest digits that a word takes in decimal, of which it takes 1 to 10
unfoldable pub digit_count : ℕ → ℕ
digit_count n = least_from 10 1 (λ k. n <? 10 ^ k)

-- the last so many digits of a word in decimal, the most significant first
unfoldable pub last_digits : ℕ → ℕ → List ℕ
last_digits zero n = []
last_digits (suc k) n = last_digits k (n / 10) ++ ((48 + n % 10) ∷ [])

-- a word in decimal, with what ends it
unfoldable pub field : ℕ → ℕ → List ℕ
field n end = last_digits (digit_count n) n ++ (end ∷ [])

-- a landing's line
unfoldable pub landing_line : ℕ → ℕ → ℕ → ℕ → ℕ → List ℕ
landing_line cycle node address payload kind =
    field cycle space ++ (field node space ++ (field address space ++ (field payload space ++ field kind line_end)))

-- `too large`, and a line end
unfoldable pub too_large : List ℕ
too_large = 116 ∷ 111 ∷ 111 ∷ 32 ∷ 108 ∷ 97 ∷ 114 ∷ 103 ∷ 101 ∷ 10 ∷ []

-- `input ends`, and a line end
unfoldable pub input_ends : List ℕ
input_ends = 105 ∷ 110 ∷ 112 ∷ 117 ∷ 116 ∷ 32 ∷ 101 ∷ 110 ∷ 100 ∷ 115 ∷ 10 ∷ []

-- `refused` and a space; the number follows
unfoldable pub refused : List ℕ
refused = 114 ∷ 101 ∷ 102 ∷ 117 ∷ 115 ∷ 101 ∷ 100 ∷ 32 ∷ []

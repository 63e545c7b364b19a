-- All that `landings` prints, as a function of its input: one of three messages, or a heading and every line of the listing
-- (document 01, "The key's examples"). Texts are bytes in ASCII.
use Rattle.std.specs.Prelude.{ℕ, ◌+◌, ◌*◌, ◌<◌, ◌≤◌, ◌⊎◌, List, [], ◌∷◌, ◌++◌, ◌≡◌, length, take, drop}
use Rattle.std.specs.declared.option.Option.{Option}
use Rattle.std.specs.Io.KnownBytes.{Keeps, Consumes, IsAtEnd, Appends}
use Rattle.streams.specs.Written.{GotPart}
use Rattle.sheet.specs.Sheet.{meant, nodes, sheet_words}
use Rattle.session.specs.Calls.{Lent, lend}
use Rattle.listing.specs.Text.{too_large, input_ends}
use Rattle.landings.specs.Input.{most_memory, most_transfers, sheet_of, memory_of, cycles_asked}
use Rattle.landings.specs.Messages.{Message, TooLarge, InputEnds, Refused, Runs, calls, message}
use Rattle.landings.specs.Lines.{cycles_lines, carried_out, refused_line, last_line}

-- `cycle node address word kind`, and a line end
unfoldable pub heading : List ℕ
heading =
    99 ∷ 121 ∷ 99 ∷ 108 ∷ 101 ∷ 32 ∷ 110 ∷ 111 ∷ 100 ∷ 101 ∷ 32 ∷ 97 ∷ 100 ∷ 100 ∷ 114 ∷ 101 ∷ 115 ∷ 115 ∷ 32 ∷ 119 ∷ 111 ∷ 114 ∷ 100 ∷ 32
    ∷ 107 ∷ 105 ∷ 110 ∷ 100 ∷ 10 ∷ []

-- the lent words before the first cycle: after the load and the starts
unfoldable pub before_cycles : List ℕ → Lent
before_cycles bytes = lend (calls bytes).state (memory_of bytes)

-- the lines of the cycles that are carried out, which are all of them (proofs/SessionLaws, `all_carried_out`), and that of a refusal
unfoldable pub all_lines : List ℕ → List ℕ
all_lines bytes =
    cycles_lines (nodes (meant (sheet_of bytes))) 0 (carried_out (cycles_asked bytes) (before_cycles bytes)) (before_cycles bytes)
    ++ last_line (cycles_asked bytes) (before_cycles bytes)

-- what is printed for a message; where the input runs, the heading and its lines
abbrev pub printed : Message → List ℕ → List ℕ
printed TooLarge lines = too_large
printed InputEnds lines = input_ends
printed (Refused n) lines = refused_line n
printed Runs lines = heading ++ lines

-- every byte that an input gets
unfoldable pub printout : List ℕ → List ℕ
printout bytes = printed (message bytes) (all_lines bytes)

-- a text has a part at a place
abbrev pub HasAt : List ℕ → ℕ → List ℕ → Type 0
HasAt text place part = (place + length part ≤ length text) × (take (length part) (drop place text) ≡ part)

-- so many bytes were read, and all that there are where they are fewer than a longest input has; their output was written
abbrev pub Answered : Option (List ℕ) → Option (List ℕ) → Option (List ℕ) → Option (List ℕ) → Type 0
Answered input rest output after =
    (bytes : List ℕ)
    × Consumes input rest bytes
    × (length bytes < 4 * (3 + (sheet_words + most_memory + 5 * most_transfers)) → IsAtEnd rest)
    × Appends output after (printout bytes)

-- reading or writing failed: so many bytes were read, and the writer got a first part of their output, and none of it unless all bytes were
-- read that there are, where they are fewer than a longest input has
abbrev pub BrokenOff : Option (List ℕ) → Option (List ℕ) → Option (List ℕ) → Option (List ℕ) → Type 0
BrokenOff input rest output after =
    (bytes : List ℕ)
    × Consumes input rest bytes
    × GotPart output after (printout bytes)
    × (Keeps output after ⊎ (length bytes < 4 * (3 + (sheet_words + most_memory + 5 * most_transfers)) → IsAtEnd rest))

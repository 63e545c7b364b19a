-- The line that sheet_check prints for its input (document 01, "The key's examples", gives the messages): a word with the sheet's
-- length, then the sheet; what follows is ignored.
use Rattle.std.specs.Prelude.{ℕ, zero, suc, ◌+◌, ◌*◌, ◌<◌, ◌⊎◌, List, [], ◌∷◌, ◌++◌, length, Result, Ok, Err}
use Rattle.std.specs.declared.option.Option.{Option}
use Rattle.std.specs.Io.KnownBytes.{Keeps, Consumes, IsAtEnd, Appends}
use Rattle.streams.specs.Written.{GotPart}
use Rattle.words.specs.Tests.{◌<?◌}
use Rattle.words.specs.Words.{pick, tab}
use Rattle.sheet.specs.Sheet.{sheet_words}
use Rattle.sheet.specs.Rules.{check_number}
use Rattle.octets.specs.Octets.{word_in}
use Rattle.listing.specs.Text.{line_end, field, too_large, input_ends, refused}
use Rattle.refusal.specs.Numbers.{refusal_number}
use Rattle.listing.specs.declared.complaint.Complaint.{Complaint}
use Rattle.listing.specs.declared.complaint.Complaint.TheVariants.{TooLarge as TooLargeComplaint, InputEnds as InputEndsComplaint, Refused as RefusedComplaint}

-- the line to print
pub data Line : Type 0 where
  Passes : Line
  Refused : ℕ → Line
  TooLarge : Line
  InputEnds : Line

-- the line that a judgement stands for
abbrev pub line : {A : Type 0} → Result A Complaint → Line
line (Ok x) = Passes
line (Err TooLargeComplaint) = TooLarge
line (Err InputEndsComplaint) = InputEnds
line (Err (RefusedComplaint e)) = Refused (refusal_number e)

-- the sheet that follows its length
abbrev pub sheet_of : List ℕ → List ℕ
sheet_of bytes = tab (word_in bytes 0) (λ k. word_in bytes (1 + k))

abbrev pub verdict_line : ℕ → Line
verdict_line zero = Passes
verdict_line (suc n) = Refused (suc n)

unfoldable pub line_of : List ℕ → Line
line_of bytes =
    pick (length bytes <? 4) InputEnds
    (pick (sheet_words <? word_in bytes 0) TooLarge
    (pick (length bytes <? 4 * (1 + word_in bytes 0)) InputEnds (verdict_line (check_number (sheet_of bytes)))))

-- `passes`, and a line end
unfoldable pub passes : List ℕ
passes = 112 ∷ 97 ∷ 115 ∷ 115 ∷ 101 ∷ 115 ∷ 10 ∷ []

-- the bytes of a line, all that is printed
abbrev pub text_of : Line → List ℕ
text_of Passes = passes
text_of (Refused n) = refused ++ field n line_end
text_of TooLarge = too_large
text_of InputEnds = input_ends

-- so many bytes were read, and all that there are where they are fewer than a longest sheet needs; the text of their line was written
abbrev pub Answered : Option (List ℕ) → Option (List ℕ) → Option (List ℕ) → Option (List ℕ) → Type 0
Answered input rest output after =
    (bytes : List ℕ)
    × Consumes input rest bytes
    × (length bytes < 4 * (1 + sheet_words) → IsAtEnd rest)
    × Appends output after (text_of (line_of bytes))

-- reading or writing failed: so many bytes were read, and the writer got a first part of the text of their line, and none of it unless all
-- bytes were read that there are, where they are fewer than a longest sheet needs
abbrev pub BrokenOff : Option (List ℕ) → Option (List ℕ) → Option (List ℕ) → Option (List ℕ) → Type 0
BrokenOff input rest output after =
    (bytes : List ℕ)
    × Consumes input rest bytes
    × GotPart output after (text_of (line_of bytes))
    × (Keeps output after ⊎ (length bytes < 4 * (1 + sheet_words) → IsAtEnd rest))

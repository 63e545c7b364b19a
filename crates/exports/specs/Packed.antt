-- The answers of the exported calls, as numbers: a call without a value answers the number of document 01, 0 where it is carried out; a
-- call with a value answers number × 2^32 + value in 64 bits, where one of the two is 0.
use Rattle.std.specs.Prelude.{ℕ, ◌+◌, ◌*◌, List, [], ◌∷◌, length, Result, Option}
use Rattle.std.specs.declared.option.Option.TheVariants.{None, Some}
use Rattle.std.specs.declared.result.Result.TheVariants.{Ok, Err}
use Rattle.words.specs.Tests.{◌=?◌}
use Rattle.words.specs.Words.{pick}
use Rattle.sheet.specs.Sheet.{schedule_place}
use Rattle.checker.specs.Answers.{entries_part}
use Rattle.session.specs.declared.Landed.{Landed}
use Rattle.timetable.specs.declared.Hours.{Hours}
use Rattle.timetable.specs.declared.Hours.TheVariants.{Until, Always}

unfoldable pub packed : ℕ → ℕ → ℕ
packed number value = pick (number =? 0) value (number * 4294967296)

-- the place among handed-over words of the first of schedule j's entries, behind its period and number of entries; 0 where there are no words
unfoldable pub entries_place : List ℕ → ℕ → ℕ
entries_place [] j = 0
entries_place (w ∷ z) j = schedule_place (w ∷ z) j + 2

-- a field of the entries that are handed back of schedule j: 0 that place; 1 how many words they are; 0 for any other
unfoldable pub entries_field : List ℕ → ℕ → ℕ → ℕ
entries_field z j field = pick (field =? 0) (entries_place z j) (pick (field =? 1) (length (entries_part z j)) 0)

-- a field of a landing: 0 whether there is one, 1 its kind, 2 its address, 3 its word; 0 for any other, and where nothing landed
unfoldable pub chosen : ℕ → ℕ → ℕ → ℕ → ℕ
chosen field kind address word =
    pick (field =? 0) 1 (pick (field =? 1) kind (pick (field =? 2) address (pick (field =? 3) word 0)))

-- the numbers of the session's answers that have a value
abbrev pub packed_found : Result ℕ ℕ → ℕ
packed_found (Ok w) = w
packed_found (Err n) = n * 4294967296

abbrev pub packed_landed : ℕ → Result (Option Landed) ℕ → ℕ
packed_landed field (Ok None) = 0
packed_landed field (Ok (Some x)) = chosen field x.kind x.address x.word
packed_landed field (Err n) = n * 4294967296

-- a field of the hours of a minute: 0 the schedule, 1 whether it ever changes, 2 the next minute at which it differs; 0 for any other
unfoldable pub hours_field : ℕ → ℕ → ℕ → ℕ → ℕ
hours_field field schedule changes minute = pick (field =? 0) schedule (pick (field =? 1) changes (pick (field =? 2) minute 0))

-- the number of a timetable's answer; where the schedule never changes, the next minute is 0
abbrev pub packed_hours : ℕ → Result Hours ℕ → ℕ
packed_hours field (Ok (Until schedule minute)) = hours_field field schedule 1 minute
packed_hours field (Ok (Always schedule)) = hours_field field schedule 0 0
packed_hours field (Err n) = n * 4294967296

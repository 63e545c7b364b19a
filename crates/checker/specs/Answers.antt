-- What the checker hands back of a sheet, and the numbers that apply then (document 01, "Refusals").
use Rattle.std.specs.Prelude.{ℕ, List, []}
use Rattle.words.specs.Tests.{◌<?◌, ◌=?◌}
use Rattle.words.specs.Words.{pick}
use Rattle.words.specs.Numbers.{unless, ◌then◌}
use Rattle.sheet.specs.Sheet.{meant, schedules, entries_of}
use Rattle.sheet.specs.Rules.{sheet_number}

-- handing back the entries of schedule j: 1 to 11, then 15 where the schedule does not exist
unfoldable pub entries_number : List ℕ → ℕ → ℕ
entries_number z j = sheet_number z then unless 15 (j <? schedules (meant z))

-- the part that is handed back: the entries where the number is 0, else nothing
unfoldable pub entries_part : List ℕ → ℕ → List ℕ
entries_part z j = pick (entries_number z j =? 0) (entries_of (meant z) j) []

-- The place behind a schedule, as an answer.
use Rattle.std.specs.Prelude.{ℕ, ◌+◌, Option, List, length}
use Rattle.words.specs.Tests.{◌and◌, ◌≤?◌}
use Rattle.words.specs.Words.{pick}
use Rattle.std.specs.declared.option.Option.TheVariants.{Some, None}
use Rattle.sheet.specs.Sheet.{stated_entries, next_place}

-- behind the schedule at a place, where that begins within the sheet and states few enough entries (number 3)
unfoldable pub place_after : List ℕ → ℕ → Option ℕ
place_after z place = pick (place + 2 ≤? length z and stated_entries z place ≤? 256) (Some (next_place z place)) None

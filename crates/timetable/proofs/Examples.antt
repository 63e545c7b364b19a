-- Answers of small timetables, by computation upon the definitions.
-- Assumes nothing.
use mathlib.Core.List.{[], ◌∷◌}
use mathlib.Core.Path.{◌≡◌, refl}
use Rattle.std.specs.Prelude.{Ok, Err}
use Rattle.words.specs.Tests.{◌≤?◌, ◌<?◌, ◌=?◌, ◌≠?◌, ◌and◌, all}
use Rattle.words.specs.Words.{last_of, least_from}
use Rattle.words.specs.Numbers.{unless, ◌then◌}
use Rattle.timetable.specs.declared.Hours.TheVariants.{Until, Always}
use Rattle.timetable.specs.Timetable.{windows, start_at, length_at, schedule_at, end_at, window_fits, in_order, timetable_fits}
use Rattle.timetable.specs.Timetable.{covers, schedule_of, schedule_in, changes_in, next_change, hours_number, hours_answer}

-- an edge between two equal schedules is no change: of adjoining windows, of a window of schedule 0 and no window, at minute 0; the whole
-- week; a window up to 10,079; next minute 0; a change at the minute before, which is 10,079 minutes on
pub answered :
    (hours_answer (3 ∷ 4 ∷ 5 ∷ 7 ∷ 2 ∷ 5 ∷ 9 ∷ 1 ∷ 2 ∷ []) 3 ≡ Ok (Until 5 9))
    × (hours_answer (8 ∷ 4 ∷ 0 ∷ 20 ∷ 5 ∷ 6 ∷ []) 8 ≡ Ok (Until 0 20))
    × (hours_answer (0 ∷ 2 ∷ 1 ∷ 10079 ∷ 1 ∷ 1 ∷ []) 10079 ≡ Ok (Until 1 2))
    × (hours_answer (0 ∷ 10080 ∷ 7 ∷ []) 600 ≡ Ok (Always 7))
    × (hours_answer [] 600 ≡ Ok (Always 0))
    × (hours_answer (10000 ∷ 79 ∷ 3 ∷ []) 10078 ≡ Ok (Until 3 10079))
    × (hours_answer (1 ∷ 1 ∷ 4 ∷ 10079 ∷ 1 ∷ 3 ∷ []) 10079 ≡ Ok (Until 3 0))
    × (hours_answer (0 ∷ 1 ∷ 1 ∷ []) 1 ≡ Ok (Until 0 0))
unfolding hours_number next_change changes_in schedule_in schedule_of covers timetable_fits in_order window_fits end_at schedule_at length_at start_at windows unless ◌then◌ least_from last_of all ◌and◌ ◌≤?◌ ◌<?◌ ◌=?◌ ◌≠?◌
answered = (refl, refl, refl, refl, refl, refl, refl, refl)

-- 31 comes before 32, whatever a sum of 32 bits would wrap to; an end of 10,080 is allowed
pub refused :
    (hours_answer (1 ∷ 4294967295 ∷ 3 ∷ []) 10080 ≡ Err 31)
    × (hours_answer (5 ∷ 1 ∷ 3 ∷ 5 ∷ 2 ∷ 3 ∷ []) 0 ≡ Err 31)
    × (hours_answer (10079 ∷ 2 ∷ 3 ∷ []) 0 ≡ Err 31)
    × (hours_answer (10079 ∷ 1 ∷ 3 ∷ []) 10080 ≡ Err 32)
unfolding hours_number next_change changes_in schedule_in schedule_of covers timetable_fits in_order window_fits end_at schedule_at length_at start_at windows unless ◌then◌ least_from last_of all ◌and◌ ◌≤?◌ ◌<?◌ ◌=?◌ ◌≠?◌
refused = (refl, refl, refl, refl)

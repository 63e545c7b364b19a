-- The edges of a timetable, by which the code walks through a week: between two of them the schedule stays (proofs/EdgeLaws,
-- `same_between`).
use Rattle.std.specs.Prelude.{ℕ, ◌+◌, ◌-◌, ◌≤◌, ◌<◌, Bool, List, Some, None}
use Rattle.std.specs.declared.option.Option.{Option}
use Rattle.words.specs.Tests.{◌<?◌, ◌=?◌, ◌≠?◌, ◌or◌, any}
use Rattle.words.specs.Words.{pick, least_from}
use Rattle.timetable.specs.Timetable.{week, windows, start_at, end_at, schedule_in}

-- some window starts or ends at a minute
unfoldable pub is_edge : List ℕ → ℕ → Bool
is_edge t minute = any (windows t) (λ k. start_at t k =? minute or end_at t k =? minute)

-- the least edge behind a minute of the week; the week's end is one
unfoldable pub next_edge : List ℕ → ℕ → ℕ
next_edge t minute = least_from (week - 1 - minute) (minute + 1) (is_edge t)

-- all windows before window k have ended by a minute
abbrev pub EndedBefore : List ℕ → ℕ → ℕ → Type 0
EndedBefore t minute k = (k ≤ windows t) × ((j : ℕ) → j < k → end_at t j ≤ minute)

-- and window k, where there is one, has not
abbrev pub FirstBehind : List ℕ → ℕ → ℕ → Type 0
FirstBehind t minute k = EndedBefore t minute k × (k < windows t → minute < end_at t k)

-- the least minute from one on, before another, whose schedule is not the one given; that other where there is none
unfoldable pub first_change : List ℕ → ℕ → ℕ → ℕ → ℕ
first_change t from to schedule = least_from (to - from) from (λ minute. schedule_in t minute ≠? schedule)

-- that minute, where there is one
unfoldable pub change_in : List ℕ → ℕ → ℕ → ℕ → Option ℕ
change_in t from to schedule = pick (first_change t from to schedule <? to) (Some (first_change t from to schedule)) None

-- The windows that the code has judged.
use Rattle.std.specs.Prelude.{ℕ, ◌+◌, ◌-◌, Bool, List}
use Rattle.words.specs.Tests.{◌≤?◌, ◌<?◌, ◌and◌, all}
use Rattle.timetable.specs.declared.windows.Window.{Window}
use Rattle.timetable.specs.Timetable.{week, window_fits, in_order}

-- a window lies in the week, has a minute and names a schedule
unfoldable pub fits : Window → Bool
fits w = w.start <? week and 1 ≤? w.minutes and w.start + w.minutes ≤? week and w.schedule ≤? 7

-- the first windows, so many, all fit and are in order
abbrev pub first_windows_fit : List ℕ → ℕ → Bool
first_windows_fit t count = all count (window_fits t) and all (count - 1) (in_order t)

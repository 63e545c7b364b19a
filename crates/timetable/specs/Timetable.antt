-- The weekly timetable (document 02, L13): up to 64 windows of three words each, starting minute of the week, length in minutes and
-- schedule, sorted by start. A timetable without windows has no words.
use Rattle.std.specs.Prelude.{ℕ, zero, suc, ◌+◌, ◌-◌, ◌*◌, ◌/◌, ◌%◌, ◌≤◌, ◌<◌, Bool, true, List, ◌≡◌, length, Result, Ok, Err}
use Rattle.words.specs.Tests.{◌≤?◌, ◌<?◌, ◌=?◌, ◌≠?◌, ◌and◌, all}
use Rattle.words.specs.Words.{word, pick, last_of, least_from}
use Rattle.words.specs.Numbers.{unless, ◌then◌}
use Rattle.timetable.specs.declared.Hours.{Hours}
use Rattle.timetable.specs.declared.Hours.TheVariants.{Until, Always}

-- the minutes of a week: 0 to 10,079
abbrev pub week : ℕ
week = 10080

-- how many windows the words make
unfoldable pub windows : List ℕ → ℕ
windows t = length t / 3

-- the words of window k
unfoldable pub start_at : List ℕ → ℕ → ℕ
start_at t k = word t (3 * k)

unfoldable pub length_at : List ℕ → ℕ → ℕ
length_at t k = word t (3 * k + 1)

unfoldable pub schedule_at : List ℕ → ℕ → ℕ
schedule_at t k = word t (3 * k + 2)

-- the first minute behind window k: a sum of natural numbers, which never wraps
unfoldable pub end_at : List ℕ → ℕ → ℕ
end_at t k = start_at t k + length_at t k

-- window k lies in the week, has a minute and names a schedule
unfoldable pub window_fits : List ℕ → ℕ → Bool
window_fits t k = start_at t k <? week and 1 ≤? length_at t k and end_at t k ≤? week and schedule_at t k ≤? 7

-- window k ends no later than the next one starts
unfoldable pub in_order : List ℕ → ℕ → Bool
in_order t k = end_at t k ≤? start_at t (k + 1)

-- a timetable: whole windows, not too many, all fit, and each but the last ends in time for the next
unfoldable pub timetable_fits : List ℕ → Bool
timetable_fits t = length t % 3 =? 0 and windows t ≤? 64 and all (windows t) (window_fits t) and all (windows t - 1) (in_order t)

-- the start belongs to window k, the end does not
unfoldable pub covers : List ℕ → ℕ → ℕ → Bool
covers t k minute = start_at t k ≤? minute and minute <? end_at t k

-- the schedule of a window counted from 1, and 0 for no window
unfoldable pub schedule_of : List ℕ → ℕ → ℕ
schedule_of t zero = 0
schedule_of t (suc k) = schedule_at t k

-- the schedule of a minute: of the window that covers it, 0 where none does
unfoldable pub schedule_in : List ℕ → ℕ → ℕ
schedule_in t minute = schedule_of t (last_of (windows t) (λ k. covers t k minute))

-- in how many minutes the schedule differs, going on into the next week; a whole week where it never does
unfoldable pub changes_in : List ℕ → ℕ → ℕ
changes_in t minute = least_from (week - 1) 1 (λ d. schedule_in t ((minute + d) % week) ≠? schedule_in t minute)

-- the next change: never, or at a minute of the week
pub data Change : Type 0 where
  never : Change
  next_at : ℕ → Change

unfoldable pub next_change : List ℕ → ℕ → Change
next_change t minute = pick (changes_in t minute =? week) never (next_at ((minute + changes_in t minute) % week))

-- 31: no timetable; 32: no minute of the week
unfoldable pub hours_number : List ℕ → ℕ → ℕ
hours_number t minute = unless 31 (timetable_fits t) then unless 32 (minute <? week)

-- the answer, one to one with the number and, where that is 0, the schedule and the change
abbrev pub hours_of : ℕ → ℕ → Change → Result Hours ℕ
hours_of zero schedule never = Ok (Always schedule)
hours_of zero schedule (next_at minute) = Ok (Until schedule minute)
hours_of (suc n) schedule change = Err (suc n)

abbrev pub hours_answer : List ℕ → ℕ → Result Hours ℕ
hours_answer t minute = hours_of (hours_number t minute) (schedule_in t minute) (next_change t minute)

-- the claim that two windows that cover one minute are one (proofs/TimetableLaws, `one_covers`)
abbrev pub OneCovers : Type 0
OneCovers =
    (t : List ℕ) (j k minute : ℕ) → timetable_fits t ≡ true → j < windows t → k < windows t
    → covers t j minute ≡ true → covers t k minute ≡ true → j ≡ k

-- so many minutes on the schedule differs for the first time, at the minute `next` of the week
pub record ChangesAt (t : List ℕ) (minute schedule next ahead : ℕ) : Type 0 where
  pub later : 1 ≤ ahead
  pub within : ahead < week
  pub there : next ≡ (minute + ahead) % week
  pub stays : (d : ℕ) → d < ahead → schedule_in t ((minute + d) % week) ≡ schedule
  pub differs : schedule_in t next ≡ schedule → ⊥

-- the claim that an answered minute is right: up to it the schedule is the one given, and there it differs
-- (proofs/HoursLaws, `change_right`)
abbrev pub ChangeRight : Type 0
ChangeRight =
    (t : List ℕ) (minute schedule next : ℕ) → hours_answer t minute ≡ Ok (Until schedule next)
    → ChangesAt t minute schedule next (changes_in t minute)

-- and that a schedule that is answered for always is that of all 10,080 minutes (proofs/HoursLaws, `never_changes`)
abbrev pub NeverChanges : Type 0
NeverChanges =
    (t : List ℕ) (minute schedule : ℕ) → hours_answer t minute ≡ Ok (Always schedule)
    → (m : ℕ) → m < week → schedule_in t m ≡ schedule

-- The answers: the walks through this week and the next together give the change that is asked for, and what the answers say is right.
-- Assumes nothing.
use Prim.Native.Nat.{ℕ, zero, suc, ◌+◌, ◌-◌, ◌%◌, ◌≤◌, ◌<◌}
use mathlib.Core.Bool.{Bool, true, false, false≢true}
use mathlib.Core.List.{List}
use mathlib.Core.Path.{◌≡◌, refl, sym, ◌∙◌, ap}
use native.Mathlib.Omega.{arith}
use native.Mathlib.Decide.{dec_lt}
use Rattle.std.specs.Prelude.{Ok, Err, Some, None}
use Rattle.words.specs.Tests.{◌<?◌, ◌=?◌, ◌≠?◌}
use Rattle.words.specs.Words.{pick, least_from}
use Rattle.words.specs.Numbers.{unless}
use Rattle.words.proofs.TestLaws.{yes<, no<, yes=, no=, yes≠, no≠, is=, is≠, is<, not≠}
use Rattle.words.proofs.NumberLaws.{then_zero, then_on, then_stop, unless_zero, unless_yes, unless_no}
use Rattle.words.proofs.WordLaws.{least_from_is, least_from_none, least_from_most, least_from_low, least_from_passes, least_from_before}
use Rattle.timetable.specs.declared.Hours.TheVariants.{Until, Always}
use Rattle.timetable.specs.Timetable.{week, timetable_fits, schedule_in, changes_in, Change, never, next_at, next_change, hours_number, hours_of, hours_answer, ChangeRight, NeverChanges}
use Rattle.timetable.specs.Inner.Edges.{first_change, change_in}
use Rattle.timetable.proofs.WalkLaws.{first_before, first_there, first_low, change_there, change_absent}

-- a minute of the week, and the walks from it to the week's end and from the week's begin to it
module _ (t : List ℕ) (minute : ℕ) (inside : minute < week) where
  -- so many minutes on: in this week, or in the next
  around : (to r : ℕ) → week ≡ first_change t minute week (schedule_in t minute) → r ≡ first_change t 0 to (schedule_in t minute)
      → r ≤ week → (d : ℕ) → minute + d < week + r → schedule_in t ((minute + d) % week) ≡ schedule_in t minute
  around to r this next low d l = go (dec_lt (minute + d) week)
    where
      go : Dec (minute + d < week) → schedule_in t ((minute + d) % week) ≡ schedule_in t minute
      go (yes b) = first_before t minute week _ week this ((minute + d) % week) (omega arith) (omega arith)
      go (no g) = first_before t 0 to _ r next ((minute + d) % week) (omega arith) (omega (arith, g))

  -- the change, from how far ahead it is
  change_ahead : (d r : ℕ) → 1 ≤ d → d < week → r ≡ (minute + d) % week → (schedule_in t r ≡ schedule_in t minute → ⊥)
      → ((j : ℕ) → j < d → schedule_in t ((minute + j) % week) ≡ schedule_in t minute)
      → next_at r ≡ next_change t minute
  unfolding next_change changes_in
  change_ahead d r low high there differs stays =
      rw (found, no= {a = d} {b = week} (λ e. omega arith)) (ap next_at there)
    where
      found : least_from (week - 1) 1 (λ d. schedule_in t ((minute + d) % week) ≠? schedule_in t minute) ≡ d
      found =
          least_from_is _ (week - 1) 1 d low (omega arith) (yes≠ (λ e. differs (ap (schedule_in t) there ∙ e)))
          (λ j a b. no≠ (stays j b))

  pub this_week : (r : ℕ) → r ≡ first_change t minute week (schedule_in t minute) → r < week → next_at r ≡ next_change t minute
  this_week r found l =
      let low = first_low t minute week _ r found in
      let differs = first_there t minute week _ r found (omega arith) l in
      let later : minute ≡ r → ⊥ = λ e. differs (ap (schedule_in t) (sym e)) in
      change_ahead (r - minute) r (omega (arith, later)) (omega arith) (omega arith) differs
      (λ j b. first_before t minute week _ r found ((minute + j) % week) (omega arith) (omega arith))

  pub next_week : (r : ℕ) → week ≡ first_change t minute week (schedule_in t minute) → r ≡ first_change t 0 minute (schedule_in t minute)
      → r < minute → next_at r ≡ next_change t minute
  next_week r this found l =
      change_ahead (week - minute + r) r (omega arith) (omega arith) (omega arith) (first_there t 0 minute _ r found (omega arith) l)
      (λ j b. around minute r this found (omega arith) j (omega arith))

  pub no_change : week ≡ first_change t minute week (schedule_in t minute) → minute ≡ first_change t 0 minute (schedule_in t minute)
      → never ≡ next_change t minute
  unfolding next_change changes_in
  no_change this next = rw (none, yes= {a = week} {b = week} refl) refl
    where
      none : least_from (week - 1) 1 (λ d. schedule_in t ((minute + d) % week) ≠? schedule_in t minute) ≡ week
      none = least_from_none _ (week - 1) 1 (λ j a b. no≠ (around minute minute this next (omega arith) j (omega arith)))

-- the answers, from the number, the schedule and the change
module _ (t : List ℕ) (minute : ℕ) where
  pub hours_fits : hours_number t minute ≡ 0 → timetable_fits t ≡ true
  unfolding hours_number
  hours_fits e = unless_zero 31 (timetable_fits t) (omega arith) (then_zero (unless 31 (timetable_fits t)) (unless 32 (minute <? week)) e).0

  pub hours_inside : hours_number t minute ≡ 0 → minute < week
  unfolding hours_number
  hours_inside e =
      is< minute week
      (unless_zero 32 (minute <? week) (omega arith) (then_zero (unless 31 (timetable_fits t)) (unless 32 (minute <? week)) e).1)

  pub refused_is : (n : ℕ) → n ≡ hours_number t minute → (n ≡ 0 → ⊥) → Err n ≡ hours_answer t minute
  refused_is zero e ne = absurd (ne refl)
  refused_is (suc n) e ne = ap (λ (k : ℕ). hours_of k (schedule_in t minute) (next_change t minute)) e

  -- the numbers, by what the code tests
  pub unfit : timetable_fits t ≡ false → Err 31 ≡ hours_answer t minute
  unfolding hours_number
  unfit e = refused_is 31 (then_stop 31 _ (omega arith) e) (λ z. omega arith)

  pub outside : timetable_fits t ≡ true → week ≤ minute → Err 32 ≡ hours_answer t minute
  unfolding hours_number
  outside e l = refused_is 32 (then_on 31 e (unless_no 32 (no< l))) (λ z. omega arith)

  number_none : timetable_fits t ≡ true → minute < week → 0 ≡ hours_number t minute
  unfolding hours_number
  number_none e l = then_on 31 e (unless_yes 32 (yes< l))

-- the answer of a minute that is no refusal, by the walks of the code
module _ (t : List ℕ) (minute schedule : ℕ) (fits : timetable_fits t ≡ true) (inside : minute < week) (known : schedule ≡ schedule_in t minute) where
  answer_is : {change : Change} → change ≡ next_change t minute → hours_of 0 schedule change ≡ hours_answer t minute
  answer_is {change} e =
      ap (λ n. hours_of n schedule change) (number_none t minute fits inside)
      ∙ ap (λ s. hours_of (hours_number t minute) s change) known
      ∙ ap (hours_of (hours_number t minute) (schedule_in t minute)) e

  -- a walk for the schedule that was read
  for_minute : (from to : ℕ) {r : ℕ} → r ≡ first_change t from to schedule → r ≡ first_change t from to (schedule_in t minute)
  for_minute from to found = found ∙ ap (first_change t from to) known

  pub this_week_is : (this : ℕ) → change_in t minute week schedule ≡ Some this → Ok (Until schedule this) ≡ hours_answer t minute
  this_week_is this found =
      let there = change_there t minute week schedule this found in
      answer_is (this_week t minute inside this (for_minute minute week there.0) there.1)

  module _ (none : change_in t minute week schedule ≡ None) where
    none_left : week ≡ first_change t minute week (schedule_in t minute)
    none_left = for_minute minute week (change_absent t minute week schedule none (omega arith))

    pub next_week_is : (next : ℕ) → change_in t 0 minute schedule ≡ Some next → Ok (Until schedule next) ≡ hours_answer t minute
    next_week_is next found =
        let there = change_there t 0 minute schedule next found in
        answer_is (next_week t minute inside next none_left (for_minute 0 minute there.0) there.1)

    pub always_is : change_in t 0 minute schedule ≡ None → Ok (Always schedule) ≡ hours_answer t minute
    always_is absent = answer_is (no_change t minute inside none_left (for_minute 0 minute (change_absent t 0 minute schedule absent (omega arith))))

-- what an answer was made of
until_parts : (n s : ℕ) (change : Change) (schedule next : ℕ) → hours_of n s change ≡ Ok (Until schedule next)
    → (n ≡ 0) × (s ≡ schedule) × (change ≡ next_at next)
until_parts zero s never schedule next e = absurd (let z : ◌≡◌ {A = ℕ} 0 1 = cc in omega arith)
until_parts zero s (next_at m) schedule next e = (refl, cc, cc)
until_parts (suc n) s change schedule next e = absurd (let z : ◌≡◌ {A = ℕ} 0 1 = cc in omega arith)

always_parts : (n s : ℕ) (change : Change) (schedule : ℕ) → hours_of n s change ≡ Ok (Always schedule)
    → (n ≡ 0) × (s ≡ schedule) × (change ≡ never)
always_parts zero s never schedule e = (refl, cc, refl)
always_parts zero s (next_at m) schedule e = absurd (let z : ◌≡◌ {A = ℕ} 0 1 = cc in omega arith)
always_parts (suc n) s change schedule e = absurd (let z : ◌≡◌ {A = ℕ} 0 1 = cc in omega arith)

-- what a change was made of
next_parts : (d m next : ℕ) → pick (d =? week) never (next_at m) ≡ next_at next → (d ≡ week → ⊥) × (m ≡ next)
next_parts d m next e = go (d =? week) refl e
  where
    go : (b : Bool) → (d =? week) ≡ b → pick b never (next_at m) ≡ next_at next → (d ≡ week → ⊥) × (m ≡ next)
    go true q e = absurd (let z : ◌≡◌ {A = ℕ} 0 1 = cc in omega arith)
    go false q e = (λ p. false≢true (sym q ∙ yes= p), cc)

never_parts : (d m : ℕ) → pick (d =? week) never (next_at m) ≡ never → d ≡ week
never_parts d m e = go (d =? week) refl e
  where
    go : (b : Bool) → (d =? week) ≡ b → pick b never (next_at m) ≡ never → d ≡ week
    go true q e = is= d week q
    go false q e = absurd (let z : ◌≡◌ {A = ℕ} 0 1 = cc in omega arith)

-- up to the change the schedule is that of the minute
module _ (t : List ℕ) (minute : ℕ) where
  abbrev differs_in : ℕ → Bool
  differs_in d = schedule_in t ((minute + d) % week) ≠? schedule_in t minute

  ahead_low : 1 ≤ changes_in t minute
  unfolding changes_in
  ahead_low = least_from_low differs_in (week - 1) 1

  ahead_high : (changes_in t minute ≡ week → ⊥) → changes_in t minute < week
  unfolding changes_in
  ahead_high ne = omega (arith, ne, least_from_most differs_in (week - 1) 1)

  ahead_stays : minute < week → (d : ℕ) → d < changes_in t minute → schedule_in t ((minute + d) % week) ≡ schedule_in t minute
  unfolding changes_in
  ahead_stays inside zero l = ap (schedule_in t) (omega arith)
  ahead_stays inside (suc d) l = not≠ _ _ (least_from_before differs_in (week - 1) 1 (suc d) (omega arith) l)

  ahead_differs : changes_in t minute < week → schedule_in t ((minute + changes_in t minute) % week) ≡ schedule_in t minute → ⊥
  unfolding changes_in
  ahead_differs l = is≠ _ _ (least_from_passes differs_in (week - 1) 1 l)

pub change_right : ChangeRight
unfolding next_change
change_right t minute schedule next e =
    let parts = until_parts (hours_number t minute) (schedule_in t minute) (next_change t minute) schedule next e in
    let inside = hours_inside t minute parts.0 in
    let change = next_parts (changes_in t minute) ((minute + changes_in t minute) % week) next parts.2 in
    let high = ahead_high t minute change.0 in
    record {
      later = ahead_low t minute;
      within = high;
      there = sym change.1;
      stays = λ d l. ahead_stays t minute inside d l ∙ parts.1;
      differs = λ q. ahead_differs t minute high (ap (schedule_in t) change.1 ∙ q ∙ sym parts.1);
    }

pub never_changes : NeverChanges
unfolding next_change
never_changes t minute schedule e m l =
    let parts = always_parts (hours_number t minute) (schedule_in t minute) (next_change t minute) schedule e in
    let inside = hours_inside t minute parts.0 in
    let none = never_parts (changes_in t minute) ((minute + changes_in t minute) % week) parts.2 in
    let there : (minute + (m + week - minute) % week) % week ≡ m = omega arith in
    ap (schedule_in t) (sym there) ∙ ahead_stays t minute inside ((m + week - minute) % week) (omega (arith, none)) ∙ parts.1

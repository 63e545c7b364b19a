-- The windows of a timetable: the tests of number 31 from facts in numbers, and what holds of a timetable that fits.
-- Assumes nothing.
use Prim.Native.Nat.{ℕ, zero, suc, ◌+◌, ◌-◌, ◌%◌, ◌≤◌, ◌<◌}
use mathlib.Core.Bool.{Bool, true, false}
use mathlib.Core.List.{List}
use mathlib.Core.Path.{◌≡◌, refl, sym, ◌∙◌, ap, subst}
use native.Mathlib.Omega.{arith}
use native.Mathlib.Decide.{ℕ_discrete, dec_lt}
use native.Mathlib.Numerals.{add-one}
use native.Mathlib.Nat.{not-suc-le-zero}
use lib.ListN.{length}
use Rattle.words.specs.Tests.{◌≤?◌, ◌<?◌, ◌=?◌, ◌and◌, all}
use Rattle.words.proofs.TestLaws.{and_no, and_on, and_both, and_left, and_right, and_no_right, yes≤, no≤, yes<, no<, yes=, no=, is≤, is<}
use Rattle.words.proofs.AllLaws.{all_none, all_more, all_fails, all_at}
use Rattle.words.proofs.WordLaws.{last_of_at, last_of_none}
use Rattle.timetable.specs.declared.windows.Window.{Window}
use Rattle.timetable.specs.Timetable.{week, windows, start_at, length_at, schedule_at, end_at, window_fits, in_order, timetable_fits, covers, schedule_of, schedule_in, OneCovers}
use Rattle.timetable.specs.Inner.Windows.{fits, first_windows_fit}
use Rattle.timetable.specs.Inner.Edges.{EndedBefore, FirstBehind}

-- a window, by its words
module _ (w : Window) where
  -- it has no minute
  pub fits_empty : w.minutes ≤ 0 → false ≡ fits w
  unfolding fits
  fits_empty h = sym (and_no_right (w.start <? week) _ (sym (and_no _ (no≤ (omega arith)))))

  -- it passes the week's end
  pub fits_late : week < w.start + w.minutes → false ≡ fits w
  unfolding fits
  fits_late h = sym (and_no_right (w.start <? week) _ (and_no_right (1 ≤? w.minutes) _ (sym (and_no (w.schedule ≤? 7) (no≤ h)))))

  -- it has a minute and ends in time, and its schedule decides
  pub fits_rest : 0 < w.minutes → w.start + w.minutes ≤ week → (w.schedule ≤? 7) ≡ fits w
  unfolding fits
  fits_rest a b = and_on (yes< (omega arith)) (and_on (yes≤ a) (and_on (yes≤ b) refl))

  -- the words are those of window k
  pub fits_is : (t : List ℕ) (k : ℕ) → w.start ≡ start_at t k → w.minutes ≡ length_at t k → w.schedule ≡ schedule_at t k
      → fits w ≡ window_fits t k
  unfolding fits window_fits end_at
  fits_is t k a b c = rw (a, b, c) refl

-- where window k ends, by its words
pub end_is : (t : List ℕ) (k : ℕ) {end start minutes : ℕ} → end ≡ start + minutes → start ≡ start_at t k → minutes ≡ length_at t k → end ≡ end_at t k
unfolding end_at
end_is t k e a b = omega arith

-- which minutes a window covers
module _ (t : List ℕ) (k minute : ℕ) where
  pub covered : start_at t k ≤ minute → minute < end_at t k → covers t k minute ≡ true
  unfolding covers
  covered a b = and_both (yes≤ a) (yes< b)

  pub uncovered_early : minute < start_at t k → covers t k minute ≡ false
  unfolding covers
  uncovered_early a = sym (and_no _ (no≤ a))

  pub uncovered_late : end_at t k ≤ minute → covers t k minute ≡ false
  unfolding covers
  uncovered_late a = and_no_right (start_at t k ≤? minute) _ (no< a)

  pub covers_start : covers t k minute ≡ true → start_at t k ≤ minute
  unfolding covers
  covers_start h = is≤ (start_at t k) minute (and_left (start_at t k ≤? minute) _ h)

  pub covers_end : covers t k minute ≡ true → minute < end_at t k
  unfolding covers
  covers_end h = is< minute (end_at t k) (and_right (start_at t k ≤? minute) _ h)

-- what a window that fits has
pub starts_before : (t : List ℕ) (k : ℕ) → window_fits t k ≡ true → start_at t k < end_at t k
unfolding window_fits end_at
starts_before t k h =
    let rest = and_right (start_at t k <? week) _ h in
    let has-minute : 1 ≤ length_at t k = is≤ 1 (length_at t k) (and_left (1 ≤? length_at t k) _ rest) in
    omega arith

pub ends_within : (t : List ℕ) (k : ℕ) → window_fits t k ≡ true → end_at t k ≤ week
unfolding window_fits
ends_within t k h =
    let rest = and_right (1 ≤? length_at t k) _ (and_right (start_at t k <? week) _ h) in
    is≤ (end_at t k) week (and_left (end_at t k ≤? week) _ rest)

-- number 31, by what the code finds: the words are no windows, or too many, or the windows decide
module _ (t : List ℕ) where
  pub fits_ragged : (length t % 3 ≡ 0 → ⊥) → false ≡ timetable_fits t
  unfolding timetable_fits
  fits_ragged ne = and_no _ (no= ne)

  pub fits_many : 64 < windows t → false ≡ timetable_fits t
  unfolding timetable_fits
  fits_many h = sym (and_no_right (length t % 3 =? 0) _ (sym (and_no _ (no≤ h))))

  pub fits_windows : (count : ℕ) {v : Bool} → length t % 3 ≡ 0 → windows t ≤ 64 → count ≡ windows t
      → v ≡ first_windows_fit t count → v ≡ timetable_fits t
  unfolding timetable_fits
  fits_windows count a b e r =
      and_on (yes= a) (and_on (yes≤ b) (r ∙ ap (first_windows_fit t) e))

-- where the window before window k ended, and 0 where there is none
pub end_before : List ℕ → ℕ → ℕ
end_before t zero = 0
end_before t (suc k) = end_at t k

-- the first k windows fit and are in order, and the last of them has ended there
pub record Kept (t : List ℕ) (k ended : ℕ) : Type 0 where
  pub fit : first_windows_fit t k ≡ true
  pub last : ended ≡ end_before t k

pub kept_none : (t : List ℕ) → Kept t 0 0
unfolding end_before
kept_none t = record { fit = and_both (sym (all_none (window_fits t))) (sym (all_none (in_order t))); last = refl }

-- the window before window k ends in time for it, or does not
in_order_when : (t : List ℕ) (j : ℕ) → end_at t j ≤ start_at t (suc j) → in_order t j ≡ true
unfolding in_order
in_order_when t j h = yes≤ (omega (arith, h, ap (start_at t) (add-one j)))

not_in_order : (t : List ℕ) (j : ℕ) → start_at t (suc j) < end_at t j → in_order t j ≡ false
unfolding in_order
not_in_order t j h = no≤ (omega (arith, h, ap (start_at t) (add-one j)))

module _ (t : List ℕ) (k ended : ℕ) (kept : Kept t k ended) where
  ordered_more : ended ≤ start_at t k → all k (in_order t) ≡ true
  unfolding all end_before
  ordered_more l = go k (and_right (all k (window_fits t)) _ kept.fit) kept.last l
    where
      go : (k : ℕ) → all (k - 1) (in_order t) ≡ true → ended ≡ end_before t k → ended ≤ start_at t k → all k (in_order t) ≡ true
      go zero h e l = sym (all_none (in_order t))
      go (suc j) h e l =
          let before : suc j - 1 ≡ j = omega arith in
          and_both (subst (λ n. all n (in_order t) ≡ true) before h) (in_order_when t j (omega arith))

  -- one window more
  pub kept_more : {end : ℕ} → ended ≤ start_at t k → window_fits t k ≡ true → end ≡ end_at t k → Kept t (k + 1) end
  unfolding end_before
  kept_more l fits e =
      let before : k ≡ k + 1 - 1 = omega arith in
      record {
        fit =
            and_both
            (all_more (window_fits t) k (and_left _ _ kept.fit) fits)
            (subst (λ n. all n (in_order t) ≡ true) before (ordered_more l));
        last = e ∙ sym (ap (end_before t) (add-one k));
      }

  -- the next window does not fit, or starts too early; or there is none
  pub kept_unfit : (count : ℕ) → k < count → window_fits t k ≡ false → false ≡ first_windows_fit t count
  kept_unfit count l e = and_no _ (sym (all_fails (window_fits t) count k l e))

  pub kept_early : (count : ℕ) → k < count → start_at t k < ended → false ≡ first_windows_fit t count
  unfolding end_before
  kept_early count l h = go k l kept.last h
    where
      go : (k : ℕ) → k < count → ended ≡ end_before t k → start_at t k < ended → false ≡ first_windows_fit t count
      go zero l e h = absurd (let z : ⊥ = omega arith in z)
      go (suc j) l e h =
          let early : in_order t j ≡ false = not_in_order t j (omega arith) in
          sym (and_no_right (all count (window_fits t)) _ (sym (all_fails (in_order t) (count - 1) j (omega arith) early)))

  pub kept_done : (count : ℕ) → k ≤ count → count ≤ k → true ≡ first_windows_fit t count
  kept_done count a b =
      let same : k ≡ count = omega arith in
      sym (subst (λ n. first_windows_fit t n ≡ true) same kept.fit)

-- a timetable that fits
module _ (t : List ℕ) (fits : timetable_fits t ≡ true) where
  few_windows : (windows t ≤? 64 and first_windows_fit t (windows t)) ≡ true
  unfolding timetable_fits
  few_windows = and_right (length t % 3 =? 0) _ fits

  pub few : windows t ≤ 64
  few = is≤ (windows t) 64 (and_left (windows t ≤? 64) _ few_windows)

  windows_fit : first_windows_fit t (windows t) ≡ true
  windows_fit = and_right (windows t ≤? 64) _ few_windows

  pub starts : (k : ℕ) → k < windows t → start_at t k < end_at t k
  starts k l = starts_before t k (all_at (window_fits t) (windows t) (and_left _ _ windows_fit) k l)

  pub ends : (k : ℕ) → k < windows t → end_at t k ≤ week
  ends k l = ends_within t k (all_at (window_fits t) (windows t) (and_left _ _ windows_fit) k l)

  next_starts : (k : ℕ) → suc k < windows t → end_at t k ≤ start_at t (k + 1)
  unfolding in_order
  next_starts k l =
      is≤ (end_at t k) (start_at t (k + 1))
      (all_at (in_order t) (windows t - 1) (and_right (all (windows t) (window_fits t)) _ windows_fit) k (omega arith))

  -- a window ends before every later one starts
  pub apart : (j k : ℕ) → j < k → k < windows t → end_at t j ≤ start_at t k
  apart j zero l m = absurd (not-suc-le-zero l)
  apart j (suc k) l m = go (ℕ_discrete j k) (apart j k)
    where
      next : end_at t k ≤ start_at t (suc k)
      next = omega (arith, next_starts k m, ap (start_at t) (add-one k))

      go : Dec (j ≡ k) → (j < k → k < windows t → end_at t j ≤ start_at t k) → end_at t j ≤ start_at t (suc k)
      go (yes e) r = omega (arith, next, ap (end_at t) e)
      go (no ne) r = omega (arith, next, r (omega (arith, ne)) (omega arith), starts k (omega arith))

  -- the schedule of a minute, by the first window that has not ended by it
  module _ (minute k : ℕ) (behind : FirstBehind t minute k) where
    -- a later window has not started
    later_open : (j : ℕ) → k < j → j < windows t → covers t j minute ≡ false
    later_open j l m = uncovered_early t j minute (omega (arith, apart k j l m, behind.1 (omega arith)))

    -- it has started
    pub schedule_there : k < windows t → start_at t k ≤ minute → schedule_at t k ≡ schedule_in t minute
    unfolding schedule_in schedule_of
    schedule_there l started =
        sym (ap (schedule_of t) (last_of_at (windows t) (λ i. covers t i minute) k l here later_open))
      where
        here : covers t k minute ≡ true
        here = covered t k minute started (behind.1 l)

    -- it has not, or there is none
    pub schedule_none : (k < windows t → minute < start_at t k) → 0 ≡ schedule_in t minute
    unfolding schedule_in schedule_of
    schedule_none unstarted = sym (ap (schedule_of t) (last_of_none (windows t) (λ i. covers t i minute) none))
      where
        none : (j : ℕ) → j < windows t → covers t j minute ≡ false
        none j l = go (dec_lt j k) (ℕ_discrete j k)
          where
            go : Dec (j < k) → Dec (j ≡ k) → covers t j minute ≡ false
            go (yes a) d = uncovered_late t j minute (behind.0.1 j a)
            go (no a) (yes e) = uncovered_early t j minute (omega (arith, unstarted (omega (arith, e)), ap (start_at t) e))
            go (no a) (no ne) = later_open j (omega (arith, ne)) l

-- one window more has ended
pub ended_more : (t : List ℕ) (minute k : ℕ) → EndedBefore t minute k → k < windows t → end_at t k ≤ minute → EndedBefore t minute (k + 1)
ended_more t minute k h l e = (omega arith, λ j m. go j m (ℕ_discrete j k))
  where
    go : (j : ℕ) → j < k + 1 → Dec (j ≡ k) → end_at t j ≤ minute
    go j m (yes q) = omega (arith, ap (end_at t) q)
    go j m (no ne) = h.1 j (omega (arith, ne))

-- two windows that cover one minute are one
pub one_covers : OneCovers
one_covers t j k minute fits lj lk cj ck = go (dec_lt j k) (dec_lt k j)
  where
    go : Dec (j < k) → Dec (k < j) → j ≡ k
    go (yes l) d = absurd (omega (arith, apart t fits j k l lk, covers_start t k minute ck, covers_end t j minute cj))
    go (no a) (yes l) = absurd (omega (arith, apart t fits k j l lj, covers_start t j minute cj, covers_end t k minute ck))
    go (no a) (no b) = omega (arith, a, b)

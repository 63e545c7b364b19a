-- From edge to edge: the schedule stays between two edges, and the first window that has not ended gives the next one.
-- Assumes nothing.
use Prim.Native.Nat.{ℕ, ◌+◌, ◌-◌, ◌≤◌, ◌<◌}
use mathlib.Core.Bool.{true, false, false≢true}
use mathlib.Core.List.{List}
use mathlib.Core.Path.{◌≡◌, refl, sym, ◌∙◌, ap, ap₂}
use native.Mathlib.Omega.{arith}
use native.Mathlib.Decide.{ℕ_discrete, dec_lt, dec_le}
use Rattle.words.specs.Tests.{◌≤?◌, ◌<?◌, ◌=?◌, ◌and◌}
use Rattle.words.proofs.TestLaws.{or_yes, or_on, or_skip, yes≤, no≤, yes<, no<, yes=, no=}
use Rattle.words.proofs.AllLaws.{any_at, any_none}
use Rattle.words.proofs.WordLaws.{last_of_same, least_from_by, least_from_before, least_from_low}
use Rattle.timetable.specs.Timetable.{week, windows, start_at, end_at, timetable_fits, covers, schedule_of, schedule_in}
use Rattle.timetable.specs.Inner.Edges.{is_edge, next_edge, FirstBehind}
use Rattle.timetable.proofs.TimetableLaws.{starts, ends, apart}

-- a start and an end are edges
pub start_edge : (t : List ℕ) (k : ℕ) → k < windows t → is_edge t (start_at t k) ≡ true
unfolding is_edge
start_edge t k l = any_at (windows t) _ k l (sym (or_yes _ (yes= refl)))

pub end_edge : (t : List ℕ) (k : ℕ) → k < windows t → is_edge t (end_at t k) ≡ true
unfolding is_edge
end_edge t k l = any_at (windows t) _ k l (sym (or_skip (start_at t k =? end_at t k) (sym (yes= refl))))

no_edge : (t : List ℕ) (minute : ℕ)
    → ((k : ℕ) → k < windows t → (start_at t k ≡ minute → ⊥) × (end_at t k ≡ minute → ⊥)) → is_edge t minute ≡ false
unfolding is_edge
no_edge t minute h = any_none (windows t) _ (λ k l. sym (or_on (no= (h k l).0) (sym (no= (h k l).1))))

-- the next edge lies behind the minute
pub edge_later : (t : List ℕ) (minute : ℕ) → minute < next_edge t minute
unfolding next_edge
edge_later t minute = omega (arith, least_from_low (is_edge t) (week - 1 - minute) (minute + 1))

-- a minute and one before the next edge
module _ (t : List ℕ) (minute m : ℕ) (on : minute ≤ m) (before : m < next_edge t minute) where
  -- no edge lies between them
  none_between : (e : ℕ) → is_edge t e ≡ true → minute < e → e ≤ m → ⊥
  unfolding next_edge
  none_between e is-edge a b =
      false≢true (sym (least_from_before (is_edge t) (week - 1 - minute) (minute + 1) e (omega arith) (omega arith)) ∙ is-edge)

  same_start : (k : ℕ) → k < windows t → (start_at t k ≤? m) ≡ (start_at t k ≤? minute)
  same_start k l = go (dec_le (start_at t k) minute) (dec_le (start_at t k) m)
    where
      go : Dec (start_at t k ≤ minute) → Dec (start_at t k ≤ m) → (start_at t k ≤? m) ≡ (start_at t k ≤? minute)
      go (yes a) d = yes≤ (omega arith) ∙ sym (yes≤ a)
      go (no a) (yes b) = absurd (none_between (start_at t k) (start_edge t k l) (omega (arith, a)) b)
      go (no a) (no b) = no≤ (omega (arith, b)) ∙ sym (no≤ (omega (arith, a)))

  same_end : (k : ℕ) → k < windows t → (m <? end_at t k) ≡ (minute <? end_at t k)
  same_end k l = go (dec_lt minute (end_at t k)) (dec_lt m (end_at t k))
    where
      go : Dec (minute < end_at t k) → Dec (m < end_at t k) → (m <? end_at t k) ≡ (minute <? end_at t k)
      go (yes a) (yes b) = yes< b ∙ sym (yes< a)
      go (yes a) (no b) = absurd (none_between (end_at t k) (end_edge t k l) a (omega (arith, b)))
      go (no a) d = no< (omega (arith, a)) ∙ sym (no< (omega (arith, a)))

  -- so the schedule is the same
  pub same_between : schedule_in t m ≡ schedule_in t minute
  unfolding schedule_in covers
  same_between = ap (schedule_of t) (last_of_same (windows t) _ _ (λ k l. ap₂ ◌and◌ (same_start k l) (same_end k l)))

-- the next edge by the first window that has not ended by a minute
module _ (t : List ℕ) (fits : timetable_fits t ≡ true) (minute k : ℕ) (inside : minute < week) (behind : FirstBehind t minute k) where
  -- an edge, or the week's end, behind the minute: no later than that window's end, and with its start not between them
  first_edge : (edge : ℕ) → minute < edge → edge ≤ week → (edge < week → is_edge t edge ≡ true)
      → (k < windows t → edge ≤ end_at t k)
      → (k < windows t → (m : ℕ) → minute < m → m < edge → start_at t k ≡ m → ⊥)
      → edge ≡ next_edge t minute
  unfolding next_edge
  first_edge edge later within is-edge short own =
      sym
      (least_from_by (is_edge t) (week - 1 - minute) (minute + 1) edge (omega arith) (omega arith) (λ l. is-edge (omega arith))
      (λ m a b. no_edge t m (λ j l. none m (omega arith) b j l (dec_lt j k) (ℕ_discrete j k))))
    where
      none : (m : ℕ) → minute < m → m < edge → (j : ℕ) → j < windows t → Dec (j < k) → Dec (j ≡ k)
          → (start_at t j ≡ m → ⊥) × (end_at t j ≡ m → ⊥)
      none m a b j l (yes before) d =
          let ended = behind.0.1 j before in
          let started = starts t fits j l in
          (λ e. omega arith, λ e. omega arith)
      none m a b j l (no g) (yes same) =
          let here : k < windows t = omega (arith, same) in
          (λ e. own here m a b (ap (start_at t) (sym same) ∙ e), λ e. omega (arith, short here, ap (end_at t) same))
      none m a b j l (no g) (no ne) =
          let after = apart t fits k j (omega (arith, g, ne)) l in
          let before = short (omega (arith, g, ne)) in
          let started = starts t fits j l in
          (λ e. omega arith, λ e. omega arith)

  -- its start is still to come
  pub edge_start : k < windows t → minute < start_at t k → start_at t k ≡ next_edge t minute
  edge_start l unstarted =
      let started = starts t fits k l in
      first_edge (start_at t k) unstarted (omega (arith, ends t fits k l)) (λ b. start_edge t k l) (λ h. omega arith) (λ h m a b e. omega arith)

  -- it has started, and its end is to come
  pub edge_end : k < windows t → start_at t k ≤ minute → end_at t k ≡ next_edge t minute
  edge_end l started =
      first_edge (end_at t k) (behind.1 l) (ends t fits k l) (λ b. end_edge t k l) (λ h. omega arith) (λ h m a b e. omega arith)

  -- all windows have ended
  pub edge_week : windows t ≤ k → week ≡ next_edge t minute
  edge_week l =
      let none : k < windows t → ⊥ = λ h. omega arith in
      first_edge week inside (omega arith) (λ b. absurd (let z : ⊥ = omega arith in z)) (λ h. absurd (none h)) (λ h m a b e. none h)

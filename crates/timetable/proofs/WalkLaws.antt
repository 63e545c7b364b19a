-- The walk from edge to edge: every minute that it has passed has the schedule, so it finds the first one that has not.
-- Assumes nothing.
use Prim.Native.Nat.{ℕ, ◌+◌, ◌-◌, ◌≤◌, ◌<◌}
use mathlib.Core.Bool.{Bool, true, false}
use mathlib.Core.List.{List}
use mathlib.Core.Path.{◌≡◌, refl, sym, ◌∙◌, ap}
use native.Mathlib.Omega.{arith}
use native.Mathlib.Decide.{dec_lt}
use Rattle.std.specs.Prelude.{Some, None}
use Rattle.words.specs.Tests.{◌<?◌, ◌≠?◌}
use Rattle.words.specs.Words.{pick}
use Rattle.words.proofs.TestLaws.{yes<, no<, is<, not<, yes≠, no≠, is≠, not≠}
use Rattle.words.proofs.WordLaws.{least_from_is, least_from_none, least_from_most, least_from_low, least_from_passes, least_from_before}
use Rattle.timetable.specs.Timetable.{schedule_in}
use Rattle.timetable.specs.Inner.Edges.{next_edge, EndedBefore, first_change, change_in}
use Rattle.timetable.proofs.EdgeLaws.{same_between, edge_later}

-- the walk so far: every minute that was passed has the schedule
pub Passed : List ℕ → ℕ → ℕ → ℕ → Type 0
Passed t from at schedule = (m : ℕ) → from ≤ m → m < at → schedule_in t m ≡ schedule

pub passed_none : (t : List ℕ) (from schedule : ℕ) → Passed t from from schedule
unfolding Passed
passed_none t from schedule m a b = absurd (let z : ⊥ = omega arith in z)

module _ (t : List ℕ) (from at schedule : ℕ) where
  -- it goes on to the next edge
  pub passed_more : {edge here : ℕ} → Passed t from at schedule → here ≡ schedule_in t at → here ≡ schedule → edge ≡ next_edge t at
      → Passed t from edge schedule
  unfolding Passed
  passed_more h read e next m a b = go (dec_lt m at)
    where
      go : Dec (m < at) → schedule_in t m ≡ schedule
      go (yes l) = h m a l
      go (no g) = same_between t at m (omega (arith, g)) (omega (arith, next)) ∙ sym read ∙ e

  -- it ends where the schedule differs, or where it should
  pub change_found : (to : ℕ) → Passed t from at schedule → from ≤ at → at < to → (schedule_in t at ≡ schedule → ⊥)
      → Some at ≡ change_in t from to schedule
  unfolding Passed first_change change_in
  change_found to h a l ne =
      let found = least_from_is _ (to - from) from at a (omega arith) (yes≠ ne) (λ m b c. no≠ (h m b c)) in
      rw (found, yes< l) refl

  pub change_none : (to : ℕ) → Passed t from at schedule → from ≤ to → to ≤ at → None ≡ change_in t from to schedule
  unfolding Passed first_change change_in
  change_none to h a l =
      let past : from + (to - from) ≡ to = omega arith in
      let none = least_from_none _ (to - from) from (λ m b c. no≠ (h m b (omega arith))) ∙ past in
      rw (none, no< {a = to} {b = to} (omega arith)) refl

-- windows that have ended by a minute have ended by the next edge
pub ended_on : (t : List ℕ) (minute k : ℕ) {edge : ℕ} → EndedBefore t minute k → edge ≡ next_edge t minute → EndedBefore t edge k
ended_on t minute k h next = (h.0, λ j l. omega (arith, h.1 j l, next, edge_later t minute))

-- what a first change says
module _ (t : List ℕ) (from to schedule r : ℕ) (found : r ≡ first_change t from to schedule) where
  pub first_before : (m : ℕ) → from ≤ m → m < r → schedule_in t m ≡ schedule
  unfolding first_change
  first_before m a l =
      not≠ (schedule_in t m) schedule (least_from_before (λ m. schedule_in t m ≠? schedule) (to - from) from m a (omega (arith, found)))

  pub first_there : from ≤ to → r < to → schedule_in t r ≡ schedule → ⊥
  unfolding first_change
  first_there a l e =
      let there = least_from_passes (λ m. schedule_in t m ≠? schedule) (to - from) from (omega (arith, found)) in
      is≠ _ _ there (ap (schedule_in t) (sym found) ∙ e)

  pub first_low : from ≤ r
  unfolding first_change
  first_low = omega (arith, found, least_from_low (λ m. schedule_in t m ≠? schedule) (to - from) from)

-- a walk that found a change, and one that found none
module _ (t : List ℕ) (from to schedule : ℕ) where
  pub change_there : (r : ℕ) → change_in t from to schedule ≡ Some r → (r ≡ first_change t from to schedule) × (r < to)
  unfolding change_in
  change_there r e = go (first_change t from to schedule <? to) refl e
    where
      go : (b : Bool) → (first_change t from to schedule <? to) ≡ b → pick b (Some (first_change t from to schedule)) None ≡ Some r
          → (r ≡ first_change t from to schedule) × (r < to)
      go true q e =
          let same : r ≡ first_change t from to schedule = cc in
          (same, omega (arith, same, is< _ _ q))
      go false q e = absurd (let z : ◌≡◌ {A = ℕ} 0 1 = cc in omega arith)

  pub change_absent : change_in t from to schedule ≡ None → from ≤ to → to ≡ first_change t from to schedule
  unfolding first_change change_in
  change_absent e a = go (first_change t from to schedule <? to) refl e
    where
      go : (b : Bool) → (first_change t from to schedule <? to) ≡ b → pick b (Some (first_change t from to schedule)) None ≡ None
          → to ≡ first_change t from to schedule
      go true q e = absurd (let z : ◌≡◌ {A = ℕ} 0 1 = cc in omega arith)
      go false q e = omega (arith, not< _ _ q, least_from_most (λ m. schedule_in t m ≠? schedule) (to - from) from)

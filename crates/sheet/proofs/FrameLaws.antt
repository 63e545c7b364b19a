-- The places of the schedules: the one behind another, each within the sheet, and a schedule's entries as a part of the sheet.
-- Assumes nothing.
use Prim.Native.Nat.{ℕ, ◌+◌, ◌-◌, ◌*◌, ◌<◌, ◌≤◌}
use mathlib.Core.Bool.{Bool, true, false}
use mathlib.Core.List.{List}
use mathlib.Core.Path.{◌≡◌, refl, sym, ◌∙◌, ap}
use native.Mathlib.Omega.{arith}
use native.Mathlib.Numerals.{add-one}
use native.Mathlib.Decide.{ℕ_discrete}
use native.Mathlib.Nat.{add-sub_cancel_left}
use lib.ListN.{length, take, drop}
use Rattle.words.specs.Tests.{between, ◌and◌, ◌≤?◌, ◌=?◌}
use Rattle.words.specs.Words.{word, pick}
use Rattle.words.proofs.TestLaws.{and_no, and_skip, and_both, and_left, and_right, yes≤, no≤, is≤, is=}
use Rattle.words.proofs.AllLaws.{all_at}
use Rattle.std.specs.Prelude.{Option}
use Rattle.std.specs.declared.option.Option.TheVariants.{Some, None}
use Rattle.sheet.specs.Sheet.{circuits, schedules, stated_entries, schedule_place, next_place, period, entries_of}
use Rattle.sheet.specs.Inner.Frame.{place_after}
use Rattle.sheet.specs.Rules.{schedule_fits, rule3}
use Rattle.sheet.specs.Inner.Passed.{Placed}

-- the range test of a number, in terms of the number that was read
pub range_read : (low high : ℕ) {x y : ℕ} {w v : Bool} → x ≡ y → w ≡ between low high x → w ≡ v → between low high y ≡ v
range_read low high p e f = ap (between low high) (sym p) ∙ sym e ∙ f

-- the answer of `place_after`, from the facts in numbers
module _ (z : List ℕ) (at : ℕ) where
  -- a place, where a test holds
  abbrev choice : Bool → Option ℕ
  choice test = pick test (Some (next_place z at)) None

  choice_by : {a b : Bool} → a ≡ b → choice a ≡ choice b
  choice_by e = ap choice e

  -- the schedule fits
  pub after_yes : (next : ℕ) → next ≡ next_place z at → at + 2 ≤ length z → stated_entries z at ≤ 256
      → Some next ≡ place_after z at
  unfolding place_after
  after_yes next e a b = ap Some e ∙ sym (choice_by (and_both (yes≤ a) (yes≤ b)))

  -- the schedule begins too late
  pub after_short : length z < at + 2 → None ≡ place_after z at
  unfolding place_after
  after_short h = choice_by (and_no _ (no≤ h))

  -- the schedule states too many entries
  pub after_many : 256 < stated_entries z at → None ≡ place_after z at
  unfolding place_after
  after_many h = choice_by (and_skip _ (sym (no≤ h)))

-- the first schedule is behind the circuits
pub first_place : (z : List ℕ) (n : ℕ) → n ≡ circuits z → 5 + 6 * n ≡ schedule_place z 0
unfolding schedule_place
first_place z n e = ap (λ (k : ℕ). 5 + 6 * k) e

-- one more schedule fits
pub record Stepped (z : List ℕ) (j at next : ℕ) : Type 0 where
  pub fits : schedule_fits z j ≡ true
  pub place : next ≡ schedule_place z (j + 1)
  pub near : next ≤ at + 1026

module _ (z : List ℕ) (j at : ℕ) (e : at ≡ schedule_place z j) where
  fits_at : schedule_fits z j ≡ (at + 2 ≤? length z and stated_entries z at ≤? 256)
  unfolding schedule_fits
  fits_at = ap (λ (p : ℕ). p + 2 ≤? length z and stated_entries z p ≤? 256) (sym e)

  -- the schedule does not fit
  pub step_no : place_after z at ≡ None → schedule_fits z j ≡ false
  unfolding place_after
  step_no h = go (at + 2 ≤? length z and stated_entries z at ≤? 256) fits_at h
    where
      go : (t : Bool) → schedule_fits z j ≡ t → choice z at t ≡ None → schedule_fits z j ≡ false
      go true f q = let e₀ : ◌≡◌ {A = ℕ} 0 1 = cc in absurd (omega arith)
      go false f q = f

  -- the next schedule is at the next place
  place_more : next_place z at ≡ schedule_place z (j + 1)
  unfolding schedule_place
  place_more = rw (add-one j) (ap (next_place z) e)

  -- the same, with the number of entries that was read
  pub place_next : (n : ℕ) → n ≡ stated_entries z at → at + 2 + 4 * n ≡ schedule_place z (j + 1)
  place_next n q = ap (λ (k : ℕ). at + 2 + 4 * k) q ∙ place_more

  -- the schedule fits
  pub step_on : (next : ℕ) → place_after z at ≡ Some next → Stepped z j at next
  unfolding place_after
  step_on next h = go (at + 2 ≤? length z and stated_entries z at ≤? 256) refl h
    where
      go : (t : Bool) → (at + 2 ≤? length z and stated_entries z at ≤? 256) ≡ t → choice z at t ≡ Some next → Stepped z j at next
      go true f q =
          let n : next_place z at ≡ next = cc in
          let few = is≤ (stated_entries z at) 256 (and_right _ _ f) in
          record { fits = fits_at ∙ f; place = sym n ∙ place_more; near = omega arith }
      go false f q = let e₀ : ◌≡◌ {A = ℕ} 0 1 = cc in absurd (omega arith)

-- each schedule of a sheet that keeps rule 3 lies within it
pub rule3_placed : (z : List ℕ) → rule3 z ≡ true → (j : ℕ) → j < schedules z → Placed z (schedule_place z j)
unfolding rule3 schedule_fits schedule_place
rule3_placed z r j h = record { few = is≤ _ _ (and_right _ _ (fits j h)); ends = go (ℕ_discrete (j + 1) (schedules z)) }
  where
    fits : (i : ℕ) → i < schedules z → schedule_fits z i ≡ true
    fits i l = all_at (schedule_fits z) (schedules z) (and_left _ _ r) i l

    behind : schedule_place z (j + 1) ≡ next_place z (schedule_place z j)
    behind = rw (add-one j) refl

    go : Dec (j + 1 ≡ schedules z) → schedule_place z j + 2 + 4 * stated_entries z (schedule_place z j) ≤ length z
    go (yes e) =
        let q = is= _ _ (and_right _ _ r) in
        omega (arith, ap (schedule_place z) e, behind, q)
    go (no ne) =
        let f = is≤ _ _ (and_left _ _ (fits (j + 1) (omega (arith, ne)))) in
        omega (arith, behind, f)

-- the schedules end at the place behind the last one
pub end_at : (z : List ℕ) (j m at : ℕ) → at ≡ schedule_place z j → j ≡ m → (at =? length z) ≡ (schedule_place z m =? length z)
end_at z j m at e q = ap (λ (p : ℕ). p =? length z) (e ∙ ap (schedule_place z) q)

-- the word at a schedule's place is its period
pub period_is : (z : List ℕ) (j at v : ℕ) → at ≡ schedule_place z j → v ≡ word z at → v ≡ period z j
period_is z j at v e q = q ∙ ap (word z) e

-- the part of the sheet from the entries' start to their end
pub part_is : (z : List ℕ) (j at n : ℕ) → at ≡ schedule_place z j → n ≡ stated_entries z at
    → take (at + 2 + 4 * n - (at + 2)) (drop (at + 2) z) ≡ entries_of z j
unfolding entries_of
part_is z j at n e q =
    ap (λ (k : ℕ). take k (drop (at + 2) z)) (add-sub_cancel_left (at + 2) (4 * n) ∙ ap (λ (k : ℕ). 4 * k) q) ∙ ap (λ (p : ℕ). take (4 * stated_entries z p) (drop (p + 2) z)) e

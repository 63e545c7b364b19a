-- A walk through the taken places of a mask below an end, as a loop over it names it: `walk` is the iterator before a call of `next`, `after` the one behind it.
-- Assumes nothing.
use Prim.Native.Nat.{ℕ}
use mathlib.Core.Path.{◌≡◌, subst, ◌∙◌, ap}
use Rattle.occupancy.specs.Inner.Occupancy.{NextTaken}
use Rattle.occupancy.specs.Inner.Places.{Passed}
use Rattle.occupancy.specs.declared.TakenPlaces.{TakenPlaces}

-- the walk is through this mask, to this end: a part of the loop's invariant
pub record On (mask end : ℕ) (walk : TakenPlaces) : Type 0 where
  pub mask_is : walk.mask ≡ mask
  pub end_is : walk.end ≡ end

-- it is at its start
pub record Begun (mask end : ℕ) (walk : TakenPlaces) : Type 0 where
  pub on : On mask end walk
  pub at_start : walk.from ≡ 0

-- what `next` says where it gives a place, and where it gives none
abbrev pub Gave : TakenPlaces → ℕ → TakenPlaces → Type 0
Gave walk place after = (after.mask ≡ walk.mask) × (after.end ≡ walk.end) × Passed walk.mask walk.from walk.end place after.from

abbrev pub Ended : TakenPlaces → TakenPlaces → Type 0
Ended walk after = (after.mask ≡ walk.mask) × (after.end ≡ walk.end) × NextTaken walk.mask walk.from walk.end

pub begun : (mask end : ℕ) (walk first : TakenPlaces) → walk ≡ first → first.mask ≡ mask → first.from ≡ 0 → first.end ≡ end → Begun mask end walk
begun mask end walk first w m f e = record {
  on = record {
    mask_is = ap (λ (x : TakenPlaces). x.mask) w ∙ m;
    end_is = ap (λ (x : TakenPlaces). x.end) w ∙ e;
  };
  at_start = ap (λ (x : TakenPlaces). x.from) w ∙ f;
}

module _ (mask end : ℕ) (walk : TakenPlaces) (on : On mask end walk) (after : TakenPlaces) where
  module _ (place : ℕ) (g : Gave walk place after) where
    pub still_on : On mask end after
    still_on = record { mask_is = g.0 ∙ on.mask_is; end_is = g.1 ∙ on.end_is }

    -- the place is the next one of this mask, and below this end
    pub next_place : Passed mask walk.from end place after.from
    next_place =
        subst (λ (x : ℕ). Passed mask walk.from x place after.from) on.end_is
        (subst (λ (x : ℕ). Passed x walk.from walk.end place after.from) on.mask_is g.2)

  -- behind its last place the walk leaves none to the end
  pub none_left : Ended walk after → NextTaken mask walk.from end
  none_left g =
      subst (λ (x : ℕ). NextTaken mask walk.from x) on.end_is (subst (λ (x : ℕ). NextTaken x walk.from walk.end) on.mask_is g.2)

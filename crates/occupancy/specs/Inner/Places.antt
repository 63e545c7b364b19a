-- A walk through the taken places of a mask, from one on and below an end.
use Rattle.std.specs.Prelude.{ℕ, ◌+◌, ◌<◌, ◌≡◌, Option}
use Rattle.std.specs.declared.option.Option.TheVariants.{Some, None}
use Rattle.occupancy.specs.Inner.Occupancy.{NextTaken}

-- the next taken place lies below the end, and the walk goes on behind it
pub record Passed (mask from end place after : ℕ) : Type 0 where
  pub next : NextTaken mask from place
  pub below : place < end
  pub onward : after ≡ place + 1

-- what the walk gives: the next taken place, or none where none is left below the end
abbrev pub PlaceGiven : ℕ → ℕ → ℕ → Option ℕ → ℕ → Type 0
PlaceGiven mask from end (Some place) after = Passed mask from end place after
PlaceGiven mask from end None after = NextTaken mask from end

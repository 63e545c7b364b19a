-- `occupancy::window` meets its contract: each word is below 2 ^ 32, so that the second fits above the first.
use mathlib.Core.Path.{refl}
use Rattle.occupancy.specs.Inner.Occupancy.{window}
use Rattle.occupancy.proofs.window.Goals as goal

pub returns : goal.returns
unfolding window
returns c = refl

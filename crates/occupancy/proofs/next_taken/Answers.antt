-- `occupancy::next_taken` meets its contract: the zeros below the lowest digit that is set, behind `from`, are the places that are passed.
use mathlib.Core.Path.{refl}
use Rattle.occupancy.proofs.MaskLaws.{next_taken_is}
use Rattle.occupancy.proofs.next_taken.Goals as goal

pub returns : goal.returns
returns c = next_taken_is _ _ _ c.ranges.mask.fits c.requires refl

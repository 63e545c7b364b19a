-- `torus::ring_distance` meets its contract: of the two ways round one is the places' difference, and the other the rest of the ring.
use Rattle.std.proofs.Common.{◌∙◌}
use Rattle.torus.proofs.DistanceLaws.{shorter_is}
use Rattle.torus.proofs.ring_distance.Goals as goal

pub returns : goal.returns
returns c = c.min.ensures ∙ shorter_is _ _ _ _ c.requires.0 c.requires.1 c.abs_diff-way.ensures

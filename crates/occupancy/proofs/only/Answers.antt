-- `occupancy::only` meets its contract: 1 shifted to a place has that digit set.
use Rattle.occupancy.proofs.MaskLaws.{only_taken}
use Rattle.occupancy.proofs.only.Goals as goal

pub returns : goal.returns
returns c = only_taken _ c.requires

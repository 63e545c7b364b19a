-- `occupancy::slot_mask` meets its contract: neither shift loses a bit.
use Rattle.occupancy.proofs.BitLaws.{mask_shifted}
use Rattle.occupancy.proofs.slot_mask.Goals as goal

pub returns : goal.returns
returns c = mask_shifted c.args.bit c.args.size c.requires.0 c.requires.1

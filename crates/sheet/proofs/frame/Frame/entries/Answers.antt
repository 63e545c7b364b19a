-- `sheet::frame::Frame::entries` meets its contract: the part from `from` to `to` is the entries' part by the definition.
use Rattle.sheet.proofs.FrameLaws.{part_is}
use Rattle.sheet.proofs.frame.Frame.entries.Goals as goal

pub returns : goal.returns
returns c = part_is _ _ _ _ c.schedule_place-at.ensures.0 c.get.ensures

-- `session::writing::is_busy` meets its contract: words on their way are looked for on a sheet that passes.
use Rattle.session.proofs.ReadingLaws.{state_headed}
use Rattle.session.proofs.writing.is_busy.Goals as goal

pub is_inbound-requires : goal.is_inbound-requires
is_inbound-requires c = state_headed _ c.requires

-- `session::cycling::live_now` meets its contract: a state that passed 12 and 13 has a grid and all its rows.
use Rattle.session.proofs.RestLaws.{passed_settled}
use Rattle.session.proofs.cycling.live_now.Goals as goal

pub live_now-requires : goal.live_now-requires
live_now-requires c = let settled = passed_settled _ c.requires in (settled.clocked.framed.headed, settled.clocked.long)

-- `session::reading::check_place` meets its contract: what passed 12 to 14 passed 12 and 13.
use Rattle.std.proofs.Common.{sym}
use Rattle.session.proofs.ReadingLaws.{memory_state}
use Rattle.session.proofs.reading.check_place.Goals as goal

pub nodes_of-requires : goal.nodes_of-requires
nodes_of-requires c = memory_state _ _ (sym c.in_ok-check_memory.ensures)

-- `receivers::receiving::step_receiver` meets its contract: the landing that is put leaves what the receive unit reads, and where nothing is on
-- the memory output the receive unit stays.
use Rattle.std.proofs.Common.{arith}
use Rattle.receivers.proofs.UnitLaws.{memory_kept}
use Rattle.receivers.proofs.NodeLaws.{landing_kept, node_rests}
use Rattle.receivers.proofs.receiving.step_receiver.Goals as goal

pub returns-then-memory_mark-eq0 : goal.returns-then-memory_mark-eq0
returns-then-memory_mark-eq0 c = record { state = node_rests _ _ _ _ c.requires c.memory_mark.ensures c.if-memory_mark-eq0.true c.put_landing.ensures; memory = memory_kept _ _ _ c.memory_mark.ensures _ _ (omega arith) }

pub put_receive-requires : goal.put_receive-requires
put_receive-requires c =
    landing_kept _ _ _ _ c.requires c.put_landing-2.ensures

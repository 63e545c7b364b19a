-- `clash::Packet::is_taken` meets its contract: the places from wire i on are a row and those from the next wire on.
use mathlib.Core.Path.{◌∙◌}
use Rattle.clash.proofs.RunLaws.{packet_hit, packet_on, packet_clear}
use Rattle.clash.proofs.Packet.is_taken.Goals as goal

pub returns-then-run_taken : goal.returns-then-run_taken
returns-then-run_taken c =
    packet_hit _ _ _ _ _ _ c.loop-i.i c.loop-i-test.true _ c.place_of-place.ensures _
    c.run_taken.ensures c.if-run_taken.true ∙ c.loop-i.invariant

pub loop-i-preserved : goal.loop-i-preserved
loop-i-preserved c =
    packet_on _ _ _ _ _ _ c.loop-i.i c.loop-i-test.true _ c.place_of-place.ensures _
    c.run_taken.ensures c.if-run_taken.false ∙ c.loop-i.invariant

pub returns : goal.returns
returns c = packet_clear _ _ _ _ _ _ c.loop-i.i c.loop-i-test.false _ ∙ c.loop-i.invariant

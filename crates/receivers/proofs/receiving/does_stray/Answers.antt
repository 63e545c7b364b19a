-- `receivers::receiving::does_stray` meets its contract: the mark, the receive unit and its address are tested one by one.
use Rattle.words.specs.Tests.{◌≤?◌, ◌=?◌}
use Rattle.std.proofs.Common.{arith}
use Rattle.receivers.proofs.StrayLaws.{stray_none, stray_idle, stray_past}
use Rattle.receivers.proofs.receiving.does_stray.Goals as goal

pub returns-then-memory_mark-lt2 : goal.returns-then-memory_mark-lt2
returns-then-memory_mark-lt2 c = stray_none _ _ _ c.memory_mark.ensures (omega arith)

pub returns-then-reg-eq0 : goal.returns-then-reg-eq0
unfolding ◌=?◌
returns-then-reg-eq0 c = stray_idle _ _ _ c.memory_mark.ensures (omega arith) _ c.reg.ensures c.if-reg-eq0.true

pub returns-else-reg-eq0 : goal.returns-else-reg-eq0
unfolding ◌≤?◌
returns-else-reg-eq0 c =
    stray_past _ _ _ c.memory_mark.ensures (omega arith) _ _ _ c.reg.ensures c.if-reg-eq0.false
    c.reg-else-reg-eq0.ensures c.requires.1

-- `receivers::clock::is_due` meets its contract: the period's turn, the order's mark and its period are tested one by one.
use Rattle.words.specs.Tests.{◌=?◌}
use Rattle.receivers.proofs.ClockLaws.{ready_turning, ready_within, due_none, due_rest}
use Rattle.receivers.proofs.clock.is_due.Goals.{then-turning, else-turning}
use Rattle.receivers.proofs.clock.is_due.Goals as goal

pub returns-then-reg-ne0 : goal.returns-then-reg-ne0
unfolding ◌=?◌
returns-then-reg-ne0 c =
    due_rest _
    (elim c.if-turning.branch [
      | then-turning w ↦ ready_turning _ c.requires.0 w.if-turning.true w.reg.ensures w.value-is
      | else-turning w ↦ ready_within _ c.requires.0 w.if-turning.false w.value-is
    ])
    c.if-reg-ne0.true c.reg-then-reg-ne0.ensures c.requires.1

pub returns-else-reg-ne0 : goal.returns-else-reg-ne0
unfolding ◌=?◌
returns-else-reg-ne0 c =
    due_none _
    (elim c.if-turning.branch [
      | then-turning w ↦ ready_turning _ c.requires.0 w.if-turning.true w.reg.ensures w.value-is
      | else-turning w ↦ ready_within _ c.requires.0 w.if-turning.false w.value-is
    ])
    c.if-reg-ne0.false

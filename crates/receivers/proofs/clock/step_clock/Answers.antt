-- `receivers::clock::step_clock` meets its contract: each register is one of two that were read, and the six places of the row are as the stage wants them.
use Rattle.std.proofs.Common.{refl, ap}
use Rattle.words.specs.Tests.{◌=?◌}
use Rattle.words.proofs.TestLaws.{yes=, no=}
use Rattle.network.specs.Cycle.{next_number}
use Rattle.receivers.proofs.ClockLaws.{turns_is, picked_first, picked_second, clock_done}
use Rattle.receivers.proofs.clock.step_clock.Goals.{then-due, else-due, then-due-2, else-due-2, then-turning, else-turning, then-turning-2, else-turning-2}
use Rattle.receivers.proofs.clock.step_clock.Goals as goal

pub is_due-due-requires : goal.is_due-due-requires
unfolding ◌=?◌
is_due-due-requires c = (
  turns_is _ _ _ c.reg-cycle.ensures c.period_now-period.ensures,
  ap next_number c.reg-number.ensures,
)

pub returns : goal.returns
unfolding ◌=?◌
returns c =
    clock_done _ c.requires _ _ (turns_is _ _ _ c.reg-cycle.ensures c.period_now-period.ensures) c.is_due-due.ensures
    _ _ _ _ _ _ c.reg-cycle.ensures c.reg-number.ensures refl c.reg-ordered.ensures c.reg-in_force.ensures c.reg-order_mark.ensures
    (elim c.if-turning.branch [
      | then-turning w ↦ picked_first _ (yes= w.if-turning.true) w.next_cycle-is
      | else-turning w ↦ picked_second _ (no= w.if-turning.false) w.next_cycle-is
    ])
    (elim c.if-turning-2.branch [
      | then-turning-2 w ↦ picked_first _ (yes= w.if-turning-2.true) w.next_number-is
      | else-turning-2 w ↦ picked_second _ (no= w.if-turning-2.false) w.next_number-is
    ])
    (elim c.if-due.branch [
      | then-due w ↦ picked_first _ w.if-due.true w.schedule-is
      | else-due w ↦ picked_second _ w.if-due.false w.schedule-is
    ])
    (elim c.if-due-2.branch [
      | then-due-2 w ↦ picked_first _ w.if-due-2.true w.mark-is
      | else-due-2 w ↦ picked_second _ w.if-due-2.false w.mark-is
    ])
    c.put_clock.ensures

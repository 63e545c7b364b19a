-- `session::writing::order` meets its contract: a refusal leaves the state, and else the order's registers are set.
use Rattle.std.proofs.Common.{refl}
use Rattle.refusal.proofs.AnswerLaws.{is_some}
use Rattle.session.proofs.WritingLaws.{state_kept, state_written}
use Rattle.session.proofs.writing.order.Goals as goal

pub returns-in_err-check_order-clause-state : goal.returns-in_err-check_order-clause-state
returns-in_err-check_order-clause-state c = state_kept _ _ c.in_err-check_order.ensures (is_some _)

pub returns-clause-state : goal.returns-clause-state
returns-clause-state c = state_written _ _ c.in_ok-check_order.ensures refl c.put_order.ensures

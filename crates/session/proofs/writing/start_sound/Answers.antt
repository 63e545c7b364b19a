-- `session::writing::start_sound` meets its contract: a refusal leaves the state, and else the transfer's registers are set.
use Rattle.std.proofs.Common.{refl}
use Rattle.refusal.proofs.AnswerLaws.{is_some}
use Rattle.session.proofs.WritingLaws.{state_kept, state_written}
use Rattle.session.proofs.writing.start_sound.Goals as goal

pub returns-in_err-check_start-clause-state : goal.returns-in_err-check_start-clause-state
returns-in_err-check_start-clause-state c = state_kept _ _ c.in_err-check_start.ensures (is_some _)

pub returns-clause-state : goal.returns-clause-state
returns-clause-state c = state_written _ _ c.in_ok-check_start.ensures refl c.put_start.ensures

-- `session::writing::start` meets its contract: a refusal by 12 and 13 leaves the state, and else the state has passed.
use Rattle.std.proofs.Common.{◌∙◌}
use Rattle.refusal.proofs.AnswerLaws.{is_some, handed_on}
use Rattle.session.proofs.WritingLaws.{start_early, state_kept}
use Rattle.session.proofs.writing.start.Goals as goal

pub returns-in_err-check_state-clause-answer : goal.returns-in_err-check_state-clause-answer
returns-in_err-check_state-clause-answer c =
    let a = c.args in
    handed_on _ _ c.from_residual.ensures ∙ start_early a.s.now a.circuit a.read a.write a.count a.kind c.in_err-check_state.ensures (is_some _)

pub returns-in_err-check_state-clause-state : goal.returns-in_err-check_state-clause-state
returns-in_err-check_state-clause-state c =
    let a = c.args in
    state_kept _ _ (start_early a.s.now a.circuit a.read a.write a.count a.kind c.in_err-check_state.ensures (is_some _)) (is_some _)

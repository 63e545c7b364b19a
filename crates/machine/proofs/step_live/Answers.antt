-- `machine::step_live` meets its contract: a fault is found before anything is written, and then words and masks stay; or the stages carry the cycle out.
use Rattle.refusal.proofs.AnswerLaws.{failed}
use Rattle.tables.proofs.PrepareLaws.{kept, changed}
use Rattle.machine.proofs.step_live.Goals as goal

pub returns-in_err-masks-clause-state : goal.returns-in_err-masks-clause-state
returns-in_err-masks-clause-state c = kept _ _ _ (failed _ c.from_residual.ensures.0)

pub returns-in_err-masks-clause-memory : goal.returns-in_err-masks-clause-memory
returns-in_err-masks-clause-memory c = kept _ _ _ (failed _ c.from_residual.ensures.0)

pub returns-clause-state : goal.returns-clause-state
returns-clause-state c = changed _ _ c.carry_out.ensures.state

pub returns-clause-memory : goal.returns-clause-memory
returns-clause-memory c = changed _ _ c.carry_out.ensures.memory

-- `routers::next_choice` meets its contract: a header's mark is 1, an empty register's 0, and any other word goes by the latch.
use native.Mathlib.Omega.{arith}
use Rattle.network.proofs.StageLaws.{output_for_small}
use Rattle.routers.proofs.HeadLaws.{choice_none, choice_own, choice_held}
use Rattle.routers.proofs.next_choice.Goals as goal

pub returns-in-0 : goal.returns-in-0
returns-in-0 c = choice_none _ _ _ _ _ c.row_reg.ensures (omega arith)

pub overflow_add-result : goal.overflow_add-result
overflow_add-result c = omega (arith, output_for_small _ _ _ c.output_for.ensures)

pub returns-in-1 : goal.returns-in-1
returns-in-1 c = choice_own _ _ _ _ _ c.row_reg.ensures _ _ c.row_reg-in-1.ensures c.output_for.ensures (omega arith)

pub returns-in_default : goal.returns-in_default
returns-in_default c = choice_held _ _ _ _ _ c.row_reg.ensures _ c.row_reg-in_default.ensures (λ e. omega (arith, e)) (λ e. omega (arith, e))

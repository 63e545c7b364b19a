-- `routers::step_head` meets its contract: an empty link register makes an empty header stage, and its latch stays, which so need not be
-- set; the rest is step_head_word.
use native.Mathlib.Omega.{arith}
use Rattle.routers.proofs.HeadLaws.{head_empty}
use Rattle.routers.proofs.step_head.Goals as goal

pub returns : goal.returns
returns c =
    head_empty _ _ _ _ c.row_reg-mark.ensures (omega arith) c.row_reg-word.ensures _ _ _ c.put_row_reg.ensures
    c.put_row_reg-2.ensures c.put_row_reg-3.ensures

-- `routers::step_head_word` meets its contract: all is read before the first register is set.
use Rattle.routers.proofs.HeadLaws.{head_is}
use Rattle.routers.proofs.step_head_word.Goals as goal

pub returns : goal.returns
returns c =
    head_is _ _ _ _ _ _ _ c.requires.0 c.row_reg.ensures c.next_head_word-word.ensures
    c.next_choice-choice.ensures c.next_latch-latch.ensures _ _ _ _ c.put_row_reg.ensures
    c.put_row_reg-2.ensures c.put_row_reg-3.ensures c.put_row_reg-4.ensures

-- `outputs::step_node_outs` meets its contract: the marks are set place by place, and behind them the words.
use native.Mathlib.Omega.{arith}
use Rattle.outputs.proofs.OutLaws.{copied_none, copied_more, outs_set}
use Rattle.outputs.proofs.step_node_outs.Goals as goal

pub loop-at-init : goal.loop-at-init
loop-at-init c = copied_none _ _ _ _

pub loop-at-preserved : goal.loop-at-preserved
loop-at-preserved c = copied_more _ _ _ _ (omega arith) c.requires.1 _ _ (omega arith) (omega arith) c.loop-at.invariant

pub loop-at-2-init : goal.loop-at-2-init
loop-at-2-init c = copied_none _ _ _ _

pub loop-at-2-preserved : goal.loop-at-2-preserved
loop-at-2-preserved c =
    copied_more _ _ _ _ (omega arith) (omega (arith, c.requires.1, c.loop-at.invariant.same_length)) _ _ (omega arith) (omega arith) c.loop-at-2.invariant

pub returns : goal.returns
returns c = outs_set _ _ _ _ _ _ _ _ (omega arith) (omega arith) c.requires.0 c.loop-at.invariant c.loop-at-2.invariant

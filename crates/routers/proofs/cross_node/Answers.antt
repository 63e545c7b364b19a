-- `routers::cross_node` meets its contract: five inputs one after the other; where none has a word, the tables stay as they are.
use native.Mathlib.Omega.{arith}
use Rattle.routers.proofs.InputLaws.{inputs_empty, inputs_none, inputs_more, inputs_few}
use Rattle.routers.proofs.cross_node.Goals as goal

pub returns-then-heads_joined-eq0 : goal.returns-then-heads_joined-eq0
returns-then-heads_joined-eq0 c = inputs_empty _ _ _ c.requires.2 c.requires.3 _ 5 (c.heads_joined.ensures c.if-heads_joined-eq0.true)

pub loop-input-init : goal.loop-input-init
loop-input-init c = inputs_none _ _ _ _

pub overflow_add-faults : goal.overflow_add-faults
overflow_add-faults c = omega (arith, inputs_few _ _ _ _ _ _ _ _ c.loop-input.invariant, c.cross_input-faults.ensures.one)

pub loop-input-preserved : goal.loop-input-preserved
loop-input-preserved c = inputs_more _ _ _ _ _ _ _ _ _ _ _ c.loop-input.invariant c.cross_input-faults.ensures

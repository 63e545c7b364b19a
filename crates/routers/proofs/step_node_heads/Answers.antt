-- `routers::step_node_heads` meets its contract: the header stages before `input` have been stepped.
use Rattle.routers.proofs.HeadLaws.{stepped_none, stepped_more}
use Rattle.routers.proofs.step_node_heads.Goals as goal

pub loop-input-init : goal.loop-input-init
loop-input-init c = stepped_none _ _

pub loop-input-preserved : goal.loop-input-preserved
loop-input-preserved c = stepped_more _ _ _ _ _ c.loop-input.invariant c.step_head.ensures

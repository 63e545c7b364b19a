-- `routers::heads_joined` meets its contract: words joined by or are 0 where each of them is, and those read are the five marks.
use native.Mathlib.Omega.{arith}
use Rattle.routers.proofs.InputLaws.{heads_none, heads_more}
use Rattle.routers.proofs.heads_joined.Goals as goal

pub loop-input-init : goal.loop-input-init
loop-input-init c = heads_none _ _

pub loop-input-preserved : goal.loop-input-preserved
loop-input-preserved c = heads_more _ _ _ _ c.loop-input.invariant

pub returns : goal.returns
returns c e i l = c.loop-input.invariant e i (omega (arith, c.loop-input-test.false))

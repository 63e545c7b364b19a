-- `routers::step_heads` meets its contract: each turn writes one place of the four rows, from registers that are not written yet.
use native.Mathlib.Omega.{arith}
use Rattle.routers.proofs.HeadLaws.{heads_more}
use Rattle.links.proofs.PairLaws.{filled}
use Rattle.routers.proofs.step_heads.Goals as goal

pub loop-k-preserved : goal.loop-k-preserved
loop-k-preserved c =
    heads_more _ _ _ (omega arith) c.requires.0 c.loop-k.invariant _ c.step_head.ensures

pub returns : goal.returns
returns c = filled _ _ _ _ _ _ _ c.requires.0 c.loop-k.invariant (omega arith) (omega arith)

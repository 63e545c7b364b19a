-- `routers::step_outs` meets its contract: each turn writes one place of the two rows, from the tables.
use native.Mathlib.Omega.{arith}
use Rattle.routers.proofs.OutLaws.{outs_more}
use Rattle.links.proofs.PairLaws.{filled}
use Rattle.routers.proofs.step_outs.Goals as goal

pub loop-k-preserved : goal.loop-k-preserved
loop-k-preserved c =
    outs_more _ _ _ _ _ (omega arith) c.requires.0 c.loop-k.invariant _ _ c.get-mark.ensures c.get-word.ensures _ _
    c.put_reg.ensures c.put_reg-in-loop-k.ensures

pub returns : goal.returns
returns c =
    filled _ _ _ _ _ _ _ c.requires.0 c.loop-k.invariant (omega arith)
    (omega arith)

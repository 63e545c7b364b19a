-- `sheet::served::mark_circuits` meets its contract: in the loop the circuits of the entries before `i` are marked too.
use native.Mathlib.Omega.{arith}
use Rattle.sheet.proofs.ServedLaws.{marking_start, marking_more, marking_done}
use Rattle.sheet.proofs.served.mark_circuits.Goals as goal

pub loop-i-init : goal.loop-i-init
loop-i-init c = marking_start _ _ c.requires.places

pub loop-i-preserved : goal.loop-i-preserved
loop-i-preserved c =
    marking_more _ _ _ _ c.loop-i.invariant (omega arith) _ c.at.ensures

pub returns : goal.returns
returns c = marking_done _ _ _ _ c.loop-i.invariant (omega arith)

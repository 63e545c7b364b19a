-- `sheet::served::mark_served` meets its contract: in the loop the circuits that the schedules before `j` serve are marked, in zeros at the start.
use mathlib.Core.Path.{◌∙◌, ap, ap₂}
use native.Mathlib.Omega.{arith}
use lib.ListN.{length}
use Rattle.sheet.specs.Inner.Served.{marked_by}
use Rattle.sheet.proofs.ServedLaws.{marks_start, marks_length, marks_more, markable}
use Rattle.sheet.proofs.served.mark_served.Goals as goal

pub loop-j-init : goal.loop-j-init
loop-j-init c = (c.schedules_of-j-end.ensures, c.requires.1 ∙ marks_start _)

pub mark_circuits-requires : goal.mark_circuits-requires
mark_circuits-requires c =
    markable _ c.requires.0 c.loop-j.j (omega arith) _ _ c.entries_of.ensures
    (ap length c.loop-j.invariant.1 ∙ marks_length _ _)

pub loop-j-preserved : goal.loop-j-preserved
loop-j-preserved c =
    let marked = c.mark_circuits.ensures ∙ ap₂ marked_by c.entries_of.ensures c.loop-j.invariant.1 in
    (c.loop-j.invariant.0, marked ∙ marks_more _ c.loop-j.j)

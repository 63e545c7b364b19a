-- `sheet::served::mark_served` meets its contract: in the loop the circuits that the schedules before `j` serve are marked.
use mathlib.Core.Path.{◌≡◌}
use Rattle.sheet.specs.Sheet.{schedules}
use Rattle.sheet.specs.Inner.Served.{marks_of}
use Rattle.sheet.proofs.served.mark_served.Given as goal

abbrev pub invariant-loop-j : goal.invariant-loop-j
invariant-loop-j l = (l.j-end ≡ schedules l.z) × (l.marks ≡ marks_of l.z l.j)

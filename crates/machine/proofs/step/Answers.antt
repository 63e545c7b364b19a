-- `machine::step` meets its contract: a quiet cycle has no fault and moves only the clock; any other is stepped with masks of where something is.
use Rattle.machine.proofs.QuietStep.{quiet_step}
use Rattle.machine.proofs.step.Goals as goal

pub returns-then-is_quiet : goal.returns-then-is_quiet
returns-then-is_quiet c = let each = quiet_step c.requires c.is_quiet.ensures c.if-is_quiet.true c.cross_quiet.ensures in record { number = each.0; state = each.1.0; memory = each.1.1 }

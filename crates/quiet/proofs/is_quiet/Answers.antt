-- `quiet::is_quiet` meets its contract: the next slot of a circuit with words left begins in this cycle, or not.
use native.Mathlib.Omega.{arith}
use mathlib.Core.Path.{◌∙◌}
use Rattle.words.specs.Tests.{◌<?◌}
use Rattle.quiet.proofs.CrossLaws.{cycle_few, quiet_by, quiet_not}
use Rattle.quiet.proofs.is_quiet.Goals as goal

pub overflow_add-cycle : goal.overflow_add-cycle
overflow_add-cycle c = omega (arith, cycle_few _ c.requires, c.reg-cycle.ensures)

pub returns-then-is_still : goal.returns-then-is_still
unfolding ◌<?◌
returns-then-is_still c = quiet_by _ c.is_still.ensures c.if-is_still.true c.reg-cycle.ensures c.next_opening.ensures

pub returns-else-is_still : goal.returns-else-is_still
returns-else-is_still c = c.if-is_still.false ∙ quiet_not _ c.is_still.ensures c.if-is_still.false

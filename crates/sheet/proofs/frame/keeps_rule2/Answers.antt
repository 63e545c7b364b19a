-- `sheet::frame::keeps_rule2` meets its contract. Number 2: the five tests.
use Rattle.std.proofs.Common.{arith}
use Rattle.words.specs.Tests.{◌and◌}
use Rattle.sheet.specs.Rules.{rule2}
use Rattle.sheet.proofs.frame.keeps_rule2.Goals as goal

pub returns-then-is_between-4 : goal.returns-then-is_between-4
unfolding rule2 ◌and◌
returns-then-is_between-4 c = grind arith

pub returns-else-is_between-4 : goal.returns-else-is_between-4
unfolding rule2 ◌and◌
returns-else-is_between-4 c = grind arith

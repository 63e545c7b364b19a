-- `sheet::circuits::Region::is_apart` meets its contract: the three tests.
use Rattle.std.proofs.Common.{arith}
use Rattle.std.proofs.lemmas.Bool.Decides.{nat_tests}
use Rattle.words.specs.Tests.{◌or◌, ◌≤?◌, ◌≠?◌}
use Rattle.sheet.specs.Rules.{apart}
use Rattle.sheet.proofs.circuits.Region.is_apart.Goals as goal

pub returns-then-self-other-2 : goal.returns-then-self-other-2
unfolding apart ◌or◌ ◌≤?◌ ◌≠?◌
returns-then-self-other-2 c = grind (arith, nat_tests)

pub returns-else-self-other-2 : goal.returns-else-self-other-2
unfolding apart ◌or◌ ◌≤?◌ ◌≠?◌
returns-else-self-other-2 c = grind (arith, nat_tests)

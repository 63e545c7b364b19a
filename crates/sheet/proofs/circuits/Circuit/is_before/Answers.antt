-- `sheet::circuits::Circuit::is_before` meets its contract: pairs are ordered as the rule has it.
use Rattle.std.proofs.Common.{arith}
use Rattle.std.proofs.lemmas.Bool.Decides.{nat_tests}
use Rattle.words.specs.Tests.{◌and◌, ◌or◌, ◌<?◌, ◌=?◌}
use Rattle.sheet.specs.Rules.{circuit_precedes, precedes}
use Rattle.sheet.proofs.circuits.Circuit.is_before.Goals as goal

pub returns : goal.returns
unfolding circuit_precedes precedes ◌and◌ ◌or◌ ◌<?◌ ◌=?◌
returns c = grind (arith, nat_tests)

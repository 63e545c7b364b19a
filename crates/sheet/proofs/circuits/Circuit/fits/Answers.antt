-- `sheet::circuits::Circuit::fits` meets its contract: the five tests.
use Rattle.std.proofs.Common.{arith}
use Rattle.std.proofs.lemmas.Bool.Decides.{nat_tests}
use Rattle.words.specs.Tests.{◌and◌, ◌<?◌, ◌≠?◌}
use Rattle.sheet.specs.Rules.{circuit_fits}
use Rattle.sheet.proofs.circuits.Circuit.fits.Goals as goal

pub returns-then-fits : goal.returns-then-fits
unfolding circuit_fits ◌and◌ ◌<?◌ ◌≠?◌
returns-then-fits c = grind (arith, nat_tests)

pub returns-else-fits : goal.returns-else-fits
unfolding circuit_fits ◌and◌ ◌<?◌ ◌≠?◌
returns-else-fits c = grind (arith, nat_tests)

-- `sheet::circuits::Region::fits` meets its contract: the two tests.
use Rattle.std.proofs.Common.{arith}
use Rattle.std.proofs.lemmas.Bool.Decides.{nat_tests}
use Rattle.words.specs.Tests.{◌and◌, ◌≤?◌}
use Rattle.sheet.specs.Rules.{region_fits}
use Rattle.sheet.proofs.circuits.Region.fits.Goals as goal

pub returns-then-self-ge1 : goal.returns-then-self-ge1
unfolding region_fits ◌and◌ ◌≤?◌
returns-then-self-ge1 c = grind (arith, nat_tests)

pub returns-else-self-ge1 : goal.returns-else-self-ge1
unfolding region_fits ◌and◌ ◌≤?◌
returns-else-self-ge1 c = grind (arith, nat_tests)

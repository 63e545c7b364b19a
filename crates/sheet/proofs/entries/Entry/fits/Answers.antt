-- `sheet::entries::Entry::fits` meets its contract: the four tests.
use Rattle.std.proofs.Common.{arith}
use Rattle.std.proofs.lemmas.Bool.Decides.{nat_tests}
use Rattle.words.specs.Tests.{◌and◌, ◌≤?◌, ◌<?◌}
use Rattle.sheet.specs.Rules.{entry_fits}
use Rattle.sheet.proofs.entries.Entry.fits.Goals as goal

pub returns-then-self-circuits : goal.returns-then-self-circuits
unfolding entry_fits ◌and◌ ◌≤?◌ ◌<?◌
returns-then-self-circuits c = grind (arith, nat_tests)

pub returns-else-self-circuits : goal.returns-else-self-circuits
unfolding entry_fits ◌and◌ ◌≤?◌ ◌<?◌
returns-else-self-circuits c = grind (arith, nat_tests)

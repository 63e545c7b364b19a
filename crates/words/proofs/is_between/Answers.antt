-- `words::is_between` meets its contract: the range's two tests.
use Rattle.std.proofs.Common.{arith}
use Rattle.std.proofs.lemmas.Bool.Decides.{nat_tests}
use Rattle.words.specs.Tests.{between, ◌≤?◌, ◌and◌}
use Rattle.words.proofs.is_between.Goals as goal

pub returns : goal.returns
unfolding between ◌≤?◌ ◌and◌
returns c = grind (arith, nat_tests)

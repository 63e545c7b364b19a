-- `torus::is_vertical` meets its contract: north is side 0 and south side 2.
use Rattle.std.proofs.Common.{arith}
use Rattle.std.proofs.lemmas.Bool.Decides.{nat_tests}
use Rattle.words.specs.Tests.{◌=?◌, ◌or◌}
use Rattle.torus.specs.Torus.{is_vertical}
use Rattle.torus.proofs.is_vertical.Goals as goal

pub returns-in-0 : goal.returns-in-0
unfolding is_vertical ◌=?◌ ◌or◌
returns-in-0 c = grind (arith, nat_tests)

pub returns-in_default : goal.returns-in_default
unfolding is_vertical ◌=?◌ ◌or◌
returns-in_default c = grind (arith, nat_tests)

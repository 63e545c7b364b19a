-- `sheet::frame::keeps_rule1` meets its contract. Number 1: the comparison is the definition's.
use mathlib.Core.Path.{refl}
use Rattle.words.specs.Tests.{◌≤?◌}
use Rattle.sheet.specs.Rules.{rule1}
use Rattle.sheet.proofs.frame.keeps_rule1.Goals as goal

pub returns : goal.returns
unfolding rule1 ◌≤?◌
returns c = refl

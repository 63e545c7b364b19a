-- `routers::unheld` meets its contract: a test is 1 where it holds, else 0.
use mathlib.Core.Path.{◌∙◌, ap}
use Rattle.words.specs.Tests.{◌≤?◌, ◌=?◌}
use Rattle.words.specs.Words.{pick}
use Rattle.network.proofs.ChoiceLaws.{byte_picked}
use Rattle.routers.proofs.PlaceLaws.{both_and}
use Rattle.routers.proofs.unheld.Goals as goal

pub returns : goal.returns
unfolding ◌≤?◌ ◌=?◌
returns c = c.from.ensures ∙ byte_picked _ ∙ ap (λ t. pick t 1 0) (both_and _ _)

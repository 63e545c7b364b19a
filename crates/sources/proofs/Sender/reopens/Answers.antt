-- `sources::Sender::reopens` meets its contract: the mark's test comes first, as in the definition.
use mathlib.Core.Path.{◌∙◌}
use borrow.Author.Tests.{ne_eqb}
use Rattle.words.specs.Tests.{◌≤?◌}
use Rattle.sources.proofs.WireLaws.{reopens_yes, reopens_no}
use Rattle.sources.proofs.Sender.reopens.Goals as goal

pub returns-then-mark-eq1 : goal.returns-then-mark-eq1
unfolding ◌≤?◌
returns-then-mark-eq1 c = reopens_yes _ _ _ c.requires c.if-mark-eq1.true _ c.reg.ensures

pub returns-else-mark-eq1 : goal.returns-else-mark-eq1
returns-else-mark-eq1 c = ne_eqb _ _ c.if-mark-eq1.false ∙ reopens_no _ _ _ c.requires c.if-mark-eq1.false

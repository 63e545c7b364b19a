-- `quiet::openings::is_live` meets its contract: an entry is live where it does not begin earlier and its circuit has words left.
use mathlib.Core.Path.{◌∙◌}
use borrow.Author.Tests.{lt-leb}
use Rattle.words.specs.Tests.{◌≤?◌}
use Rattle.quiet.proofs.OpeningLaws.{live_no, live_rest}
use Rattle.quiet.proofs.openings.is_live.Goals as goal

pub returns-then-cycle-entry : goal.returns-then-cycle-entry
unfolding ◌≤?◌
returns-then-cycle-entry c = live_rest _ c.args.entry.offset _ c.reg.ensures c.if-cycle-entry.true

pub returns-else-cycle-entry : goal.returns-else-cycle-entry
returns-else-cycle-entry c = lt-leb _ _ c.if-cycle-entry.false ∙ live_no _ _ _ c.if-cycle-entry.false

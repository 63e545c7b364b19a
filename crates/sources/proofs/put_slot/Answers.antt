-- `sources::put_slot` meets its contract: an entry that begins in the cycle is put at its circuit, any other leaves the table.
use mathlib.Core.Path.{◌∙◌}
use Rattle.sources.proofs.BeginLaws.{put_begins, put_not}
use Rattle.sources.proofs.put_slot.Goals as goal

pub returns-then-entry-cycle : goal.returns-then-entry-cycle
returns-then-entry-cycle c = c.put.ensures ∙ put_begins _ _ _ _ c.if-entry-cycle.true

pub returns-else-entry-cycle : goal.returns-else-entry-cycle
returns-else-entry-cycle c = put_not _ _ _ _ c.if-entry-cycle.false

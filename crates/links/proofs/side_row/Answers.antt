-- `links::side_row` meets its contract: the given row for a vertical side, else the outputs'.
use mathlib.Core.Path.{sym, ◌∙◌}
use Rattle.links.proofs.LinkLaws.{row_vertical, row_level}
use Rattle.links.proofs.side_row.Goals as goal

pub returns-then-is_vertical : goal.returns-then-is_vertical
returns-then-is_vertical c = row_vertical _ _ (sym c.is_vertical.ensures ∙ c.if-is_vertical.true)

pub returns-else-is_vertical : goal.returns-else-is_vertical
returns-else-is_vertical c = row_level _ _ (sym c.is_vertical.ensures ∙ c.if-is_vertical.false)

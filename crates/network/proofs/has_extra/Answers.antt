-- `network::has_extra` meets its contract: a vertical side of a grid whose vertical links are long.
use mathlib.Core.Path.{sym, ◌∙◌}
use Rattle.network.proofs.ExtraLaws.{extra_long, extra_short}
use Rattle.network.proofs.has_extra.Goals as goal

pub returns-then-is_long : goal.returns-then-is_long
returns-then-is_long c = c.is_vertical.ensures ∙ sym (extra_long _ _ (sym c.is_long.ensures ∙ c.if-is_long.true))

pub returns-else-is_long : goal.returns-else-is_long
returns-else-is_long c = c.if-is_long.false ∙ sym (extra_short _ _ (sym c.is_long.ensures ∙ c.if-is_long.false))

-- `torus::link_cycles` meets its contract: one cycle by a vertical side of a long grid, none by another.
use Rattle.std.proofs.Common.{◌∙◌}
use Rattle.words.proofs.TestLaws.{and_on, and_no}
use Rattle.torus.proofs.RouteLaws.{link_told}
use Rattle.torus.proofs.link_cycles.Goals as goal
use Rattle.torus.proofs.link_cycles.Goals.{then-long, else-long}

pub returns : goal.returns
returns c =
    elim c.if-long.branch [
      | then-long w ↦ c.from.ensures ∙ link_told _ _ _ (and_on w.if-long.true (w.from-is ∙ w.is_vertical.ensures))
      | else-long w ↦ c.from.ensures ∙ link_told _ _ _ (w.from-is ∙ w.if-long.false ∙ and_no _ w.if-long.false)
    ]

-- `quiet::is_still` meets its contract: a link register that is not empty is one of the routers' words; else the words joined tell.
use mathlib.Core.Path.{sym, ◌∙◌}
use borrow.Author.Tests.{eqb-true, eq-eqb}
use mathlib.Core.Bool.{false≢true}
use Rattle.words.specs.Tests.{◌=?◌}
use Rattle.quiet.proofs.StillLaws.{still_linked, still_routed, still_rest}
use Rattle.quiet.proofs.CrossLaws.{own_places, own_circuits}
use Rattle.quiet.proofs.is_still.Goals as goal
use Rattle.quiet.proofs.is_still.Goals.{then-row_joined-eq0, else-row_joined-eq0}

pub returns-then-routers_joined-eq0 : goal.returns-then-routers_joined-eq0
unfolding ◌=?◌
returns-then-routers_joined-eq0 c =
    elim c.if-row_joined-eq0.branch [
      | then-row_joined-eq0 w ↦
          still_rest _ (own_places _ c.sheet_of-z.ensures c.nodes_of-places.ensures.0) w.routers_joined.result _ _ w.routers_joined.ensures
          (eqb-true _ _ (sym w.value-is ∙ c.if-routers_joined-eq0.true)) (own_circuits _ c.sheet_of-z.ensures c.circuits_of.ensures)
          c.row_joined-then-routers_joined-eq0.ensures
      | else-row_joined-eq0 w ↦ absurd (w.if-row_joined-eq0.false (eqb-true _ _ (sym w.value-is ∙ c.if-routers_joined-eq0.true)))
    ]

pub returns-else-routers_joined-eq0 : goal.returns-else-routers_joined-eq0
unfolding ◌=?◌
returns-else-routers_joined-eq0 c =
    elim c.if-row_joined-eq0.branch [
      | then-row_joined-eq0 w ↦
          c.if-routers_joined-eq0.false
          ∙ still_routed _ (own_places _ c.sheet_of-z.ensures c.nodes_of-places.ensures.0) _ w.routers_joined.ensures
          (λ z. false≢true (sym c.if-routers_joined-eq0.false ∙ w.value-is ∙ eq-eqb _ _ z))
      | else-row_joined-eq0 w ↦
          c.if-routers_joined-eq0.false
          ∙ still_linked _ (own_places _ c.sheet_of-z.ensures c.nodes_of-places.ensures.0) _ c.row_joined.ensures w.if-row_joined-eq0.false
    ]

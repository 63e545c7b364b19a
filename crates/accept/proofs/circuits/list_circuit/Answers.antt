-- `accept::circuits::list_circuit` meets its contract: it puts k where the node's list begins, if it has none yet, and k + 1 where it ends.
use mathlib.Core.Path.{refl, ◌∙◌}
use Rattle.accept.proofs.ArrangedLaws.{pick_first, pick_second}
use Rattle.accept.proofs.circuits.list_circuit.Goals as goal
use Rattle.accept.proofs.circuits.list_circuit.Goals.{then-to-node-eq0, else-to-node-eq0}

pub returns : goal.returns
returns c = record {
  from = elim c.if-to-node-eq0.branch [
    | then-to-node-eq0 w ↦ w.from-is ∙ pick_first _ _ _ w.if-to-node-eq0.true
    | else-to-node-eq0 w ↦ w.from-is ∙ pick_second _ _ _ w.if-to-node-eq0.false
  ];
  to = refl;
}

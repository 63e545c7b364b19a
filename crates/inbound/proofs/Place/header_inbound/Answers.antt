-- `inbound::Place::header_inbound` meets its contract: the four registers are tested in turn, and the first that has such a header decides.
use mathlib.Core.Path.{refl}
use Rattle.inbound.proofs.HeaderLaws.{or_holds, or_rest, header_four}
use Rattle.inbound.proofs.Place.header_inbound.Goals.{then-link_inbound, else-link_inbound, then-head_inbound, else-head_inbound}
use Rattle.inbound.proofs.Place.header_inbound.Goals as goal

pub returns-then-out_inbound : goal.returns-then-out_inbound
returns-then-out_inbound c =
    let place = c.args.self.now in
    header_four place.s.now c.args.region place.k
    (elim c.if-link_inbound.branch [
      | then-link_inbound w ↦ or_holds _ w.value-is c.link_inbound.ensures w.if-link_inbound.true
      | else-link_inbound w ↦ or_rest w.value-is c.link_inbound.ensures w.if-link_inbound.false w.head_inbound.ensures
    ])
    (elim c.if-head_inbound.branch [
      | then-head_inbound w ↦ or_holds _ w.value-is refl w.if-head_inbound.true
      | else-head_inbound w ↦ or_rest w.value-is refl w.if-head_inbound.false w.out_inbound.ensures
    ])
    (or_holds _ refl refl c.if-out_inbound.true)

pub returns-else-out_inbound : goal.returns-else-out_inbound
returns-else-out_inbound c =
    let place = c.args.self.now in
    header_four place.s.now c.args.region place.k
    (elim c.if-link_inbound.branch [
      | then-link_inbound w ↦ or_holds _ w.value-is c.link_inbound.ensures w.if-link_inbound.true
      | else-link_inbound w ↦ or_rest w.value-is c.link_inbound.ensures w.if-link_inbound.false w.head_inbound.ensures
    ])
    (elim c.if-head_inbound.branch [
      | then-head_inbound w ↦ or_holds _ w.value-is refl w.if-head_inbound.true
      | else-head_inbound w ↦ or_rest w.value-is refl w.if-head_inbound.false w.out_inbound.ensures
    ])
    (or_rest refl refl c.if-out_inbound.false c.extra_inbound.ensures)

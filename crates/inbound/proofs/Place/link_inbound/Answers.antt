-- `inbound::Place::link_inbound` meets its contract: the mark is tested first, and then where the header comes by its first code's output.
use native.Mathlib.Omega.{arith}
use Rattle.network.specs.Inbound.{link_inbound}
use Rattle.network.proofs.StageLaws.{output_for_small}
use Rattle.inbound.proofs.RegionLaws.{mark_other}
use Rattle.inbound.proofs.HeaderLaws.{link_by}
use Rattle.inbound.proofs.Place.link_inbound.Goals as goal

pub returns-then-reg-ne1 : goal.returns-then-reg-ne1
unfolding link_inbound
returns-then-reg-ne1 c = mark_other c.reg.ensures _ (λ e. omega (arith, e))

pub comes_into-requires : goal.comes_into-requires
comes_into-requires c = omega (arith, output_for_small _ _ _ c.output_for-output.ensures)

pub returns : goal.returns
returns c =
    let place = c.args.self.now in
    link_by place.s.now c.args.region place.k c.reg.ensures (omega arith) place.own c.reg-word.ensures
    c.output_for-output.ensures c.shifted.ensures c.comes_into.ensures

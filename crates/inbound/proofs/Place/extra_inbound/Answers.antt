-- `inbound::Place::extra_inbound` meets its contract: the mark is tested first, then whether the output's link has the register, and then
-- where the header comes. Assumes nothing.
use native.Mathlib.Omega.{arith}
use Rattle.network.specs.Inbound.{extra_inbound}
use Rattle.inbound.proofs.RegionLaws.{mark_other}
use Rattle.inbound.proofs.HeaderLaws.{extra_none, extra_by}
use Rattle.inbound.proofs.Place.extra_inbound.Goals as goal

pub returns-then-reg-ne1 : goal.returns-then-reg-ne1
unfolding extra_inbound
returns-then-reg-ne1 c = mark_other c.reg.ensures _ (λ e. omega (arith, e))

pub returns-then-has_extra : goal.returns-then-has_extra
returns-then-has_extra c =
    let place = c.args.self.now in
    extra_by place.s.now c.args.region place.k place.own c.has_extra.ensures c.reg.ensures (omega arith)
    c.if-has_extra.true c.reg-then-has_extra.ensures c.comes_into.ensures

pub returns-else-has_extra : goal.returns-else-has_extra
returns-else-has_extra c =
    let place = c.args.self.now in
    extra_none place.s.now c.args.region place.k place.own c.has_extra.ensures c.if-has_extra.false

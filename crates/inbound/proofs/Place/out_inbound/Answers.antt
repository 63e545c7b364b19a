-- `inbound::Place::out_inbound` meets its contract: the mark is tested first, and then where the header comes.
use native.Mathlib.Omega.{arith}
use Rattle.network.specs.Inbound.{out_inbound}
use Rattle.inbound.proofs.RegionLaws.{mark_other}
use Rattle.inbound.proofs.HeaderLaws.{out_by}
use Rattle.inbound.proofs.Place.out_inbound.Goals as goal

pub returns-then-reg-ne1 : goal.returns-then-reg-ne1
unfolding out_inbound
returns-then-reg-ne1 c = mark_other c.reg.ensures _ (λ e. omega (arith, e))

pub returns : goal.returns
returns c =
    let place = c.args.self.now in
    out_by place.s.now c.args.region place.k c.reg.ensures (omega arith) place.own c.reg-2.ensures c.comes_into.ensures

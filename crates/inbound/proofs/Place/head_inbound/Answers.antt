-- `inbound::Place::head_inbound` meets its contract: the mark and the choice are tested first, and then where the header comes by the
-- choice's output. Assumes nothing.
use mathlib.Core.Path.{◌∙◌}
use native.Mathlib.Omega.{arith}
use Rattle.std.proofs.Common.{rules}
use Rattle.network.specs.Inbound.{head_inbound}
use Rattle.inbound.proofs.RegionLaws.{mark_other}
use Rattle.inbound.proofs.HeaderLaws.{head_unchosen, head_by}
use Rattle.inbound.proofs.Place.head_inbound.Goals as goal

pub returns-then-reg-ne1 : goal.returns-then-reg-ne1
unfolding head_inbound
returns-then-reg-ne1 c = mark_other c.reg.ensures _ (λ e. omega (arith, e))

pub returns-then-contains : goal.returns-then-contains
returns-then-contains c =
    let place = c.args.self.now in
    head_by place.s.now c.args.region place.k c.reg.ensures (omega arith) place.own c.reg-choice.ensures (search rules)
    (search rules) (omega arith) c.reg-then-contains.ensures c.comes_into.ensures

pub returns-else-contains : goal.returns-else-contains
returns-else-contains c =
    let place = c.args.self.now in
    c.if-contains.false ∙ head_unchosen place.s.now c.args.region place.k c.reg-choice.ensures (λ e. search rules)

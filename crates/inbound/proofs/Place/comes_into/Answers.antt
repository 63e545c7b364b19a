-- `inbound::Place::comes_into` meets its contract: where the address is one of the region, the node to which the header comes decides.
use Rattle.inbound.proofs.HeaderLaws.{comes_elsewhere, comes_by, stands_at}
use Rattle.inbound.proofs.Place.comes_into.Goals as goal

pub returns-then-in_region : goal.returns-then-in_region
returns-then-in_region c =
    let a = c.args in
    comes_by a.self.z.now a.region _ a.output a.word c.address.ensures c.in_region.ensures c.if-in_region.true
    (stands_at _ _ c.bound_for.ensures c.eq.ensures)

pub returns-else-in_region : goal.returns-else-in_region
returns-else-in_region c =
    let a = c.args in
    comes_elsewhere a.self.z.now a.region _ a.output a.word c.address.ensures c.in_region.ensures c.if-in_region.false

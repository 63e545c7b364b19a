-- `inbound::in_region` meets its contract: the beginning is tested first, and then the end, which in 64 bits is the definition's sum.
use native.Mathlib.Omega.{arith}
use Rattle.words.specs.Tests.{◌≤?◌, ◌<?◌}
use Rattle.inbound.proofs.RegionLaws.{before_region, ends_region}
use Rattle.inbound.proofs.in_region.Goals as goal

pub returns-then-region-address : goal.returns-then-region-address
unfolding ◌<?◌
returns-then-region-address c =
    let a = c.args in
    ends_region a.region a.address (omega arith) (omega arith) (omega arith)

pub returns-else-region-address : goal.returns-else-region-address
unfolding ◌≤?◌
returns-else-region-address c =
    let a = c.args in
    before_region a.region a.address (omega arith)

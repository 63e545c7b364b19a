-- `inbound::is_arriving` meets its contract: the mark is tested first, and then the address.
use native.Mathlib.Omega.{arith}
use mathlib.Core.Path.{◌∙◌, ap}
use Rattle.words.specs.Tests.{◌=?◌}
use Rattle.network.specs.Inbound.{in_region, is_arriving}
use Rattle.inbound.proofs.RegionLaws.{mark_fails, mark_one}
use Rattle.inbound.proofs.is_arriving.Goals as goal

pub returns-then-reg-eq-ARRIVING : goal.returns-then-reg-eq-ARRIVING
unfolding is_arriving
returns-then-reg-eq-ARRIVING c =
    mark_one c.reg.ensures (omega arith)
    (c.in_region.ensures ∙ ap (in_region c.args.region) c.reg-then-reg-eq-ARRIVING.ensures)

pub returns-else-reg-eq-ARRIVING : goal.returns-else-reg-eq-ARRIVING
unfolding is_arriving ◌=?◌
returns-else-reg-eq-ARRIVING c = mark_fails c.reg.ensures _ (λ e. omega (arith, e))

-- `routes::Routes::entry_leads` meets its contract. Number 9 at one entry: the path has the end, the hops and the long links of the route.
use mathlib.Core.Path.{◌∙◌}
use native.Mathlib.Omega.{arith}
use Rattle.words.specs.Tests.{◌≤?◌, ◌=?◌}
use Rattle.words.proofs.TestLaws.{no=}
use Rattle.routes.proofs.RouteRules.{span_read, not_leading, elsewhere, arriving, cycles_few}
use Rattle.routes.proofs.Routes.entry_leads.Goals as goal

pub returns-in_default : goal.returns-in_default
returns-in_default c =
    not_leading _ _ _ c.at-circuit.ensures _ c.path_from.ensures c.requires c.in_default.is

pub overflow_mul-result : goal.overflow_mul-result
overflow_mul-result c =
    omega (arith, cycles_few _ _ _ c.at-circuit.ensures _ c.path_from.ensures c.requires _ c.in-Some.is)

pub overflow_add-result : goal.overflow_add-result
overflow_add-result c =
    omega (arith, cycles_few _ _ _ c.at-circuit.ensures _ c.path_from.ensures c.requires _ c.in-Some.is)

pub returns-then-path-circuit : goal.returns-then-path-circuit
unfolding ◌≤?◌
returns-then-path-circuit c =
    arriving _ _ _ c.at-circuit.ensures _ c.path_from.ensures c.requires _ c.in-Some.is c.if-path-circuit.true _
    (span_read _ _ c.requires _ c.args.self.own_spans _ c.get-span.ensures)

pub returns-else-path-circuit : goal.returns-else-path-circuit
unfolding ◌=?◌
returns-else-path-circuit c =
    no= c.if-path-circuit.false
    ∙ elsewhere _ _ _ c.at-circuit.ensures _ c.path_from.ensures c.requires _ c.in-Some.is c.if-path-circuit.false

-- `routes::Routes::entry_ends` meets its contract: Number 10 at one entry: the hops of a route that leads to the destination take its circuit's span.
use native.Mathlib.Omega.{arith}
use Rattle.words.specs.Tests.{◌≤?◌}
use Rattle.routes.proofs.RouteRules.{span_read, span_few, ending}
use Rattle.routes.proofs.Routes.entry_ends.Goals as goal

pub overflow_add-result-2 : goal.overflow_add-result-2
overflow_add-result-2 c =
    omega (
      arith,
      span_few _ _ c.requires.0.joined _ (span_read _ _ c.requires.0.joined _ c.args.self.own_spans _ c.get-span.ensures),
    )

pub returns : goal.returns
unfolding ◌≤?◌
returns c =
    ending _ _ c.requires.0.joined _ (span_read _ _ c.requires.0.joined _ c.args.self.own_spans _ c.get-span.ensures) c.requires.1 c.args.period

-- `network::output_for` meets its contract: a route's first code is below 4, and the output is the torus's for it.
use mathlib.Core.Path.{◌∙◌, ap}
use Rattle.packet.specs.Header.{first_code}
use Rattle.torus.specs.Route.{output_of}
use Rattle.network.specs.Cycle.{output_for}
use Rattle.network.proofs.output_for.Goals as goal

pub returns : goal.returns
unfolding output_for
returns c = c.output_of.ensures ∙ ap (λ route. output_of c.args.input (first_code route)) c.route.ensures

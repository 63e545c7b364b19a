-- `routes::circuit_span` meets its contract: both nodes of a circuit are in the grid, and their span is the circuit's.
use Rattle.routes.proofs.RouteRules.{nodes_inside, span_told}
use Rattle.routes.proofs.circuit_span.Goals as goal

pub span-requires : goal.span-requires
span-requires c =
    let s = c.args.circuits in
    let both =
    nodes_inside _ s.frame.framed s.fit _ c.requires _ c.at-circuit.ensures _ _ c.grid.ensures.cols c.grid.ensures.rows in
    (both.0.inside, both.1.inside)

pub returns : goal.returns
returns c =
    span_told _ _ _ c.at-circuit.ensures _ _ _ _ c.grid.ensures.cols c.grid.ensures.rows c.is_long.ensures c.span.ensures

-- `routes::circuit_spans` meets its contract: each turn reads the next circuit's span, and the others stay 0.
use native.Mathlib.Omega.{arith}
use Rattle.routes.proofs.RouteRules.{reading_start, reading_more, spans_done}
use Rattle.routes.proofs.circuit_spans.Goals as goal

pub loop-k-init : goal.loop-k-init
loop-k-init c = reading_start _

pub loop-k-preserved : goal.loop-k-preserved
loop-k-preserved c =
    let few = c.circuits_of-k-end.ensures in
    reading_more _ c.loop-k.k _ c.loop-k.invariant (omega arith) (omega (arith, c.args.circuits.frame.framed.headed.circuits_high)) _ c.circuit_span.ensures

pub returns : goal.returns
returns c = spans_done _ c.loop-k.k _ c.loop-k.invariant (omega (arith, c.circuits_of-k-end.ensures))

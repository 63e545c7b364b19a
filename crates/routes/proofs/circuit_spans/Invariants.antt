-- `routes::circuit_spans` meets its contract: each turn reads the next circuit's span, and the others stay 0.
use Rattle.routes.proofs.RouteRules.{Reading}
use Rattle.routes.proofs.circuit_spans.Given as goal

abbrev pub invariant-loop-k : goal.invariant-loop-k
invariant-loop-k l = Reading l.circuits.frame.words.now l.k l.spans

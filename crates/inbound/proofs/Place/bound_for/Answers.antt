-- `inbound::Place::bound_for` meets its contract: where the header comes from here is always where it came from the start.
use native.Mathlib.Omega.{arith}
use Rattle.inbound.proofs.WalkLaws.{walked_memory, walked_none, walked_on}
use Rattle.inbound.proofs.Place.bound_for.Goals as goal

pub returns-then-by-eq-MEMORY_OUTPUT : goal.returns-then-by-eq-MEMORY_OUTPUT
returns-then-by-eq-MEMORY_OUTPUT c = walked_memory c.loop.invariant (omega arith)

pub loop-preserved : goal.loop-preserved
loop-preserved c =
    walked_on c.loop.invariant (λ e. omega (arith, e)) (omega arith) c.neighbour-at.ensures (omega arith)
    c.output_for-by.ensures c.shifted-header.ensures

pub returns-then-by-eq-MEMORY_OUTPUT-2 : goal.returns-then-by-eq-MEMORY_OUTPUT-2
returns-then-by-eq-MEMORY_OUTPUT-2 c = walked_memory c.loop.invariant (omega arith)

pub returns-else-by-eq-MEMORY_OUTPUT-2 : goal.returns-else-by-eq-MEMORY_OUTPUT-2
returns-else-by-eq-MEMORY_OUTPUT-2 c = walked_none c.loop.invariant (λ e. omega (arith, e)) (omega arith)

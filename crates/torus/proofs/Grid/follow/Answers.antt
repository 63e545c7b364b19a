-- `torus::Grid::follow` meets its contract: what is written so far, with what the rest of the route leads to, is always the answer.
-- Assumes nothing.
use native.Mathlib.Nat.{mod-lt}
use native.Mathlib.Omega.{arith}
use Rattle.torus.proofs.GridLaws.{node_of}
use Rattle.torus.proofs.NeighbourLaws.{bounds}
use Rattle.torus.proofs.RouteLaws.{going_start, going_out, going_lost, going_on, going_end, output_small, link_high}
use Rattle.torus.proofs.Grid.follow.Goals as goal

pub loop-hops-init : goal.loop-hops-init
loop-hops-init g c = going_start _ _ _ _ _ (node_of c.args.self c.requires)

pub returns-then-rest-ne0 : goal.returns-then-rest-ne0
returns-then-rest-ne0 g c =
    going_lost c.loop-hops.invariant c.loop-hops-test.true c.output_of-output.ensures
    c.if-output-eq-MEMORY_OUTPUT.true (λ e. omega arith)

pub returns-then-output-eq-MEMORY_OUTPUT : goal.returns-then-output-eq-MEMORY_OUTPUT
returns-then-output-eq-MEMORY_OUTPUT g c =
    going_out c.loop-hops.invariant c.loop-hops-test.true c.output_of-output.ensures
    c.if-output-eq-MEMORY_OUTPUT.true (omega arith)

pub overflow_add-wires-in-loop-hops : goal.overflow_add-wires-in-loop-hops
overflow_add-wires-in-loop-hops g c =
    let b = bounds c.loop-hops.invariant.here in
    omega (arith, output_small _ _ _ c.output_of-output.ensures (mod-lt _ (omega arith)))

pub overflow_add-entry : goal.overflow_add-entry
overflow_add-entry g c = omega (arith, output_small _ _ _ c.output_of-output.ensures (mod-lt _ (omega arith)))

pub overflow_add-delay : goal.overflow_add-delay
overflow_add-delay g c = omega (arith, link_high _ _ _ c.link_cycles-link.ensures)

pub overflow_add-delay-in-loop-hops : goal.overflow_add-delay-in-loop-hops
overflow_add-delay-in-loop-hops g c = omega (arith, link_high _ _ _ c.link_cycles-link.ensures)

pub overflow_add-vertical : goal.overflow_add-vertical
overflow_add-vertical g c = omega (arith, link_high _ _ _ c.link_cycles-link.ensures)

pub loop-hops-preserved : goal.loop-hops-preserved
loop-hops-preserved g c =
    going_on c.loop-hops.invariant c.loop-hops-test.true c.output_of-output.ensures
    c.if-output-eq-MEMORY_OUTPUT.false c.neighbour-node.ensures (omega arith) c.link_cycles-link.ensures

pub returns : goal.returns
returns g c = going_end c.loop-hops.invariant c.loop-hops-test.false

-- `routers::cross_among` meets its contract: in the loop the tables have the first mark and word of each output among the inputs of the nodes before `node`,
-- and `faults` is not 0 where two of those inputs ask for one output or one of them has a payload word without a choice. The nodes that are
-- passed over have no word in their header stages, and change neither. A state that is too short for its rows has no nodes.
use Prim.Native.Nat.{◌<◌}
use native.Mathlib.Omega.{arith}
use Rattle.occupancy.proofs.WalkLaws.{begun}
use Rattle.words.specs.Tests.{◌≤?◌}
use Rattle.routers.proofs.InputLaws.{inputs_few}
use Rattle.routers.proofs.CrossLaws.{crossing_first, crossing_inside, crossing_turn, crossing_done, crossed_met, crossed_marks, crossed_cells, short_calm, short_marks, short_cells}
use Rattle.routers.proofs.cross_among.Goals.{In-Some}
use Rattle.routers.proofs.cross_among.Goals as goal

pub returns-then-s-lt-MOVING_WORDS : goal.returns-then-s-lt-MOVING_WORDS
returns-then-s-lt-MOVING_WORDS c = record { fault = short_calm _ c.if-s-lt-MOVING_WORDS.true; marks = short_marks _ c.if-s-lt-MOVING_WORDS.true c.requires.2; cells = short_cells _ c.if-s-lt-MOVING_WORDS.true c.requires.3 }

pub loop-node-init : goal.loop-node-init
loop-node-init c =
    let first = c.places-node-items.ensures in
    crossing_first _ _ _ c.requires.0 c.requires.1 c.requires.4 _ _ _
    (begun _ _ _ _ c.into_iter-node-iterator.ensures.into_iter_gives first.mask first.from first.end) c.requires.2 c.requires.3

few : (c : In-Some) → c.in-Some.node < 16
few c = crossing_inside _ _ _ c.requires.0 c.requires.1 c.requires.4 _ _ _ _ c.loop-node.invariant c.next.new.self _ c.in-Some.ensures.steps

pub overflow_add-faults : goal.overflow_add-faults
overflow_add-faults c =
    omega (arith, inputs_few _ _ _ _ 5 _ _ _ c.cross_node-faults.ensures, c.loop-node.invariant.so_far.few, c.loop-node.invariant.so_far.inside)

pub loop-node-preserved : goal.loop-node-preserved
loop-node-preserved c =
    crossing_turn _ _ _ c.requires.0 c.requires.1 c.requires.4 _ _ _ _ c.loop-node.invariant c.next.new.self _ c.in-Some.ensures.steps _ _ _
    c.cross_node-faults.ensures

pub returns : goal.returns
unfolding ◌≤?◌
returns c =
    let own = c.requires.0 in
    let met = crossing_done _ _ _ own c.requires.1 c.requires.4 _ _ _ _ c.loop-node.invariant c.next.new.self c.in-None.ensures.steps in
    record { fault = crossed_met _ _ _ _ _ own met; marks = crossed_marks _ _ _ _ _ own met; cells = crossed_cells _ _ _ _ _ own met }

-- `receivers::receiving::step_receivers_among` meets its contract: in the loop the nodes that the walk has left behind have their rows and memories as after
-- the cycle, and the others as they were when the landings had been cleared, which is what the cycle leaves at the nodes that are passed.
use Rattle.receivers.proofs.RoundLaws.{round_fits, round_more, round_rows, round_memory}
use Rattle.receivers.proofs.receiving.step_receivers_among.Goals as goal

pub step_receiver-requires : goal.step_receiver-requires
step_receiver-requires c =
    round_fits _ _ _ _ _ c.requires.0 c.requires.1 c.clear_landings.ensures _ _ _ c.loop-node.invariant c.next.new.self _ c.in-Some.ensures.steps

pub loop-node-preserved : goal.loop-node-preserved
loop-node-preserved c =
    round_more _ _ _ _ _ c.requires.0 c.requires.1 c.clear_landings.ensures _ _ _ c.loop-node.invariant c.next.new.self _ c.in-Some.ensures.steps _ _
    c.step_receiver.ensures.state c.step_receiver.ensures.memory

pub returns : goal.returns
returns c = record {
  state = round_rows _ _ _ _ _ c.requires.0 c.requires.1 c.clear_landings.ensures _ _ _ c.loop-node.invariant c.next.new.self c.in-None.ensures.steps;
  memory = round_memory _ _ _ _ _ c.requires.0 c.requires.1 c.clear_landings.ensures _ _ _ c.loop-node.invariant c.next.new.self c.in-None.ensures.steps;
}

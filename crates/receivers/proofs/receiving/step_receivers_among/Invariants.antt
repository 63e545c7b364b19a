-- `receivers::receiving::step_receivers_among` meets its contract: in the loop the nodes that the walk has left behind have their rows and memories as after
-- the cycle, and the others as they were when the landings had been cleared, which is what the cycle leaves at the nodes that are passed.
use Rattle.receivers.proofs.RoundLaws.{Round}
use Rattle.receivers.proofs.receiving.step_receivers_among.Given as goal

abbrev pub invariant-loop-node : goal.invariant-loop-node
invariant-loop-node l = Round l.initial.s l.initial.m l.nodes l.room l.outs l.node-iterator l.s l.m

-- `receivers::receiving::has_stray_among` meets its contract: in the loop no node that the walk has left behind has a stray word; those that are passed have
-- nothing on their memory output.
use Rattle.receivers.proofs.StrayLaws.{StrayFree}
use Rattle.receivers.proofs.receiving.has_stray_among.Given as goal

abbrev pub invariant-loop-node : goal.invariant-loop-node
invariant-loop-node l = StrayFree l.s l.nodes l.outs l.node-iterator

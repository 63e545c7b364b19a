-- `receivers::receiving::clear_landings` meets its contract: in the loop the landings of the nodes before `node` are cleared.
use Rattle.network.specs.Registers.{landing_mark, landing_word}
use Rattle.network.specs.Inner.Quiet.{unlanded}
use Rattle.network.proofs.FillLaws.{Staged}
use Rattle.receivers.proofs.receiving.clear_landings.Given as goal

abbrev pub invariant-loop-node : goal.invariant-loop-node
invariant-loop-node l = Staged landing_mark landing_word l.node (unlanded l.initial.s) l.initial.s l.s

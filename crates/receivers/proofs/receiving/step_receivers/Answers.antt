-- `receivers::receiving::step_receivers` meets its contract: the mask has every node, so that nothing is asked beside it.
use Rattle.std.proofs.Common.{arith}
use Rattle.network.proofs.LiveLaws.{all_nodes}
use Rattle.receivers.proofs.receiving.step_receivers.Goals as goal

pub step_receivers_among-requires : goal.step_receivers_among-requires
step_receivers_among-requires c = (c.requires, λ node l e. absurd (all_nodes node (omega (arith, c.requires.counted.few_nodes)) e))

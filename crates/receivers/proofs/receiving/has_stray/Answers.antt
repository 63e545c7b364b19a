-- `receivers::receiving::has_stray` meets its contract: the mask has every node, so that nothing is asked beside it.
use Rattle.std.proofs.Common.{arith}
use Rattle.network.proofs.LiveLaws.{all_nodes}
use Rattle.receivers.proofs.receiving.has_stray.Goals as goal

pub has_stray_among-requires : goal.has_stray_among-requires
has_stray_among-requires c = (c.requires, λ node l e. absurd (all_nodes node (omega (arith, c.requires.few_nodes)) e))

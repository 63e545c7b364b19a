-- `routers::cross` meets its contract: the mask has every node, so that nothing is asked beside it.
use Rattle.std.proofs.Common.{◌/◌, arith}
use Rattle.network.proofs.LiveLaws.{all_nodes}
use Rattle.routers.proofs.cross.Goals as goal

pub cross_among-requires : goal.cross_among-requires
cross_among-requires c = (
  c.requires.0,
  c.requires.1,
  c.requires.2,
  c.requires.3,
  λ k l e. absurd (all_nodes (k / 5) (omega (arith, c.requires.0, c.requires.1)) e),
)

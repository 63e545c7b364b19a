-- `links::step_links` meets its contract: both masks have every node, so that nothing is asked beside them.
use Rattle.std.proofs.Common.{arith}
use Rattle.sheet.proofs.PassedLaws.{nodes_few}
use Rattle.network.proofs.LiveLaws.{all_nodes}
use Rattle.links.proofs.step_links.Goals as goal

pub step_links_among-requires : goal.step_links_among-requires
step_links_among-requires c =
    let few = nodes_few _ c.requires.0 in
    (c.requires.0, c.requires.1, λ node l e. absurd (all_nodes node (omega arith) e), λ node l e. absurd (all_nodes node (omega arith) e))

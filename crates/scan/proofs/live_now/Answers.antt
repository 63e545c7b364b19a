-- `scan::live_now` meets its contract: a node beside its mask is empty at its five places, and a circuit beside its own has nothing to go.
use Rattle.scan.proofs.ScanLaws.{covered_here}
use Rattle.scan.proofs.live_now.Goals as goal

pub returns : goal.returns
returns c =
    covered_here c.sheet_of-z.ensures c.requires.0 c.nodes_of-nodes.ensures.0
    (λ k l none. c.join_rows.ensures k l (c.nodes_in-mask.ensures k l none))
    c.circuits_of.ensures c.sending_in-sending.ensures

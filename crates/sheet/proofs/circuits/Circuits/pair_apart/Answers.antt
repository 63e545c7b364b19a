-- `sheet::circuits::Circuits::pair_apart` meets its contract. Number 6 at a pair of circuits: the nodes decide where none is common, else the regions.
use Rattle.sheet.specs.Sheet.{circuit_at}
use Rattle.sheet.proofs.CircuitLaws.{pair_nodes}
use Rattle.sheet.proofs.circuits.Circuits.pair_apart.Goals as goal

pub returns-then-get-receive-2 : goal.returns-then-get-receive-2
unfolding circuit_at
returns-then-get-receive-2 c =
    pair_nodes _ _ _ _ _ _ c.requires.2 c.get.ensures c.get-then-get-receive.ensures c.if-get-receive.true c.if-get-receive-2.true

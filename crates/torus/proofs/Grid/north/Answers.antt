-- `torus::Grid::north` meets its contract: the node one row up, computed without a division, is the neighbour at every node of every grid.
use borrow.Author.Tests.{lt-ltb, le-ltb}
use Rattle.torus.proofs.GridLaws.{node_of}
use Rattle.torus.proofs.NeighbourLaws.{north_is}
use Rattle.torus.proofs.Grid.north.Goals as goal

pub returns-then-node-self : goal.returns-then-node-self
returns-then-node-self c = north_is (node_of c.args.self c.requires) (lt-ltb _ _ c.if-node-self.true)

pub returns-else-node-self : goal.returns-else-node-self
returns-else-node-self c = north_is (node_of c.args.self c.requires) (le-ltb _ _ c.if-node-self.false)

-- `torus::Grid::south` meets its contract: the node one row down, computed without a division, is the neighbour at every node of every grid.
use borrow.Author.Tests.{lt-ltb, le-ltb}
use Rattle.torus.proofs.GridLaws.{node_of}
use Rattle.torus.proofs.NeighbourLaws.{south_is}
use Rattle.torus.proofs.Grid.south.Goals as goal

pub returns-then-below-self : goal.returns-then-below-self
returns-then-below-self c = south_is (node_of c.args.self c.requires) (lt-ltb _ _ c.if-below-self.true)

pub returns-else-below-self : goal.returns-else-below-self
returns-else-below-self c = south_is (node_of c.args.self c.requires) (le-ltb _ _ c.if-below-self.false)

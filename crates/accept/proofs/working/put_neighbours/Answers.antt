-- `accept::working::put_neighbours` meets its contract: a node of the grid has its six wires in the table, and its neighbours have small numbers.
use native.Mathlib.Omega.{arith}
use Rattle.torus.proofs.GridLaws.{node_of}
use Rattle.accept.proofs.WorkingLaws.{neighbour_few}
use Rattle.accept.proofs.working.put_neighbours.Goals as goal

pub overflow_mul-near : goal.overflow_mul-near
overflow_mul-near c = omega (arith, neighbour_few _ _ _ _ _ (node_of c.args.grid c.requires.0) c.neighbour.ensures)

pub overflow_mul-near-2 : goal.overflow_mul-near-2
overflow_mul-near-2 c = omega (arith, neighbour_few _ _ _ _ _ (node_of c.args.grid c.requires.0) c.neighbour-2.ensures)

pub overflow_mul-near-3 : goal.overflow_mul-near-3
overflow_mul-near-3 c = omega (arith, neighbour_few _ _ _ _ _ (node_of c.args.grid c.requires.0) c.neighbour-3.ensures)

pub overflow_mul-near-4 : goal.overflow_mul-near-4
overflow_mul-near-4 c = omega (arith, neighbour_few _ _ _ _ _ (node_of c.args.grid c.requires.0) c.neighbour-4.ensures)

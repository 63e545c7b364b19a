-- `torus::Grid::follow` meets its contract: what is written so far, with what the rest of the route leads to, is always the answer.
use mathlib.Core.Bool.{not}
use lib.Dec.{eqb}
use Rattle.torus.specs.Route.{route_from}
use Rattle.torus.specs.Inner.Paths.{path_of}
use Rattle.torus.proofs.RouteLaws.{Going}
use Rattle.torus.proofs.Grid.follow.Given as goal

abbrev pub invariant-loop-hops : goal.invariant-loop-hops
invariant-loop-hops g l = Going (path_of (route_from l.self.cols l.self.rows (not (eqb g.row.LONG 0)) l.source l.route)) l.self.cols l.self.rows (not (eqb g.row.LONG 0)) l.wires l.delays l.node l.entry l.delay l.rest l.hops l.vertical

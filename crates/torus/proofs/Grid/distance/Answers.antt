-- `torus::Grid::distance` meets its contract: the shorter ways round in columns and in rows together are the distance.
use mathlib.Core.Path.{refl}
use native.Mathlib.Omega.{arith}
use Rattle.torus.proofs.GridLaws.{both_of}
use Rattle.torus.proofs.DistanceLaws.{ways_together, distance_most}
use Rattle.torus.proofs.Grid.distance.Goals as goal

pub returns : goal.returns
returns c =
    let p = both_of c.args.self c.requires in
    ways_together p.0 p.1 c.column.ensures c.column-2.ensures
    refl refl c.ring_distance-in_columns.ensures c.vertical_distance.ensures

pub overflow_add-result : goal.overflow_add-result
overflow_add-result c =
    let p = both_of c.args.self c.requires in
    record { fits = omega (arith, returns c, distance_most _ _ _ _ p.0 p.1) }

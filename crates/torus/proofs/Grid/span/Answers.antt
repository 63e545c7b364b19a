-- `torus::Grid::span` meets its contract: the distance is at most 4 and its vertical part at most 2, so the sum is small.
use native.Mathlib.Omega.{arith}
use Rattle.torus.proofs.GridLaws.{both_of}
use Rattle.torus.proofs.DistanceLaws.{distance_most, vertical_most}
use Rattle.torus.proofs.Grid.span.Goals as goal

pub overflow_mul-span : goal.overflow_mul-span
overflow_mul-span c =
    let p = both_of c.args.self c.requires in
    omega (arith, c.distance-span.ensures, distance_most _ _ _ _ p.0 p.1)

pub overflow_add-result : goal.overflow_add-result
overflow_add-result c =
    let p = both_of c.args.self c.requires in
    omega (
      arith,
      c.distance-span.ensures,
      distance_most _ _ _ _ p.0 p.1,
      c.vertical_distance.ensures,
      vertical_most _ _ _ _ p.0 p.1,
    )

-- The cycles of the hops between a node and another: none from a node to itself, and a hop lessens them by no more than it takes. So a walk that
-- has fewer cycles left than they are can not make up for it.
-- Assumes nothing.
use Prim.Native.Nat.{ℕ, suc, ◌+◌, ◌*◌, ◌≤◌, ◌<◌}
use mathlib.Core.Bool.{Bool, true, false}
use mathlib.Core.Path.{◌≡◌, ap}
use native.Mathlib.Omega.{arith}
use native.Mathlib.Nat.{le_of_suc-le-suc}
use lib.Dec.{T, ltb, ltb→lt}
use Rattle.words.specs.Tests.{◌and◌, ◌or◌, ◌=?◌}
use Rattle.words.specs.Words.{pick}
use Rattle.words.proofs.Below.{every, every_at}
use Rattle.torus.specs.Torus.{row_of, column_of, neighbour_of, is_vertical, distance_of, shorter_way, round_distance}
use Rattle.torus.specs.Route.{router_cycles, link_cycles, hop_cycles}
use Rattle.torus.specs.Inner.Grid.{InGrid}
use Rattle.torus.proofs.NeighbourLaws.{every_node, neighbour_inside}
use Rattle.torus.proofs.DistanceLaws.{at_pair, distance_formula, shorter_none}

-- the cycles of the hops between two nodes of a grid of either kind
unfoldable pub span_between : ℕ → ℕ → Bool → ℕ → ℕ → ℕ
span_between cols rows long from to =
    router_cycles * distance_of cols rows from to + pick long (shorter_way rows (row_of cols from) (row_of cols to)) 0

-- a step stays within the grid
pub step_inside : {cols rows node : ℕ} → InGrid cols rows node → (by : ℕ) → InGrid cols rows (neighbour_of cols rows node by)
step_inside g by = record {
  cols_low = g.cols_low;
  cols_high = g.cols_high;
  rows_low = g.rows_low;
  rows_high = g.rows_high;
  inside = neighbour_inside g by;
}

-- the same by the formula of distances
span_by_ways : ℕ → ℕ → Bool → ℕ → ℕ → ℕ
span_by_ways cols rows long from to =
    router_cycles * round_distance cols rows from to + pick long (shorter_way rows (row_of cols from) (row_of cols to)) 0

by_ways : (cols rows : ℕ) (long : Bool) (from to : ℕ) → InGrid cols rows from → InGrid cols rows to
    → span_between cols rows long from to ≡ span_by_ways cols rows long from to
unfolding span_between span_by_ways
by_ways cols rows long from to g h =
    ap (λ (d : ℕ). router_cycles * d + pick long (shorter_way rows (row_of cols from) (row_of cols to)) 0) (distance_formula cols rows from to g h)

-- a step by a side lessens it by no more than the hop's cycles: a test that antt computes at every pair of nodes of every grid
abbrev lessens : Bool → ℕ → ℕ → ℕ → ℕ → ℕ → Bool
lessens long cols rows from to by =
    ltb (span_by_ways cols rows long from to) (suc (span_by_ways cols rows long (neighbour_of cols rows from by) to + hop_cycles long by))

all_lessen : (long : Bool) → T (every_node (λ c r n. every (c * r) (λ m. every 4 (lessens long c r n m))))
unfolding span_by_ways round_distance shorter_way neighbour_of hop_cycles link_cycles is_vertical ◌and◌ ◌or◌ ◌=?◌
all_lessen true = tt
all_lessen false = tt

pub span_step : (cols rows : ℕ) (long : Bool) (from to by : ℕ) → InGrid cols rows from → InGrid cols rows to → by < 4
    → span_between cols rows long from to ≤ span_between cols rows long (neighbour_of cols rows from by) to + hop_cycles long by
span_step cols rows long from to by g h l =
    let step : span_by_ways cols rows long from to ≤ span_by_ways cols rows long (neighbour_of cols rows from by) to + hop_cycles long by =
    le_of_suc-le-suc (ltb→lt _ _ (every_at 4 (lessens long cols rows from to)
    (at_pair (λ c r n m. every 4 (lessens long c r n m)) (all_lessen long) cols rows from to g h) by l)) in
    omega (arith, step, by_ways cols rows long from to g h, by_ways cols rows long (neighbour_of cols rows from by) to (step_inside g by) h)

-- at the end there are none
pub span_none : (cols rows : ℕ) (long : Bool) (to : ℕ) → InGrid cols rows to → span_between cols rows long to to ≡ 0
unfolding span_between round_distance
span_none cols rows long to h = go long
  where
    same : distance_of cols rows to to ≡ 0
    same = omega (arith, distance_formula cols rows to to h h, shorter_none rows (row_of cols to), shorter_none cols (column_of cols to))

    go : (b : Bool) → router_cycles * distance_of cols rows to to + pick b (shorter_way rows (row_of cols to) (row_of cols to)) 0 ≡ 0
    go true = omega (arith, same, shorter_none rows (row_of cols to))
    go false = omega (arith, same)

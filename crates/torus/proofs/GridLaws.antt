-- What a grid's bounds and a node's say together. Assumes nothing.
use Rattle.std.proofs.Common.{ℕ, ◌*◌, ◌<◌}
use Rattle.torus.specs.declared.Grid.{Grid}
use Rattle.torus.specs.Inner.Grid.{InGrid}

-- a node of a grid
pub node_of : (g : Grid) {node : ℕ} → node < g.cols * g.rows → InGrid g.cols g.rows node
node_of g l =
    record { cols_low = g.cols_low; cols_high = g.cols_high; rows_low = g.rows_low; rows_high = g.rows_high; inside = l }

-- and two of them
pub both_of : (g : Grid) {from to : ℕ} → (from < g.cols * g.rows) × (to < g.cols * g.rows) → (InGrid g.cols g.rows from) × (InGrid g.cols g.rows to)
both_of g both = (node_of g both.0, node_of g both.1)

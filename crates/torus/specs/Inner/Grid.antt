-- What the laws of the grid ask of a node; a Grid and a number below its nodes give it.
use Rattle.std.specs.Prelude.{ℕ, ◌*◌, ◌<◌, ◌≤◌}

-- a node of a grid of 2 to 4 columns and 2 to 4 rows
pub record InGrid (cols rows node : ℕ) : Type 0 where
  pub cols_low : 2 ≤ cols
  pub cols_high : cols ≤ 4
  pub rows_low : 2 ≤ rows
  pub rows_high : rows ≤ 4
  pub inside : node < cols * rows

-- The grid (document 01, "The grid"): node = row × columns + column; sides 0 north, 1 east, 2 south, 3 west, all wrapping round.
use Rattle.std.specs.Prelude.{ℕ, zero, suc, ◌+◌, ◌-◌, ◌*◌, ◌/◌, ◌%◌, min, Bool, ◌≡◌}
use Rattle.words.specs.Tests.{any, ◌or◌, ◌=?◌}
use Rattle.words.specs.Words.{least_from}
use Rattle.torus.specs.Inner.Grid.{InGrid}

abbrev pub row_of : ℕ → ℕ → ℕ
row_of cols node = node / cols

abbrev pub column_of : ℕ → ℕ → ℕ
column_of cols node = node % cols

abbrev pub node_at : ℕ → ℕ → ℕ → ℕ
node_at cols row column = row * cols + column

-- the next and the previous place on a ring of n places
abbrev pub onward : ℕ → ℕ → ℕ
onward n place = (place + 1) % n

abbrev pub backward : ℕ → ℕ → ℕ
backward n place = (place + n - 1) % n

-- the node one step away by a side: row − 1, column + 1, row + 1, column − 1
unfoldable pub neighbour_of : ℕ → ℕ → ℕ → ℕ → ℕ
neighbour_of cols rows node zero = node_at cols (backward rows (row_of cols node)) (column_of cols node)
neighbour_of cols rows node (suc zero) = node_at cols (row_of cols node) (onward cols (column_of cols node))
neighbour_of cols rows node (suc (suc zero)) = node_at cols (onward rows (row_of cols node)) (column_of cols node)
neighbour_of cols rows node (suc (suc (suc side))) = node_at cols (row_of cols node) (backward cols (column_of cols node))

-- the side opposite to a side: what leaves a router by the one comes into the next by the other
abbrev pub opposite_of : ℕ → ℕ
opposite_of side = (side + 2) % 4

-- the sides of the vertical links: north and south
unfoldable pub is_vertical : ℕ → Bool
is_vertical side = side =? 0 or side =? 2

-- some walk of so many steps leads from a node to another
unfoldable pub walks : ℕ → ℕ → ℕ → ℕ → ℕ → Bool
walks cols rows zero from to = from =? to
walks cols rows (suc steps) from to = any 4 (λ side. walks cols rows steps (neighbour_of cols rows from side) to)

-- the distance of two nodes: the fewest steps of a walk between them. A walk with as many steps as there are nodes meets a node
-- twice, so the fewest are among the numbers below that.
unfoldable pub distance_of : ℕ → ℕ → ℕ → ℕ → ℕ
distance_of cols rows from to = least_from (cols * rows) 0 (λ steps. walks cols rows steps from to)

-- the shorter way round between two places of a ring of n places: the less of the way on and the way back
unfoldable pub shorter_way : ℕ → ℕ → ℕ → ℕ
shorter_way n a b = min ((b + n - a) % n) ((a + n - b) % n)

-- the shorter way round in columns plus the shorter way round in rows
unfoldable pub round_distance : ℕ → ℕ → ℕ → ℕ → ℕ
round_distance cols rows from to =
    shorter_way cols (column_of cols from) (column_of cols to) + shorter_way rows (row_of cols from) (row_of cols to)

-- the claim that this is the distance of any two nodes of a grid (proofs/DistanceLaws, `distance_formula`)
abbrev pub DistanceFormula : Type 0
DistanceFormula =
    (cols rows from to : ℕ) → InGrid cols rows from → InGrid cols rows to
    → distance_of cols rows from to ≡ round_distance cols rows from to

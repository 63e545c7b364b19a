-- A circuit's flight time: one number for all its packets, since number 9 wants shortest routes.
use Rattle.std.specs.Prelude.{ℕ, ◌+◌, ◌*◌, List}
use Rattle.words.specs.Words.{pick}
use Rattle.torus.specs.Torus.{row_of, distance_of, shorter_way}
use Rattle.torus.specs.Route.{router_cycles}
use Rattle.sheet.specs.Sheet.{columns, rows, is_long}
use Rattle.sheet.specs.Slots.{source_of, destination_of}

-- the distance of a circuit's two nodes: by number 9 its routes have as many hops
abbrev pub hops_of : List ℕ → ℕ → ℕ
hops_of z circuit = distance_of (columns z) (rows z) (source_of z circuit) (destination_of z circuit)

-- how many of these hops are over long links: the shorter way round between the rows of the two nodes, and none where no link is long
unfoldable pub vertical_of : List ℕ → ℕ → ℕ
vertical_of z circuit =
    pick (is_long z) (shorter_way (rows z) (row_of (columns z) (source_of z circuit)) (row_of (columns z) (destination_of z circuit))) 0

-- cycles from leaving to landing: three for each router, and one for each long link
abbrev pub flight_cycles : List ℕ → ℕ → ℕ
flight_cycles z circuit = router_cycles * (hops_of z circuit + 1) + vertical_of z circuit

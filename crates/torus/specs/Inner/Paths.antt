-- A route as code answers it: the wires by numbers, in two lists with their delays.
use Rattle.std.specs.Prelude.{ℕ, ◌+◌, ◌*◌, Option, map, replicate}
use Rattle.std.specs.declared.option.Option.TheVariants.{Some, None}
use Rattle.words.specs.Inner.Puts.{put_all}
use Rattle.torus.specs.Route.{Wire, source, side, memory, Use, Route, leads, nowhere}
use Rattle.torus.specs.declared.Path.{Path}

-- a node has six wires: number them by its four sides, its source and its memory
abbrev pub wires_per_node : ℕ
wires_per_node = 6

abbrev pub wire_number : Wire → ℕ
wire_number (source node) = node * wires_per_node + 4
wire_number (side node s) = node * wires_per_node + s
wire_number (memory node) = node * wires_per_node + 5

-- the most wires that a route can use: the source and an output for each code
abbrev pub most_uses : ℕ
most_uses = 9

-- the answer, from where a route leads: a route of h hops uses the first h + 2 places of its two lists, and the others are 0
abbrev pub path_of : Route → Option Path
path_of (leads uses node hops vertical) = Some (record {
  node = node;
  hops = hops;
  vertical = vertical;
  wires = put_all (replicate most_uses 0) 0 (map (λ (u : Use). wire_number u.wire) uses);
  delays = put_all (replicate most_uses 0) 0 (map (λ (u : Use). u.delay) uses);
})
path_of nowhere = None

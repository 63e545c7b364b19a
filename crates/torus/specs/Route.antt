-- Following a route (document 01, "The packet" and "The router"): one code a router, lowest first; three cycles a router, and one more
-- for each vertical hop where the vertical links are long (document 02, L7). `long` is that kind of a grid.
use Rattle.std.specs.Prelude.{ℕ, zero, suc, ◌+◌, Bool, true, false, List, [], ◌∷◌}
use Rattle.words.specs.Tests.{◌and◌, ◌=?◌}
use Rattle.words.specs.Words.{pick}
use Rattle.packet.specs.Header.{first_code, later_codes}
use Rattle.torus.specs.Torus.{neighbour_of, opposite_of, is_vertical}

-- the entry side of a packet at its first router, where each code names a side to leave by
abbrev pub no_side : ℕ
no_side = 4

-- a router's output to its node's memory; outputs 0 to 3 are its sides
abbrev pub memory_output : ℕ
memory_output = 4

-- the output for a packet: the code of the side that it came in by means this node's memory, any other a side to leave by
unfoldable pub output_of : ℕ → ℕ → ℕ
output_of entry code = pick (entry =? code) memory_output code

-- a wire: from a node's source into its router, a router's output by a side, a router's output to its node's memory
pub data Wire : Type 0 where
  source : ℕ → Wire
  side : ℕ → ℕ → Wire
  memory : ℕ → Wire

-- a wire, and how many cycles after its source wire a word is on it
pub record Use : Type 0 where
  pub wire : Wire
  pub delay : ℕ

-- where a route leads: the wires that it uses with their delays, the node at its end, its hops (its side outputs) and how many of them
-- are over a long link; or nowhere
pub data Route : Type 0 where
  leads : List Use → ℕ → ℕ → ℕ → Route
  nowhere : Route

-- a word on an input of a router is on its output so many cycles later
abbrev pub router_cycles : ℕ
router_cycles = 3

-- the cycles that the link of a side output takes: one over a vertical link where these are long, else none
unfoldable pub link_cycles : Bool → ℕ → ℕ
link_cycles long output = pick (long and is_vertical output) 1 0

-- the cycles of a hop by a side: a word on a router's output by that side is on the next router's output so many cycles later
unfoldable pub hop_cycles : Bool → ℕ → ℕ
hop_cycles long output = router_cycles + link_cycles long output

-- out to a node's memory: the end of the route, unless bits are left above its last code
abbrev pub ending : Bool → ℕ → ℕ → Route
ending true node delay = leads (record { wire = memory node; delay = delay } ∷ []) node 0 0
ending false node delay = nowhere

-- a side output, whose link takes so many cycles, before what follows it: one hop more
abbrev pub over_side : Use → ℕ → Route → Route
over_side first link (leads uses node hops vertical) = leads (first ∷ uses) node (hops + 1) (vertical + link)
over_side first link nowhere = nowhere

-- the source wire before what follows it
abbrev pub from_source : Use → Route → Route
from_source first (leads uses node hops vertical) = leads (first ∷ uses) node hops vertical
from_source first nowhere = nowhere

-- follow a route over at most so many routers, from a node with an entry side, whose output has the given delay
unfoldable pub follow : ℕ → ℕ → ℕ → Bool → ℕ → ℕ → ℕ → ℕ → Route
follow zero cols rows long node entry delay route = nowhere
follow (suc left) cols rows long node entry delay route =
    let output = output_of entry (first_code route) in
    elim (output =? memory_output) [
      | true ↦ ending (later_codes route =? 0) node delay
      | false ↦ over_side (record { wire = side node output; delay = delay }) (link_cycles long output)
          (follow left cols rows long (neighbour_of cols rows node output) (opposite_of output) (delay + hop_cycles long output)
          (later_codes route))
    ]

-- a route of 16 bits has eight codes
abbrev pub codes : ℕ
codes = 8

-- where a route leads from a source node
unfoldable pub route_from : ℕ → ℕ → Bool → ℕ → ℕ → Route
route_from cols rows long node route =
    from_source (record { wire = source node; delay = 0 }) (follow codes cols rows long node no_side router_cycles route)

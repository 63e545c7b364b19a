-- Flights: packets on their way, as paths through the routers with their times; and what the routers' registers hold of them.
-- Assumes nothing.
use Prim.Native.Nat.{ℕ, zero, suc, ◌+◌, ◌≤◌, ◌<◌}
use mathlib.Core.Bool.{true}
use mathlib.Core.List.{List}
use mathlib.Core.Path.{◌≡◌}
use Rattle.words.specs.Tests.{◌=?◌}
use Rattle.packet.specs.Header.{shifted_word}
use Rattle.torus.specs.Torus.{neighbour_of, opposite_of}
use Rattle.torus.specs.Route.{router_cycles, hop_cycles}
use Rattle.sheet.specs.Sheet.{columns, rows, is_long, nodes}
use Rattle.network.specs.View.{Cell, header, payload, to_output, source_input, ports, memory_output, Routers}
use Rattle.network.specs.Cycle.{output_for, has_extra, is_full}

-- a flight is one packet. Its header is on its source's wire in cycle `start`, and word j follows j cycles later. It goes through so
-- many routers, the first being router 0. Word 0 is the header, and words 1 to `size` are the payload. By flight and router: node,
-- input and output, the header word as that router takes it in, and the cycles from the source's wire to the router's input wire
-- (`delay`). By flight and j: payload word j.
pub record Flights : Type 1 where
  pub Id : Type 0
  pub start : Id → ℕ
  pub routers : Id → ℕ
  pub size : Id → ℕ
  pub node : Id → ℕ → ℕ
  pub input : Id → ℕ → ℕ
  pub output : Id → ℕ → ℕ
  pub header_at : Id → ℕ → ℕ
  pub payload_at : Id → ℕ → ℕ
  pub delay : Id → ℕ → ℕ

-- word j of a flight, as router k takes it in
abbrev pub word_at : (F : Flights) → F.Id → ℕ → ℕ → Cell
word_at F f k zero = header (F.header_at f k)
word_at F f k (suc j) = payload (F.payload_at f (suc j)) (suc j =? F.size f)

-- every flight's path is one of the sheet's grid, and its header leads along it
pub record Paths (z : List ℕ) (F : Flights) : Type 0 where
  pub some_routers : (f : F.Id) → 0 < F.routers f
  pub some_size : (f : F.Id) → 0 < F.size f
  pub in_grid : (f : F.Id) (k : ℕ) → k < F.routers f → F.node f k < nodes z
  pub first_input : (f : F.Id) → F.input f 0 ≡ source_input
  pub next_input : (f : F.Id) (k : ℕ) → suc k < F.routers f → F.input f (suc k) ≡ opposite_of (F.output f k)
  pub next_node : (f : F.Id) (k : ℕ) → suc k < F.routers f
      → F.node f (suc k) ≡ neighbour_of (columns z) (rows z) (F.node f k) (F.output f k)
  pub side_output : (f : F.Id) (k : ℕ) → suc k < F.routers f → F.output f k < 4
  pub last_output : (f : F.Id) (k : ℕ) → suc k ≡ F.routers f → F.output f k ≡ memory_output
  pub asked_output : (f : F.Id) (k : ℕ) → k < F.routers f → output_for (F.input f k) (F.header_at f k) ≡ F.output f k
  pub next_header : (f : F.Id) (k : ℕ) → F.header_at f (suc k) ≡ shifted_word (F.header_at f k)
  pub first_delay : (f : F.Id) → F.delay f 0 ≡ 0
  pub next_delay : (f : F.Id) (k : ℕ) → F.delay f (suc k) ≡ F.delay f k + hop_cycles (is_long z) (F.output f k)

-- the stages of a router: a word is in a stage's register before the cycle that comes so many cycles after the word was on the
-- router's input wire. In that cycle the register of the last stage is the output's wire.
abbrev pub link_stage : ℕ
link_stage = 1

abbrev pub head_stage : ℕ
head_stage = 2

abbrev pub out_stage : ℕ
out_stage = router_cycles

-- a word that is in the extra register of its output's link, a cycle behind the output's wire
abbrev pub extra_stage : ℕ
extra_stage = router_cycles + 1

-- before cycle T, word j of flight f is in that stage of its router k
pub record InStage (F : Flights) (T stage : ℕ) (f : F.Id) (k j : ℕ) : Type 0 where
  pub on_way : k < F.routers f
  pub in_packet : j ≤ F.size f
  pub time : T ≡ F.start f + j + F.delay f k + stage

-- some word of a flight is in that stage of a node's router, at a port (the flight's input or its output there)
pub record Found (F : Flights) (T stage : ℕ) (port : F.Id → ℕ → ℕ) (node place : ℕ) : Type 0 where
  pub flight : F.Id
  pub router : ℕ
  pub index : ℕ
  pub in_stage : InStage F T stage flight router index
  pub at_node : F.node flight router ≡ node
  pub at_port : port flight router ≡ place

-- before cycle T the routers of a sheet's grid hold the flights' words, and no others; while words of a packet are still to come to
-- the header stage, the latch holds its output
pub record Holds (z : List ℕ) (F : Flights) (T : ℕ) (r : Routers) : Type 0 where
  pub link_word_is : (f : F.Id) (k j : ℕ) → InStage F T link_stage f k j → r.link (F.node f k) (F.input f k) ≡ word_at F f k j
  pub head_word_is : (f : F.Id) (k j : ℕ) → InStage F T head_stage f k j → r.head (F.node f k) (F.input f k) ≡ word_at F f (suc k) j
  pub head_choice : (f : F.Id) (k j : ℕ) → InStage F T head_stage f k j → r.choice (F.node f k) (F.input f k) ≡ to_output (F.output f k)
  pub head_latch : (f : F.Id) (k j : ℕ) → InStage F T head_stage f k j → j < F.size f
      → r.latch (F.node f k) (F.input f k) ≡ to_output (F.output f k)
  pub out_word_is : (f : F.Id) (k j : ℕ) → InStage F T out_stage f k j → r.out (F.node f k) (F.output f k) ≡ word_at F f (suc k) j
  pub extra_word_at : (f : F.Id) (k j : ℕ) → InStage F T extra_stage f k j → has_extra z (F.output f k) ≡ true
      → r.extra (F.node f k) (F.output f k) ≡ word_at F f (suc k) j
  pub link_only : (node input : ℕ) → node < nodes z → input < ports → is_full (r.link node input) ≡ true
      → Found F T link_stage F.input node input
  pub head_only : (node input : ℕ) → node < nodes z → input < ports → is_full (r.head node input) ≡ true
      → Found F T head_stage F.input node input
  pub out_only : (node output : ℕ) → node < nodes z → output < ports → is_full (r.out node output) ≡ true
      → Found F T out_stage F.output node output
  pub extra_only : (node output : ℕ) → node < nodes z → output < ports → has_extra z output ≡ true
      → is_full (r.extra node output) ≡ true → Found F T extra_stage F.output node output

-- some flight's word is due on a node's source wire in cycle T
pub record Leaves (F : Flights) (T node : ℕ) : Type 0 where
  pub flight : F.Id
  pub index : ℕ
  pub in_packet : index ≤ F.size flight
  pub time : T ≡ F.start flight + index
  pub at_node : F.node flight 0 ≡ node

-- in cycle T the sources put the flights' words on their wires, and no others
pub record Emits (z : List ℕ) (F : Flights) (T : ℕ) (wire : ℕ → Cell) : Type 0 where
  pub source_word_is : (f : F.Id) (j : ℕ) → j ≤ F.size f → T ≡ F.start f + j → wire (F.node f 0) ≡ word_at F f 0 j
  pub source_only : (node : ℕ) → node < nodes z → is_full (wire node) ≡ true → Leaves F T node

-- two words on one output's wire in one cycle came in by one input
abbrev pub NoClash : Flights → Type 0
NoClash F =
    (T : ℕ) (f f' : F.Id) (k k' j j' : ℕ) → InStage F T out_stage f k j → InStage F T out_stage f' k' j'
    → F.node f k ≡ F.node f' k' → F.output f k ≡ F.output f' k' → F.input f k ≡ F.input f' k'

-- The registers of the network, as the article draws them: cells between the stages of the routers, senders, receive units, clock.
-- Source document 003's router section has the cells (valid, start and end of packet) and the latch; source document 000, sections 3.4,
-- 4 and 5, the three stages, the senders' tables and the switch. An input of a router is 0 to 3, a side, or 4, the source; an output is
-- 0 to 3, a side, or 4, the memory.
use Rattle.std.specs.Prelude.{ℕ, Bool}
pub use Rattle.torus.specs.Route.{memory_output}

-- what a register between two stages holds: nothing, a packet's header word, or a payload word, which may be the packet's last
pub data Cell : Type 0 where
  empty : Cell
  header : ℕ → Cell
  payload : ℕ → Bool → Cell

abbrev pub source_input : ℕ
source_input = 4

-- how many inputs a router has, and how many outputs
abbrev pub ports : ℕ
ports = 5

-- what is chosen for a word: no output, or one
pub data Choice : Type 0 where
  no_output : Choice
  to_output : ℕ → Choice

-- the registers of the routers. By node and input: what came over the link; what left the header stage, with the choice for it;
-- the choice held for the packet's further words (the latch). By node and output: what left the crossbar, on that output's wire; and what
-- is in the extra register of that output's link, where the link is long (document 02, L7).
pub record Routers : Type 0 where
  pub link : ℕ → ℕ → Cell
  pub head : ℕ → ℕ → Cell
  pub choice : ℕ → ℕ → Choice
  pub latch : ℕ → ℕ → Choice
  pub out : ℕ → ℕ → Cell
  pub extra : ℕ → ℕ → Cell

-- a circuit's sender: words of its transfer not sent yet (document 01's words left), the addresses of the next of them at the source
-- and at the destination, the transfer's kind, and payload words of the present packet still to go
pub record Sender : Type 0 where
  pub left : ℕ
  pub read_address : ℕ
  pub write_address : ℕ
  pub kind : ℕ
  pub to_go : ℕ

-- a node's receive unit: whether a packet is arriving, its kind, and the address of its next word
pub record Receiver : Type 0 where
  pub arriving : Bool
  pub kind : ℕ
  pub address : ℕ

-- what landed at a node in the last cycle (document 01, 'landing'): nothing, or a payload word with its packet's kind and its address
pub data Landing : Type 0 where
  nothing : Landing
  landed : ℕ → ℕ → ℕ → Landing

-- a switch order: none is pending, or a schedule for a period number
pub data Order : Type 0 where
  no_order : Order
  pending : ℕ → ℕ → Order

-- the whole machine
pub record View : Type 0 where
  pub routers : Routers
  pub memory : ℕ → ℕ → ℕ
  pub cycle : ℕ
  pub period_number : ℕ
  pub schedule : ℕ
  pub order : Order
  pub sender : ℕ → Sender
  pub receiver : ℕ → Receiver
  pub landing : ℕ → Landing

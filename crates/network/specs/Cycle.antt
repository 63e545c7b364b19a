-- One clock cycle of the machine on a sheet z, and its faults (document 01, "The router", "The session" and number 20).
use Rattle.std.specs.Prelude.{ℕ, zero, suc, ◌+◌, ◌-◌, ◌%◌, min, Bool, true, false, not, List}
use Rattle.words.specs.Tests.{any, ◌and◌, ◌or◌, ◌≤?◌, ◌=?◌}
use Rattle.words.specs.Words.{pick, count_of}
use Rattle.packet.specs.Header.{header_word, kind_of, address_of, route_of, first_code, shifted_word}
use Rattle.torus.specs.Torus.{neighbour_of, opposite_of, is_vertical}
use Rattle.torus.specs.Route.{output_of}
use Rattle.sheet.specs.Sheet.{columns, rows, is_long, memory_words, circuits, nodes, period}
use Rattle.sheet.specs.Slots.{slot_length, slot_route, source_of}
use Rattle.network.specs.View.{Cell, empty, header, payload, source_input, ports, memory_output, Choice, no_output, to_output, Routers, Sender, Receiver}
use Rattle.network.specs.View.{Landing, nothing, landed, Order, no_order, pending, View}

-- the header stage. The output that a header asks for, by its route's first code
unfoldable pub output_for : ℕ → ℕ → ℕ
output_for input word = output_of input (first_code (route_of word))

-- it takes the header's first code off; a payload word goes on as it is
abbrev pub advance : Cell → Cell
advance empty = empty
advance (header word) = header (shifted_word word)
advance (payload word last) = payload word last

-- the choice for a cell: a header's own, a payload word's by the latch
abbrev pub choose : ℕ → Choice → Cell → Choice
choose input latch empty = no_output
choose input latch (header word) = to_output (output_for input word)
choose input latch (payload word last) = latch

-- the latch afterwards: a header replaces the choice held, and the packet's last word drops it
abbrev pub hold : ℕ → Choice → Cell → Choice
hold input latch empty = latch
hold input latch (header word) = to_output (output_for input word)
hold input latch (payload word last) = pick last no_output latch

-- the crossbar. What an input asks of an output, and the first of so many cells that is there
abbrev pub goes_to : Choice → ℕ → Bool
goes_to no_output output = false
goes_to (to_output chosen) output = chosen =? output

unfoldable pub asks : Routers → ℕ → ℕ → ℕ → Cell
asks r node output input = pick (goes_to (r.choice node input) output) (r.head node input) empty

abbrev pub join : Cell → Cell → Cell
join empty d = d
join (header word) d = header word
join (payload word last) d = payload word last

abbrev pub gather : ℕ → (ℕ → Cell) → Cell
gather zero cells = empty
gather (suc n) cells = join (gather n cells) (cells n)

-- the links. On a grid whose vertical links are long, those of the north and the south outputs have an extra register
unfoldable pub has_extra : List ℕ → ℕ → Bool
has_extra z output = is_long z and is_vertical output

-- what comes out of an output's link: what is in its extra register, or on the output where it has none
unfoldable pub link_end : List ℕ → Routers → ℕ → ℕ → Cell
link_end z r node output = pick (has_extra z output) (r.extra node output) (r.out node output)

-- the routers after a cycle in which the sources put the given cells on their wires
unfoldable pub step_routers : List ℕ → (ℕ → Cell) → Routers → Routers
step_routers z wire r = record {
  link = λ node input.
      pick (input =? source_input) (wire node) (link_end z r (neighbour_of (columns z) (rows z) node input) (opposite_of input));
  head = λ node input. advance (r.link node input);
  choice = λ node input. choose input (r.latch node input) (r.link node input);
  latch = λ node input. hold input (r.latch node input) (r.link node input);
  out = λ node output. gather ports (asks r node output);
  extra = λ node output. pick (has_extra z output) (r.out node output) (r.extra node output);
}

-- the senders. In a cycle a circuit's sender opens a packet where a slot begins and words are left; else it sends its packet's next word, or
-- rests
pub data Move : Type 0 where
  rests : Move
  opens : Move
  sends : Move

abbrev pub move : ℕ → Sender → Move
move slot sender = pick (1 ≤? slot and 1 ≤? sender.left) opens (pick (1 ≤? sender.to_go) sends rests)

-- a packet has min (length − 1) (words left) payload words, fixed in its header's cycle
abbrev pub step_sender : Move → ℕ → Sender → Sender
step_sender rests slot sender = sender
step_sender opens slot sender = record {
  left = sender.left;
  read_address = sender.read_address;
  write_address = sender.write_address;
  kind = sender.kind;
  to_go = min (slot - 1) sender.left;
}
step_sender sends slot sender = record {
  left = sender.left - 1;
  read_address = sender.read_address + 1;
  write_address = sender.write_address + 1;
  kind = sender.kind;
  to_go = sender.to_go - 1;
}

-- what a sender puts on its source's wire, given the header word and the memory word of this cycle
abbrev pub sent_cell : Move → ℕ → ℕ → Sender → Cell
sent_cell rests head word sender = empty
sent_cell opens head word sender = header head
sent_cell sends head word sender = payload word (sender.to_go =? 1)

module _ (z : List ℕ) (v : View) where
  abbrev pub slot_now : ℕ → ℕ
  slot_now circuit = slot_length z v.schedule v.cycle circuit

  abbrev pub move_now : ℕ → Move
  move_now circuit = move (slot_now circuit) (v.sender circuit)

  -- the header of the packet that a circuit would open, and the memory word that it would send, read in this cycle
  abbrev pub head_now : ℕ → ℕ
  head_now circuit =
      header_word (v.sender circuit).kind (v.sender circuit).write_address (slot_route z v.schedule v.cycle circuit)

  abbrev pub read_now : ℕ → ℕ
  read_now circuit = v.memory (source_of z circuit) (v.sender circuit).read_address

  abbrev pub sent_now : ℕ → Cell
  sent_now circuit = sent_cell (move_now circuit) (head_now circuit) (read_now circuit) (v.sender circuit)

  -- the wire from a node's source: the first of the node's circuits that puts a cell on it
  unfoldable pub source_wire : ℕ → Cell
  source_wire node = gather (circuits z) (λ circuit. pick (source_of z circuit =? node) (sent_now circuit) empty)

-- the receive unit: a header at the memory output begins a packet, a payload word is stored at its address, and the last ends it
abbrev pub landing_of : Receiver → Cell → Landing
landing_of r empty = nothing
landing_of r (header word) = nothing
landing_of r (payload word last) = landed r.kind r.address word

abbrev pub step_receiver : Receiver → Cell → Receiver
step_receiver r empty = r
step_receiver r (header word) = record { arriving = true; kind = kind_of word; address = address_of word }
step_receiver r (payload word last) = record { arriving = pick last false r.arriving; kind = r.kind; address = r.address + 1 }

-- a memory word after a landing
abbrev pub stored_by : Landing → ℕ → ℕ → ℕ
stored_by nothing address word = word
stored_by (landed kind at new) address word = pick (at =? address) new word

-- the clock. After the period's last cycle the number rises by one, wrapping at 2^32; an order for that number then puts its schedule
-- in force and is spent
abbrev pub next_number : ℕ → ℕ
next_number number = (number + 1) % 4294967296

abbrev pub schedule_after : Order → ℕ → ℕ → ℕ
schedule_after no_order number schedule = schedule
schedule_after (pending ordered at) number schedule = pick (at =? number) ordered schedule

abbrev pub order_after : Order → ℕ → Order
order_after no_order number = no_order
order_after (pending ordered at) number = pick (at =? number) no_order (pending ordered at)

abbrev pub period_ends : List ℕ → View → Bool
period_ends z v = v.cycle + 1 =? period z v.schedule

-- one cycle of it all: reads come before stores
abbrev pub tick : List ℕ → View → View
tick z v = record {
  routers = step_routers z (source_wire z v) v.routers;
  memory = λ node address.
      stored_by (landing_of (v.receiver node) (v.routers.out node memory_output)) address (v.memory node address);
  cycle = pick (period_ends z v) 0 (v.cycle + 1);
  period_number = pick (period_ends z v) (next_number v.period_number) v.period_number;
  schedule = pick (period_ends z v) (schedule_after v.order (next_number v.period_number) v.schedule) v.schedule;
  order = pick (period_ends z v) (order_after v.order (next_number v.period_number)) v.order;
  sender = λ circuit. step_sender (move_now z v circuit) (slot_now z v circuit) (v.sender circuit);
  receiver = λ node. step_receiver (v.receiver node) (v.routers.out node memory_output);
  landing = λ node. landing_of (v.receiver node) (v.routers.out node memory_output);
}

-- number 20: two words want one wire, a payload word has no header, or a landing lies beyond the memory
abbrev pub is_full : Cell → Bool
is_full empty = false
is_full (header word) = true
is_full (payload word last) = true

abbrev pub is_payload : Cell → Bool
is_payload empty = false
is_payload (header word) = false
is_payload (payload word last) = true

abbrev pub is_none : Choice → Bool
is_none no_output = true
is_none (to_output chosen) = false

-- two inputs ask for one output
unfoldable pub collides : View → ℕ → ℕ → Bool
collides v node output = 2 ≤? count_of ports (λ input. is_full (asks v.routers node output input))

-- two circuits of a node put a word on its source wire, or one opens a packet while it still sends another
unfoldable pub crowds : List ℕ → View → ℕ → Bool
crowds z v node = 2 ≤? count_of (circuits z) (λ circuit. source_of z circuit =? node and is_full (sent_now z v circuit))

unfoldable pub reopens : List ℕ → View → ℕ → Bool
reopens z v circuit = 1 ≤? slot_now z v circuit and 1 ≤? (v.sender circuit).left and 1 ≤? (v.sender circuit).to_go

-- a payload word in the link register for which no choice is held, or one that left the header stage with no choice
unfoldable pub headless : View → ℕ → ℕ → Bool
headless v node input =
    (is_payload (v.routers.link node input) and is_none (v.routers.latch node input))
    or (is_payload (v.routers.head node input) and is_none (v.routers.choice node input))

-- a payload word at the memory output with no packet arriving, or for an address beyond the memory
unfoldable pub strays : List ℕ → View → ℕ → Bool
strays z v node =
    is_payload (v.routers.out node memory_output)
    and (not (v.receiver node).arriving or memory_words z ≤? (v.receiver node).address)

unfoldable pub faulty : List ℕ → View → Bool
faulty z v =
    any (nodes z) (λ node. any ports (collides v node) or any ports (headless v node) or crowds z v node or strays z v node)
    or any (circuits z) (reopens z v)

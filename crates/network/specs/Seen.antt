-- The words of a state and of the memories, read as the machine's registers; and when two views agree on all registers that a sheet has.
use Rattle.std.specs.Prelude.{ℕ, zero, suc, ◌+◌, ◌*◌, ◌<◌, Bool, true, false, List, ◌≡◌}
use Rattle.words.specs.Words.{word}
use Rattle.sheet.specs.Sheet.{memory_words, circuits, nodes}
use Rattle.network.specs.View.{ports, Sender, Cell, empty, header, payload, Choice, no_output, to_output, Landing, nothing, landed, Order, no_order, pending, View}
use Rattle.network.specs.Cycle.{has_extra}
use Rattle.network.specs.Registers.{at, reg, room, clock_row, cycle_place, number_place, in_force_place, order_mark_place, order_schedule_place}
use Rattle.network.specs.Registers.{order_period_place, link_mark, link_word, head_mark, head_word, choice_row, latch_row, out_mark, out_word}
use Rattle.network.specs.Registers.{receive_mark, receive_kind, receive_address, landing_mark, landing_kind, landing_address, landing_word, left_row}
use Rattle.network.specs.Registers.{read_row, write_row, kind_row, to_go_row, extra_mark, extra_word}

-- a cell, from its mark and word
abbrev pub seen_cell : ℕ → ℕ → Cell
seen_cell zero w = empty
seen_cell (suc zero) w = header w
seen_cell (suc (suc zero)) w = payload w false
seen_cell (suc (suc (suc mark))) w = payload w true

-- a choice, from its register or from the latch: one more than the output, 0 for none
abbrev pub seen_choice : ℕ → Choice
seen_choice zero = no_output
seen_choice (suc output) = to_output output

abbrev pub marked : ℕ → Bool
marked zero = false
marked (suc mark) = true

abbrev pub seen_landing : ℕ → ℕ → ℕ → ℕ → Landing
seen_landing zero kind address w = nothing
seen_landing (suc mark) kind address w = landed kind address w

abbrev pub seen_order : ℕ → ℕ → ℕ → Order
seen_order zero schedule period = no_order
seen_order (suc mark) schedule period = pending schedule period

-- a circuit's sender
abbrev pub seen_sender : List ℕ → ℕ → Sender
seen_sender s c = record {
  left = reg s left_row c;
  read_address = reg s read_row c;
  write_address = reg s write_row c;
  kind = reg s kind_row c;
  to_go = reg s to_go_row c;
}

-- the machine in a state's words and the memories
abbrev pub view : List ℕ → List ℕ → View
view s m = record {
  routers = record {
    link = λ node input. seen_cell (reg s link_mark (at node input)) (reg s link_word (at node input));
    head = λ node input. seen_cell (reg s head_mark (at node input)) (reg s head_word (at node input));
    choice = λ node input. seen_choice (reg s choice_row (at node input));
    latch = λ node input. seen_choice (reg s latch_row (at node input));
    out = λ node o. seen_cell (reg s out_mark (at node o)) (reg s out_word (at node o));
    extra = λ node o. seen_cell (reg s extra_mark (at node o)) (reg s extra_word (at node o));
  };
  memory = λ node address. word m (node * room s + address);
  cycle = reg s clock_row cycle_place;
  period_number = reg s clock_row number_place;
  schedule = reg s clock_row in_force_place;
  order = seen_order (reg s clock_row order_mark_place) (reg s clock_row order_schedule_place) (reg s clock_row order_period_place);
  sender = seen_sender s;
  receiver = λ node. record {
    arriving = marked (reg s receive_mark node);
    kind = reg s receive_kind node;
    address = reg s receive_address node;
  };
  landing = λ node.
      seen_landing (reg s landing_mark node) (reg s landing_kind node) (reg s landing_address node) (reg s landing_word node);
}

-- two views agree on all registers, senders and memory words that a sheet has
pub record Agree (z : List ℕ) (a b : View) : Type 0 where
  pub link : (node input : ℕ) → node < nodes z → input < ports → a.routers.link node input ≡ b.routers.link node input
  pub head : (node input : ℕ) → node < nodes z → input < ports → a.routers.head node input ≡ b.routers.head node input
  pub choice : (node input : ℕ) → node < nodes z → input < ports → a.routers.choice node input ≡ b.routers.choice node input
  pub latch : (node input : ℕ) → node < nodes z → input < ports → a.routers.latch node input ≡ b.routers.latch node input
  pub out : (node o : ℕ) → node < nodes z → o < ports → a.routers.out node o ≡ b.routers.out node o
  pub extra : (node o : ℕ) → node < nodes z → o < ports → has_extra z o ≡ true → a.routers.extra node o ≡ b.routers.extra node o
  pub memory : (node address : ℕ) → node < nodes z → address < memory_words z → a.memory node address ≡ b.memory node address
  pub cycle : a.cycle ≡ b.cycle
  pub period_number : a.period_number ≡ b.period_number
  pub schedule : a.schedule ≡ b.schedule
  pub order : a.order ≡ b.order
  pub sender : (circuit : ℕ) → circuit < circuits z → a.sender circuit ≡ b.sender circuit
  pub receiver : (node : ℕ) → node < nodes z → a.receiver node ≡ b.receiver node
  pub landing : (node : ℕ) → node < nodes z → a.landing node ≡ b.landing node

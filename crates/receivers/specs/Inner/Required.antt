-- What the stages of the receive units and of the clock require of the words that they are lent.
use Rattle.std.specs.Prelude.{◌≡◌, ℕ, ◌*◌, ◌<◌, ◌≤◌, false, List, length}
use Rattle.sheet.specs.Sheet.{nodes, schedules, period}
use Rattle.sheet.specs.Inner.Passed.{Framed}
use Rattle.network.specs.Registers.{reg, sheet_in, room, moving_words, clock_row, cycle_place, in_force_place, receive_address}
use Rattle.network.specs.Inner.Machine.{memory_mark, strays_in}

-- the numbers of nodes and of memory words of a node are the sheet's own, and the nodes are few
pub record Counted (s : List ℕ) (count size : ℕ) : Type 0 where
  pub all_nodes : count ≡ nodes (sheet_in s)
  pub few_nodes : count ≤ 16
  pub own_room : size ≡ room s

-- the rows are there, the memories have the sheet's length, and no word strays
pub record Receivable (s m : List ℕ) (count size : ℕ) : Type 0 where
  pub counted : Counted s count size
  pub long : moving_words ≤ length s
  pub some_room : 1 ≤ size
  pub small_room : size ≤ 16384
  pub whole : length m ≡ count * size
  pub calm : (node : ℕ) → node < count → strays_in s node ≡ false

-- the same for one node: a word that lands has an address within the node's memory
pub record LandingFits (s : List ℕ) (node size : ℕ) : Type 0 where
  pub inside : node < 16
  pub long : moving_words ≤ length s
  pub small_room : size ≤ 16384
  pub lands : 2 ≤ memory_mark s node → reg s receive_address node < size

-- the rows are there, rules 1 to 3 are kept, the schedule in force exists, and the cycle is one of its period's
pub record Clocked (s : List ℕ) : Type 0 where
  pub long : moving_words ≤ length s
  pub framed : Framed (sheet_in s)
  pub in_force : reg s clock_row in_force_place < schedules (sheet_in s)
  pub in_time : reg s clock_row cycle_place < period (sheet_in s) (reg s clock_row in_force_place)

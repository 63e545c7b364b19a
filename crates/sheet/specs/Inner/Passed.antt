-- What the rules that a sheet has passed settle, in numbers: the inner functions require these records.
use Rattle.std.specs.Prelude.{ℕ, ◌+◌, ◌*◌, ◌<◌, ◌≤◌, List, true, ◌≡◌, length}
use Rattle.torus.specs.Inner.Grid.{InGrid}
use Rattle.sheet.specs.declared.circuits.Circuit.{Circuit}
use Rattle.sheet.specs.declared.entries.Entry.{Entry}
use Rattle.sheet.specs.Sheet.{columns, rows, memory_words, circuits, schedules, stated_entries, period, circuit_at}
use Rattle.sheet.specs.Rules.{rule1, rule2, rule3, rule4, rule5, rule6, rule7, rule8, rule9, rule10, rule11}

-- after rules 1 and 2: the head is there, and its numbers are in their ranges
pub record Headed (z : List ℕ) : Type 0 where
  pub five : 5 ≤ length z
  pub columns_low : 2 ≤ columns z
  pub columns_high : columns z ≤ 4
  pub rows_low : 2 ≤ rows z
  pub rows_high : rows z ≤ 4
  pub memory_low : 1 ≤ memory_words z
  pub memory_high : memory_words z ≤ 16384
  pub circuits_high : circuits z ≤ 64
  pub schedules_low : 1 ≤ schedules z
  pub schedules_high : schedules z ≤ 8

-- after rule 3 too: the circuits and the schedules lie within the sheet
pub record Framed (z : List ℕ) : Type 0 where
  pub headed : Headed z
  pub circuits_end : 5 + 6 * circuits z + 2 ≤ length z
  pub divided : rule3 z ≡ true

-- a schedule that lies within the sheet, by its place
pub record Placed (z : List ℕ) (place : ℕ) : Type 0 where
  pub few : stated_entries z place ≤ 256
  pub ends : place + 2 + 4 * stated_entries z place ≤ length z

-- after rules 4 and 7 too: the circuits join nodes of the grid, and the entries' numbers are in their ranges
pub record Ranged (z : List ℕ) : Type 0 where
  pub framed : Framed z
  pub circuits_fit : rule4 z ≡ true
  pub entries_fit : rule7 z ≡ true

-- after rules 9 and 10 too: the routes lead to their ends, and the packets end in time
pub record Routed (z : List ℕ) : Type 0 where
  pub ranged : Ranged z
  pub routes_lead : rule9 z ≡ true
  pub packets_end : rule10 z ≡ true

-- all eleven rules are kept
pub record Passed (z : List ℕ) : Type 0 where
  pub rule1_kept : rule1 z ≡ true
  pub rule2_kept : rule2 z ≡ true
  pub rule3_kept : rule3 z ≡ true
  pub rule4_kept : rule4 z ≡ true
  pub rule5_kept : rule5 z ≡ true
  pub rule6_kept : rule6 z ≡ true
  pub rule7_kept : rule7 z ≡ true
  pub rule8_kept : rule8 z ≡ true
  pub rule9_kept : rule9 z ≡ true
  pub rule10_kept : rule10 z ≡ true
  pub rule11_kept : rule11 z ≡ true

-- a circuit that fits: its nodes are below a number of nodes, and its regions end within the memory
pub record CircuitSmall (count memory : ℕ) (c : Circuit) : Type 0 where
  pub source_inside : c.read.node < count
  pub destination_inside : c.receive.node < count
  pub read_ends : c.read.offset + c.read.size ≤ memory
  pub receive_ends : c.receive.offset + c.receive.size ≤ memory

-- an entry of schedule j whose numbers are in their ranges, and whose circuit joins nodes of the grid
pub record EntrySmall (z : List ℕ) (j : ℕ) (e : Entry) : Type 0 where
  pub offset_low : e.offset < period z j
  pub size_low : 2 ≤ e.size
  pub size_high : e.size ≤ 16
  pub circuit_inside : e.circuit < circuits z
  pub route_high : e.route ≤ 65535
  pub source_inside : InGrid (columns z) (rows z) (circuit_at z e.circuit).read.node
  pub destination_inside : InGrid (columns z) (rows z) (circuit_at z e.circuit).receive.node

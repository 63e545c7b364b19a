-- The places of wires in cycles in a table: wire number × stride + cycle is the place of a wire in a cycle.
use Rattle.std.specs.Prelude.{ℕ, zero, suc, ◌+◌, ◌*◌, ◌≤◌, ◌<◌, List, [], ◌++◌, map, Bool, true, false, not, ◌≡◌, length}
use Rattle.words.specs.Words.{word}
use Rattle.torus.specs.Inner.Grid.{InGrid}
use Rattle.torus.specs.Inner.Paths.{wire_number, wires_per_node}
use Rattle.torus.specs.Inner.Delays.{last_delay}
use Rattle.sheet.specs.declared.entries.Entry.{Entry}
use Rattle.sheet.specs.Sheet.{columns, rows, nodes, circuit_at}
use Rattle.sheet.specs.Wires.{WireCycle}
use Rattle.sheet.specs.Rules.{entry_route, entry_leads, entry_occupied}
use Rattle.occupancy.specs.Inner.Occupancy.{run, taken, any_taken, Takes}

-- the place of a wire in a cycle
abbrev pub place_of : ℕ → WireCycle → ℕ
place_of stride x = wire_number x.wire * stride + x.cycle

-- the places of the wires that an entry occupies
unfoldable pub entry_places : ℕ → List ℕ → Entry → List ℕ
entry_places stride z e = map (place_of stride) (entry_occupied z e)

-- the places of a packet of so many words that leaves its source from a cycle on: from wire i of a list on, so many wires with
-- their delays
unfoldable pub places : List ℕ → List ℕ → ℕ → ℕ → ℕ → ℕ → ℕ → List ℕ
places wires delays stride cycle size i zero = []
places wires delays stride cycle size i (suc left) =
    run size (word wires i * stride + (cycle + word delays i)) ++ places wires delays stride cycle size (i + 1) left

-- the wires' places lie in a table of so many words, with a word to spare
pub record Held (length : ℕ) (wires delays : List ℕ) (count stride cycle size : ℕ) : Type 0 where
  pub few : count ≤ 9
  pub stride_small : stride ≤ 65536
  pub cycle_small : cycle ≤ 65536
  pub size_low : 1 ≤ size
  pub size_high : size ≤ 16
  pub fits : (i : ℕ) → i < count → word wires i * stride + (cycle + word delays i) + size + 32 ≤ 32 * length

-- no place of the table is taken
pub record Free (table : List ℕ) : Type 0 where
  pub none : (x : ℕ) → taken table x ≡ false

-- the answer is whether none of the places was taken; then all of them are, else the table stays
pub record TakenOrKept (before after places : List ℕ) (answer : Bool) : Type 0 where
  pub free : answer ≡ not (any_taken before places)
  pub now_taken : answer ≡ true → Takes before after places
  pub kept : answer ≡ false → after ≡ before

-- a table of so many words holds all wires of a sheet in so many cycles, with a word to spare
abbrev pub HoldsAllWires : ℕ → List ℕ → ℕ → Type 0
HoldsAllWires length z stride = nodes z * wires_per_node * stride + 32 ≤ 32 * length

-- an entry that has passed the rules 9 and 10, with a stride that holds its cycles and a table that holds all wires
pub record Placeable (length : ℕ) (z : List ℕ) (e : Entry) (stride : ℕ) : Type 0 where
  pub source_inside : InGrid (columns z) (rows z) (circuit_at z e.circuit).read.node
  pub leads_there : entry_leads z e ≡ true
  pub in_time : e.offset + last_delay (entry_route z e) + e.size ≤ stride
  pub size_low : 1 ≤ e.size
  pub size_high : e.size ≤ 16
  pub stride_small : stride ≤ 65536
  pub holds_wires : HoldsAllWires length z stride

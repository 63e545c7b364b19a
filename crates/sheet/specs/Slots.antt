-- The slots of a sheet (document 01, 'slots': the offsets and lengths of a circuit's entries in a schedule), by the cycle in which they
-- begin.
use Rattle.std.specs.Prelude.{ℕ, ◌-◌, List, Bool}
use Rattle.words.specs.Tests.{◌and◌, ◌=?◌}
use Rattle.words.specs.Words.{pick, last_of}
use Rattle.sheet.specs.Sheet.{circuit_at, entries_of, entry_count, entry_at}

-- entry i of schedule j is of the circuit and begins in the cycle
unfoldable pub begins_at : List ℕ → ℕ → ℕ → ℕ → ℕ → Bool
begins_at z j cycle circuit i =
    (entry_at (entries_of z j) i).offset =? cycle and (entry_at (entries_of z j) i).circuit =? circuit

-- one more than the number of the circuit's entry that begins in the cycle, 0 where there is none (by number 8 there is at most one)
unfoldable pub entry_beginning : List ℕ → ℕ → ℕ → ℕ → ℕ
entry_beginning z j cycle circuit = last_of (entry_count (entries_of z j)) (begins_at z j cycle circuit)

-- the length of the slot that begins in the cycle, 0 where none does, and its packet's route
unfoldable pub slot_length : List ℕ → ℕ → ℕ → ℕ → ℕ
slot_length z j cycle circuit =
    pick (entry_beginning z j cycle circuit =? 0) 0 (entry_at (entries_of z j) (entry_beginning z j cycle circuit - 1)).size

unfoldable pub slot_route : List ℕ → ℕ → ℕ → ℕ → ℕ
slot_route z j cycle circuit =
    pick (entry_beginning z j cycle circuit =? 0) 0 (entry_at (entries_of z j) (entry_beginning z j cycle circuit - 1)).route

-- a circuit's source and destination node
abbrev pub source_of : List ℕ → ℕ → ℕ
source_of z circuit = (circuit_at z circuit).read.node

abbrev pub destination_of : List ℕ → ℕ → ℕ
destination_of z circuit = (circuit_at z circuit).receive.node

-- The slots that begin in a cycle, as a table by circuit, and one entry put into it.
use Rattle.std.specs.Prelude.{ℕ, ◌<◌, ◌≤◌, List, set}
use Rattle.words.specs.Tests.{◌=?◌}
use Rattle.words.specs.Words.{pick, tab}
use Rattle.sheet.specs.declared.entries.Entry.{Entry}
use Rattle.sheet.specs.Sheet.{entry_count, entry_at}
use Rattle.sheet.specs.Slots.{entry_beginning}
use Rattle.network.specs.Registers.{reg, sheet_in, clock_row, in_force_place, cycle_place}

-- one more than the entry that begins in this cycle, circuit by circuit, 0 where none does
unfoldable pub slot_table : List ℕ → List ℕ
slot_table s = tab 64 (λ c. entry_beginning (sheet_in s) (reg s clock_row in_force_place) (reg s clock_row cycle_place) c)

-- an entry's number put at its circuit, where it begins in the cycle
unfoldable pub slot_put : Entry → ℕ → ℕ → List ℕ → List ℕ
slot_put entry number cycle slots = pick (entry.offset =? cycle) (set slots entry.circuit number) slots

-- the first n entries are there, and begin before the cycle
pub record BegunBefore (entries : List ℕ) (cycle n : ℕ) : Type 0 where
  pub inside : n ≤ entry_count entries
  pub earlier : (k : ℕ) → k < n → (entry_at entries k).offset < cycle

-- What the input of `landings` holds (document 01, "The key's examples"), by the numbers of its words: the sheet's length, the sheet, the
-- memories, the number of transfers, five words each in the order of the start call, the cycles. What follows is ignored.
use Rattle.std.specs.Prelude.{ℕ, ◌+◌, ◌*◌, Bool, List, length}
use Rattle.words.specs.Tests.{◌<?◌}
use Rattle.words.specs.Words.{tab}
use Rattle.sheet.specs.Sheet.{meant, nodes, memory_words}
use Rattle.octets.specs.Octets.{word_in}

-- the most that the program takes, besides a sheet of any length that a sheet can have
abbrev pub most_memory : ℕ
most_memory = 4096

abbrev pub most_transfers : ℕ
most_transfers = 64

abbrev pub most_cycles : ℕ
most_cycles = 65536

-- the input ends before its first n words are whole
abbrev pub ends : List ℕ → ℕ → Bool
ends bytes n = length bytes <? 4 * n

-- the sheet, which may be no words
abbrev pub stated_length : List ℕ → ℕ
stated_length bytes = word_in bytes 0

unfoldable pub sheet_of : List ℕ → List ℕ
sheet_of bytes = tab (stated_length bytes) (λ k. word_in bytes (1 + k))

-- the memories of all nodes
abbrev pub memory_place : List ℕ → ℕ
memory_place bytes = 1 + stated_length bytes

unfoldable pub memory_size : List ℕ → ℕ
memory_size bytes = nodes (meant (sheet_of bytes)) * memory_words (meant (sheet_of bytes))

unfoldable pub memory_of : List ℕ → List ℕ
memory_of bytes = tab (memory_size bytes) (λ k. word_in bytes (memory_place bytes + k))

-- the transfers
abbrev pub transfers_place : List ℕ → ℕ
transfers_place bytes = memory_place bytes + memory_size bytes

unfoldable pub transfers : List ℕ → ℕ
transfers bytes = word_in bytes (transfers_place bytes)

-- the place of transfer k: circuit, read address, write address, count and kind
abbrev pub transfer_place : List ℕ → ℕ → ℕ
transfer_place bytes k = transfers_place bytes + 1 + 5 * k

-- the cycles
abbrev pub cycles_place : List ℕ → ℕ
cycles_place bytes = transfer_place bytes (transfers bytes)

unfoldable pub cycles_asked : List ℕ → ℕ
cycles_asked bytes = word_in bytes (cycles_place bytes)

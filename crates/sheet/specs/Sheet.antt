-- The words of a sheet (document 01, "The sheet"). A word past the end reads as 0.
use Rattle.std.specs.Prelude.{ℕ, zero, suc, ◌+◌, ◌-◌, ◌*◌, ◌/◌, Bool, List, [], ◌∷◌, length, take, drop}
use Rattle.words.specs.Tests.{◌≤?◌}
use Rattle.words.specs.Words.{word, pick}
use Rattle.sheet.specs.declared.circuits.Circuit.{Circuit}
use Rattle.sheet.specs.declared.entries.Entry.{Entry}

-- an idle network: 2 columns, 2 rows, 1 memory word a node, no circuits, and one schedule of period 9 without entries
abbrev pub blank_sheet : List ℕ
blank_sheet = 2 ∷ 2 ∷ 1 ∷ 0 ∷ 1 ∷ 9 ∷ 0 ∷ []

-- the sheet that handed-over words stand for: themselves, and no words for the idle network (document 02, L2). A state holds the sheet
-- that was meant, so the words in a state stand as they are.
unfoldable pub meant : List ℕ → List ℕ
meant [] = blank_sheet
meant (w ∷ z) = w ∷ z

-- the head of five words: columns, rows, memory words per node, number of circuits, number of schedules
abbrev pub columns : List ℕ → ℕ
columns z = word z 0

-- what the second word has more than the rows where the grid's vertical links are long (document 02, L7)
abbrev pub long_mark : ℕ
long_mark = 256

unfoldable pub is_long : List ℕ → Bool
is_long z = long_mark ≤? word z 1

unfoldable pub rows : List ℕ → ℕ
rows z = pick (is_long z) (word z 1 - long_mark) (word z 1)

abbrev pub memory_words : List ℕ → ℕ
memory_words z = word z 2

abbrev pub circuits : List ℕ → ℕ
circuits z = word z 3

abbrev pub schedules : List ℕ → ℕ
schedules z = word z 4

abbrev pub nodes : List ℕ → ℕ
nodes z = columns z * rows z

-- the most words that a sheet can have: a head, 64 circuits, and 8 schedules of 256 entries
abbrev pub sheet_words : ℕ
sheet_words = 5 + 6 * 64 + 8 * (2 + 4 * 256)

-- circuit k, six words behind the head: source, destination, read offset, read length, receive offset, receive length
unfoldable pub circuit_at : List ℕ → ℕ → Circuit
circuit_at z k = record {
  read = record { node = word z (5 + 6 * k); offset = word z (5 + 6 * k + 2); size = word z (5 + 6 * k + 3) };
  receive = record { node = word z (5 + 6 * k + 1); offset = word z (5 + 6 * k + 4); size = word z (5 + 6 * k + 5) };
}

-- a schedule, by its place in the sheet: its period, its number of entries, then four words an entry
abbrev pub stated_entries : List ℕ → ℕ → ℕ
stated_entries z place = word z (place + 1)

-- the place of the schedule behind the one at a place
abbrev pub next_place : List ℕ → ℕ → ℕ
next_place z place = place + 2 + 4 * stated_entries z place

-- the place of schedule j, behind the circuits
unfoldable pub schedule_place : List ℕ → ℕ → ℕ
schedule_place z zero = 5 + 6 * circuits z
schedule_place z (suc j) = next_place z (schedule_place z j)

-- the period of schedule j
abbrev pub period : List ℕ → ℕ → ℕ
period z j = word z (schedule_place z j)

-- the entries of schedule j: a part of the sheet
unfoldable pub entries_of : List ℕ → ℕ → List ℕ
entries_of z j = take (4 * stated_entries z (schedule_place z j)) (drop (schedule_place z j + 2) z)

-- how many entries such a part has
abbrev pub entry_count : List ℕ → ℕ
entry_count entries = length entries / 4

-- entry i of such a part, four words: offset, length, circuit, route
unfoldable pub entry_at : List ℕ → ℕ → Entry
entry_at entries i = record {
  offset = word entries (4 * i);
  size = word entries (4 * i + 1);
  circuit = word entries (4 * i + 2);
  route = word entries (4 * i + 3);
}

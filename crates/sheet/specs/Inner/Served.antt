-- Marks of the circuits that have a slot: a place for each of the 64 that a sheet can have, 1 where it is marked.
use Rattle.std.specs.Prelude.{ℕ, ◌<◌, List, ◌≡◌, length}
use Rattle.words.specs.Tests.{any}
use Rattle.words.specs.Words.{word, pick, tab}
use Rattle.sheet.specs.Sheet.{entries_of, entry_count, entry_at}
use Rattle.sheet.specs.Rules.{serves}

-- marks, and entries each of which has a place there
pub record Markable (entries marks : List ℕ) : Type 0 where
  pub places : length marks ≡ 64
  pub inside : (i : ℕ) → i < entry_count entries → (entry_at entries i).circuit < 64

-- the marks once the entries' circuits are marked too
unfoldable pub marked_by : List ℕ → List ℕ → List ℕ
marked_by entries marks = tab 64 (λ c. pick (serves entries c) 1 (word marks c))

-- the marks of the circuits that the first n schedules serve
unfoldable pub marks_of : List ℕ → ℕ → List ℕ
marks_of z n = tab 64 (λ c. pick (any n (λ j. serves (entries_of z j) c)) 1 0)

-- Circuits in the order of number 5, with their receive regions apart: tested by one key, a region's node and its offset in one number.
use Rattle.std.specs.Prelude.{ℕ, ◌+◌, ◌*◌, ◌<◌, ◌≤◌, List, true, ◌≡◌, length}
use Rattle.words.specs.Tests.{all}
use Rattle.words.specs.Words.{word}
use Rattle.sheet.specs.declared.circuits.Region.{Region}
use Rattle.sheet.specs.Sheet.{memory_words, nodes, circuit_at}
use Rattle.sheet.specs.Rules.{circuit_fits}

-- a region's beginning and its end; an end within a node's memory is below the next node's keys
abbrev pub start_key : Region → ℕ
start_key r = r.node * 65536 + r.offset

abbrev pub end_key : Region → ℕ
end_key r = start_key r + r.size

-- the first k circuits fit, and each receive region ends before the later ones begin
pub record Ordered (z : List ℕ) (k : ℕ) : Type 0 where
  pub fit : all k (λ i. circuit_fits (nodes z) (memory_words z) (circuit_at z i)) ≡ true
  pub chain : (i j : ℕ) → i < j → j < k → end_key (circuit_at z i).receive ≤ start_key (circuit_at z j).receive

-- two tables by node: the first k circuits that a node receives have numbers from the one word on and below the other
pub record ByNode (z from to : List ℕ) (k : ℕ) : Type 0 where
  pub from_long : length from ≡ 16
  pub to_long : length to ≡ 16
  pub within : (i : ℕ) → i < k → (word from (circuit_at z i).receive.node ≤ i) × (i < word to (circuit_at z i).receive.node)
  pub below : (n : ℕ) → word to n ≤ k

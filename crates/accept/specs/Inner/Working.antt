-- What the pass works out of a sheet once, before it reads the entries.
use Rattle.std.specs.Prelude.{ℕ, ◌+◌, ◌*◌, ◌<◌, ◌≤◌, List, ◌≡◌, length}
use Rattle.words.specs.Words.{word}
use Rattle.torus.specs.Torus.{neighbour_of}
use Rattle.torus.specs.Inner.Paths.{wires_per_node}
use Rattle.sheet.specs.Sheet.{circuits}
use Rattle.sheet.specs.Slots.{source_of, destination_of}
use Rattle.routes.specs.Inner.Joined.{circuit_span}

-- a table of neighbours by wire: at the number of a node's side wire the first wire of the node that it leads to
pub record Neighbours (cols rows : ℕ) (near : List ℕ) : Type 0 where
  pub long : cols * rows * wires_per_node ≤ length near
  pub next : (node side : ℕ) → node < cols * rows → side < 4
      → word near (node * wires_per_node + side) ≡ neighbour_of cols rows node side * wires_per_node

-- a circuit's source and destination, by their first wires, and its span, in one number: 8 bits, 8 bits and the rest
unfoldable pub ends_word : List ℕ → ℕ → ℕ
ends_word z k =
    source_of z k * wires_per_node + destination_of z k * wires_per_node * 256 + circuit_span z k * 65536

-- a table of these numbers by circuit
pub record Ends (z ends : List ℕ) : Type 0 where
  pub long : length ends ≡ 64
  pub each : (k : ℕ) → k < circuits z → word ends k ≡ ends_word z k

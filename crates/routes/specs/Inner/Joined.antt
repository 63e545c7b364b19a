-- What the rules 4 and 7 settle of an entry that the rules 9 and 10 ask: its circuit joins two nodes of the grid.
use Rattle.std.specs.Prelude.{ℕ, ◌+◌, ◌*◌, ◌<◌, ◌≤◌, List}
use Rattle.words.specs.Tests.{◌<?◌}
use Rattle.words.specs.Words.{pick, tab}
use Rattle.torus.specs.Route.{router_cycles}
use Rattle.torus.specs.Inner.Grid.{InGrid}
use Rattle.sheet.specs.declared.entries.Entry.{Entry}
use Rattle.sheet.specs.Sheet.{columns, rows, circuits, circuit_at}
use Rattle.sheet.specs.Flight.{hops_of, vertical_of}

pub record Joined (z : List ℕ) (e : Entry) : Type 0 where
  pub source_inside : InGrid (columns z) (rows z) (circuit_at z e.circuit).read.node
  pub destination_inside : InGrid (columns z) (rows z) (circuit_at z e.circuit).receive.node
  pub circuit_inside : e.circuit < circuits z
  pub circuits_high : circuits z ≤ 64

-- an entry whose numbers are small, so that their sums fit a word
pub record Timed (z : List ℕ) (P : ℕ) (e : Entry) : Type 0 where
  pub joined : Joined z e
  pub offset_small : e.offset ≤ 1024
  pub size_low : 1 ≤ e.size
  pub size_high : e.size ≤ 16
  pub period_small : P ≤ 1024

-- the cycles of the hops between a circuit's nodes, which are a router's cycles fewer than its flight
unfoldable pub circuit_span : List ℕ → ℕ → ℕ
circuit_span z k = router_cycles * hops_of z k + vertical_of z k

-- the spans of all circuits, 0 for the numbers that no circuit has
unfoldable pub circuit_spans : List ℕ → List ℕ
circuit_spans z = tab 64 (λ k. pick (k <? circuits z) (circuit_span z k) 0)

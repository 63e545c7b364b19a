-- What a sheet's slots give their packets: each its way through the routers, the end of it in time, and wires of its own.
-- Assumes nothing.
use Prim.Native.Nat.{ℕ, suc, ◌+◌, ◌≤◌, ◌<◌}
use mathlib.Core.List.{List}
use mathlib.Core.Path.{◌≡◌}
use Rattle.packet.specs.Header.{route_of, routes}
use Rattle.torus.specs.Torus.{neighbour_of, opposite_of}
use Rattle.torus.specs.Route.{router_cycles, hop_cycles}
use Rattle.sheet.specs.Sheet.{columns, rows, is_long, schedules, nodes, period}
use Rattle.sheet.specs.Slots.{slot_length, slot_route, source_of, destination_of}
use Rattle.network.specs.View.{source_input, memory_output}
use Rattle.network.specs.Cycle.{output_for}
use Rattle.isolation.proofs.Routes.Way.{header_after}

-- a slot of a sheet: in a schedule, an entry of a circuit begins in the cycle
pub record Slot (z : List ℕ) (schedule cycle circuit : ℕ) : Type 0 where
  pub schedule_inside : schedule < schedules z
  pub begins : 0 < slot_length z schedule cycle circuit

-- a way through routers, by router: node, input and output, and the cycles from the source's wire to the router's input wire
pub record Course : Type 0 where
  pub node : ℕ → ℕ
  pub input : ℕ → ℕ
  pub output : ℕ → ℕ
  pub delay : ℕ → ℕ

-- rules 4, 7, 9 and 10 at a slot: its way through so many routers, and the cycles from its source's wire to its end's memory wire
pub record Leads (z : List ℕ) (schedule cycle circuit routers travel : ℕ) (way : Course) : Type 0 where
  pub away : 2 ≤ routers
  pub long : 2 ≤ slot_length z schedule cycle circuit
  pub route_fits : slot_route z schedule cycle circuit < routes
  pub in_grid : (k : ℕ) → k < routers → way.node k < nodes z
  pub first_node : way.node 0 ≡ source_of z circuit
  pub first_input : way.input 0 ≡ source_input
  pub next_node : (k : ℕ) → suc k < routers → way.node (suc k) ≡ neighbour_of (columns z) (rows z) (way.node k) (way.output k)
  pub next_input : (k : ℕ) → suc k < routers → way.input (suc k) ≡ opposite_of (way.output k)
  pub side_output : (k : ℕ) → suc k < routers → way.output k < 4
  pub last_output : (k : ℕ) → suc k ≡ routers → way.output k ≡ memory_output
  pub last_node : (k : ℕ) → suc k ≡ routers → way.node k ≡ destination_of z circuit
  pub asked_output : (word k : ℕ) → route_of word ≡ slot_route z schedule cycle circuit → k < routers
      → output_for (way.input k) (header_after k word) ≡ way.output k
  pub first_delay : way.delay 0 ≡ 0
  pub next_delay : (k : ℕ) → way.delay (suc k) ≡ way.delay k + hop_cycles (is_long z) (way.output k)
  pub last_delay_at : (k : ℕ) → suc k ≡ routers → way.delay k + router_cycles ≡ travel
  pub rule10 : (k : ℕ) → suc k ≡ routers
      → cycle + slot_length z schedule cycle circuit + way.delay k ≤ period z schedule + router_cycles

-- the ways of a sheet's slots, by schedule, cycle and circuit; all slots of a circuit have as many routers and travel as long
pub record Ways (z : List ℕ) : Type 0 where
  pub routers : ℕ → ℕ
  pub travel : ℕ → ℕ
  pub course : ℕ → ℕ → ℕ → Course
  pub leads : (schedule cycle circuit : ℕ) → Slot z schedule cycle circuit
      → Leads z schedule cycle circuit (routers circuit) (travel circuit) (course schedule cycle circuit)
  -- rule 11, with rule 9 for one slot's own words: an output's wire in a cycle is of one slot, and of one router of its way
  pub rule11 : (schedule cycle cycle' circuit circuit' k k' j j' : ℕ)
      → Slot z schedule cycle circuit → Slot z schedule cycle' circuit' → k < routers circuit → k' < routers circuit'
      → j < slot_length z schedule cycle circuit → j' < slot_length z schedule cycle' circuit'
      → cycle + j + (course schedule cycle circuit).delay k ≡ cycle' + j' + (course schedule cycle' circuit').delay k'
      → (course schedule cycle circuit).node k ≡ (course schedule cycle' circuit').node k'
      → (course schedule cycle circuit).output k ≡ (course schedule cycle' circuit').output k'
      → (cycle ≡ cycle') × (circuit ≡ circuit') × (k ≡ k')
  -- rule 11 at a source's wire
  pub rule11_source : (schedule cycle cycle' circuit circuit' j j' : ℕ)
      → Slot z schedule cycle circuit → Slot z schedule cycle' circuit'
      → j < slot_length z schedule cycle circuit → j' < slot_length z schedule cycle' circuit' → cycle + j ≡ cycle' + j'
      → source_of z circuit ≡ source_of z circuit' → (cycle ≡ cycle') × (circuit ≡ circuit')

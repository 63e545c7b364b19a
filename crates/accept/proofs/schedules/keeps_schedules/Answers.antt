-- `accept::schedules::keeps_schedules` meets its contract: the table that is chosen has room for the longest period, and so for each.
use Prim.Native.Nat.{ℕ, ◌+◌, ◌*◌, ◌/◌, ◌≤◌}
use mathlib.Core.Bool.{false≢true}
use mathlib.Core.Path.{◌≡◌, ap}
use native.Mathlib.Omega.{arith}
use native.Mathlib.Nat.{mul-le-mul}
use Rattle.torus.specs.Inner.Paths.{wires_per_node}
use Rattle.accept.proofs.ScheduleLaws.{room_each, room_largest, few_wires}
use Rattle.accept.proofs.schedules.keeps_schedules.Goals as goal

pub returns-then-longest-gt1024 : goal.returns-then-longest-gt1024
returns-then-longest-gt1024 c = λ y. absurd (false≢true y)

pub overflow_mul-need-2 : goal.overflow_mul-need-2
overflow_mul-need-2 c =
    omega (
      arith,
      mul-le-mul {n₁ = c.nodes.result * 6} {m₁ = c.longest_period-longest.result / 32 + 2} {n₂ = 96} {m₂ = 34} (omega (arith, c.nodes.ensures.1)) (omega (arith, c.if-longest-gt1024.false)),
    )

-- the tables hold all wires of the grid
wide : {nodes count : ℕ} → count ≡ nodes → count ≤ 16 → nodes * wires_per_node ≤ 96
wide e h = omega arith

pub kept_in_tables-requires : goal.kept_in_tables-requires
kept_in_tables-requires c =
    let room = room_each c.args.circuits.frame.words.now _ _ _ (ap (λ (n : ℕ). n * wires_per_node) c.nodes.ensures.0) c.longest_period-longest.ensures (omega arith) in
    (omega arith, few_wires _ c.args.circuits.frame.framed room, omega arith, room)

pub kept_in_tables-requires-in-65-to-512 : goal.kept_in_tables-requires-in-65-to-512
kept_in_tables-requires-in-65-to-512 c =
    let room = room_each c.args.circuits.frame.words.now _ _ _ (ap (λ (n : ℕ). n * wires_per_node) c.nodes.ensures.0) c.longest_period-longest.ensures (omega arith) in
    (omega arith, wide c.nodes.ensures.0 c.nodes.ensures.1, omega arith, room)

pub kept_in_tables-requires-in-513-to-1152 : goal.kept_in_tables-requires-in-513-to-1152
kept_in_tables-requires-in-513-to-1152 c =
    let room = room_each c.args.circuits.frame.words.now _ _ _ (ap (λ (n : ℕ). n * wires_per_node) c.nodes.ensures.0) c.longest_period-longest.ensures (omega arith) in
    (omega arith, wide c.nodes.ensures.0 c.nodes.ensures.1, omega arith, room)

pub kept_in_tables-requires-in_default : goal.kept_in_tables-requires-in_default
kept_in_tables-requires-in_default c = (
  omega arith,
  wide c.nodes.ensures.0 c.nodes.ensures.1,
  omega arith,
  λ j h. room_largest _ c.args.circuits.frame.framed j (omega (arith, c.longest_period-longest.ensures j h, c.if-longest-gt1024.false)),
)

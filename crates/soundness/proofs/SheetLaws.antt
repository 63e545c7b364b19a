-- What a sheet that passes settles for a session, in numbers: its length, the grid, the regions and the periods.
-- Assumes nothing.
use Prim.Native.Nat.{ℕ, zero, suc, ◌+◌, ◌*◌, ◌≤◌, ◌<◌}
use mathlib.Core.List.{List}
use mathlib.Core.Path.{◌≡◌}
use native.Mathlib.Omega.{arith}
use lib.ListN.{length}
use Rattle.words.proofs.TestLaws.{and_right, is=}
use Rattle.sheet.specs.Sheet.{memory_words, circuits, schedules, nodes, circuit_at, schedule_place, period}
use Rattle.sheet.specs.Rules.{rule3, verdict}
use Rattle.sheet.specs.Inner.Passed.{Framed, Ranged, CircuitSmall}
use Rattle.sheet.proofs.PassedLaws.{nodes_few, placed, circuit_small, period_range}
use Rattle.sheet.proofs.VerdictLaws.{routed}
use Rattle.network.specs.Registers.{sheet_words}

-- the bounds of a sheet that passes
pub record SheetBounds (z : List ℕ) : Type 0 where
  pub ranged : Ranged z
  pub few_nodes : nodes z ≤ 16
  pub few_circuits : circuits z ≤ 64
  pub some_schedule : 1 ≤ schedules z
  pub small_memory : memory_words z ≤ 16384
  pub fits : length z ≤ sheet_words

-- each schedule adds at most 2 words and 256 entries
place_high : (z : List ℕ) → Framed z → (j : ℕ) → j ≤ schedules z → schedule_place z j ≤ 389 + 1026 * j
unfolding schedule_place
place_high z f zero l = omega (arith, f.headed.circuits_high)
place_high z f (suc j) l = omega (arith, place_high z f j (omega arith), (placed z f j (omega arith)).few)

length_high : (z : List ℕ) → Framed z → length z ≤ sheet_words
unfolding rule3
length_high z f =
    omega (arith, place_high z f (schedules z) (omega arith), f.headed.schedules_high, is= _ _ (and_right _ _ f.divided))

pub sheet_bounds : (z : List ℕ) → verdict z ≡ 0 → SheetBounds z
sheet_bounds z e =
    let r = (routed z e).ranged in
    let h = r.framed.headed in
    record {
      ranged = r;
      few_nodes = nodes_few z h;
      few_circuits = h.circuits_high;
      some_schedule = h.schedules_low;
      small_memory = h.memory_high;
      fits = length_high z r.framed;
    }

-- a period has a cycle
pub period_some : (z : List ℕ) → SheetBounds z → (j : ℕ) → j < schedules z → 0 < period z j
period_some z b j l = omega (arith, (period_range z b.ranged j l).0)

-- a circuit's regions end within the memory
pub circuit_bounds : (z : List ℕ) → SheetBounds z → (c : ℕ) → c < circuits z → CircuitSmall (nodes z) (memory_words z) (circuit_at z c)
circuit_bounds z b c l = circuit_small z b.ranged.circuits_fit c l

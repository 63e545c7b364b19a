-- A state that has passed 12 to 14 is what a cycle in place requires, and the number of a cycle from its fault's.
-- Assumes nothing.
use Rattle.std.proofs.Common.{◌≡◌, ℕ, ◌<◌, List, arith}
use Rattle.sheet.specs.Sheet.{circuits}
use Rattle.sheet.proofs.VerdictLaws.{passed as passed-rules}
use Rattle.network.specs.Registers.{sheet_in}
use Rattle.network.specs.OneMachine.{cycle_fault}
use Rattle.sources.specs.Inner.Steps.{Sending}
use Rattle.tables.specs.Inner.Ready.{Ready}
use Rattle.soundness.proofs.SheetLaws.{SheetBounds, sheet_bounds, circuit_bounds}
use Rattle.soundness.proofs.SoundLaws.{SoundParts, sound_parts}
use Rattle.soundness.proofs.PairedLaws.{sound_sendable}
use Rattle.session.specs.Calls.{memory_number, cycle_number}
use Rattle.session.proofs.NumberLaws.{MemoryPassed, memory_passed}
use Rattle.words.proofs.NumberLaws.{then_first, then_next}

module _ (s m : List ℕ) (e : memory_number s m ≡ 0) where
  passed : MemoryPassed s m
  passed = memory_passed s m e

  parts : SoundParts (sheet_in s) s
  parts = sound_parts s passed.state.is_sound

  bounds : SheetBounds (sheet_in s)
  bounds = sheet_bounds (sheet_in s) parts.sheet_passes

  -- a packet being sent has words left, and what is left of a transfer lies in its regions, which end within the memory
  sending : (c : ℕ) → c < circuits (sheet_in s) → Sending s c
  sending c l =
      let t = parts.transfers c l in
      let b = circuit_bounds (sheet_in s) bounds c l in
      record {
        some_left = λ h. omega (arith, t.to_go_at, h);
        read_rises = λ h. omega (arith, (t.reads (omega (arith, t.to_go_at, h))).high, b.read_ends, bounds.small_memory);
        write_rises = λ h. omega (arith, (t.writes (omega (arith, t.to_go_at, h))).high, b.receive_ends, bounds.small_memory);
      }

  pub passed_ready : Ready s m
  passed_ready = record {
    sendable = sound_sendable s passed.state.is_sound;
    steppable = record {
      long = omega (arith, passed.state.long);
      framed = bounds.ranged.framed;
      in_force = parts.schedule_inside;
      sending = sending;
    };
    clocked = record {
      long = omega (arith, passed.state.long);
      framed = bounds.ranged.framed;
      in_force = parts.schedule_inside;
      in_time = parts.cycle_inside;
    };
    ascending = (passed-rules (sheet_in s) parts.sheet_passes).rule8_kept;
    whole = passed.whole;
  }

  -- the number: the fault's
  pub cycle_fault_is : {n : ℕ} → n ≡ cycle_fault s → n ≡ cycle_number s m
  unfolding cycle_number
  cycle_fault_is f = then_next e f

-- a number of 12 to 14 is the cycle's number
pub cycle_early : {n : ℕ} (s m : List ℕ) → n ≡ memory_number s m → (n ≡ 0 → ⊥) → n ≡ cycle_number s m
unfolding cycle_number
cycle_early s m e ne = then_first _ e ne

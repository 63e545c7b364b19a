-- A sound state and its own sheet are what the source wires' functions require.
-- Assumes nothing.
use Prim.Native.Nat.{ℕ}
use mathlib.Core.Bool.{true}
use mathlib.Core.List.{List}
use mathlib.Core.Path.{◌≡◌, refl}
use native.Mathlib.Omega.{arith}
use Rattle.network.specs.Registers.{reg, sheet_in, kind_row}
use Rattle.network.specs.Inner.Paired.{Paired, Sendable}
use Rattle.soundness.specs.Sound.{sound}
use Rattle.soundness.proofs.SheetLaws.{SheetBounds, sheet_bounds, circuit_bounds}
use Rattle.soundness.proofs.SoundLaws.{SoundParts, sound_parts, travels_small}

module _ (s : List ℕ) (e : sound s ≡ true) where
  parts : SoundParts (sheet_in s) s
  parts = sound_parts s e

  bounds : SheetBounds (sheet_in s)
  bounds = sheet_bounds (sheet_in s) parts.sheet_passes

  pub sound_paired : Paired s (sheet_in s)
  sound_paired = record { own = refl; framed = bounds.ranged.framed; in_force = parts.schedule_inside }

  -- what is left of a transfer lies in its regions, which end within the memory
  pub sound_sendable : Sendable s (sheet_in s)
  sound_sendable = record {
    paired = sound_paired;
    ranged = bounds.ranged;
    kind_fits = λ c l some. omega (arith, travels_small (reg s kind_row c) ((parts.transfers c l).travels some));
    address_fits =
        λ c l some. omega (arith, ((parts.transfers c l).writes some).high, (circuit_bounds (sheet_in s) bounds c l).receive_ends, bounds.small_memory);
  }

-- The words that a cycle is carried out on have passed 12 to 14: they are those of which network/specs/OneMachine speaks.
-- Assumes nothing.
use Rattle.std.proofs.Common.{◌≡◌, ℕ, List}
use Rattle.network.specs.OneMachine.{Accepted}
use Rattle.soundness.proofs.SoundLaws.{sound_parts}
use Rattle.session.specs.Calls.{memory_number}
use Rattle.session.proofs.NumberLaws.{memory_passed}

pub accepted : (s m : List ℕ) → memory_number s m ≡ 0 → Accepted s m
accepted s m e =
    let p = memory_passed s m e in
    record { long = p.state.long; passes = (sound_parts s p.state.is_sound).sheet_passes; whole = p.whole }

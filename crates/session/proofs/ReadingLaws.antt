-- The numbers of the calls from the tests that the code makes in turn, and the answers from their numbers.
-- Assumes nothing.
use Rattle.std.proofs.Common.{◌≡◌, ℕ, List}
use Rattle.sheet.specs.Inner.Passed.{Headed}
use Rattle.network.specs.Registers.{sheet_in}
use Rattle.session.specs.Calls.{state_number, memory_number}
use Rattle.words.proofs.NumberLaws.{then_zero}
use Rattle.session.proofs.NumberLaws.{state_passed}
use Rattle.soundness.proofs.SoundLaws.{sound_parts}
use Rattle.soundness.proofs.SheetLaws.{SheetBounds, sheet_bounds}

-- what the sheet of a state that passed 12 and 13 settles
pub state_bounds : (s : List ℕ) → state_number s ≡ 0 → SheetBounds (sheet_in s)
state_bounds s e = sheet_bounds (sheet_in s) (sound_parts s (state_passed s e).is_sound).sheet_passes

pub state_headed : (s : List ℕ) → state_number s ≡ 0 → Headed (sheet_in s)
state_headed s e = (state_bounds s e).ranged.framed.headed

-- what passed 12 to 14 passed 12 and 13
pub memory_state : (s m : List ℕ) → memory_number s m ≡ 0 → state_number s ≡ 0
unfolding memory_number
memory_state s m e = (then_zero _ _ e).0

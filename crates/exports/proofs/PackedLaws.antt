-- The place of a schedule's entries among handed-over words.
-- Assumes nothing.
use Prim.Native.Nat.{ℕ, ◌+◌}
use mathlib.Core.Path.{◌≡◌, refl}
use mathlib.Core.List.{List, [], ◌∷◌}
use native.Mathlib.Omega.{arith}
use lib.ListN.{length}
use Rattle.sheet.specs.Sheet.{schedule_place}
use Rattle.exports.specs.Packed.{entries_place}

pub place_none : (z : List ℕ) (j : ℕ) → length z ≡ 0 → 0 ≡ entries_place z j
unfolding entries_place
place_none [] j e = refl
place_none (w ∷ z) j e = absurd (omega arith)

pub place_some : (z : List ℕ) (j : ℕ) → (length z ≡ 0 → ⊥) → schedule_place z j + 2 ≡ entries_place z j
unfolding entries_place
place_some [] j ne = absurd (ne refl)
place_some (w ∷ z) j ne = refl

-- A quiet cycle is a cycle: it has no fault, and crossing it leaves the words that a cycle leaves.
-- Assumes nothing.
use mathlib.Core.Bool.{Bool, true}
use mathlib.Core.List.{List}
use mathlib.Core.Path.{◌≡◌, refl, sym, ◌∙◌}
use Prim.Native.Nat.{ℕ}
use Rattle.words.specs.Tests.{◌=?◌}
use Rattle.words.specs.Words.{pick}
use Rattle.network.specs.Inner.Machine.{next_state, next_memory}
use Rattle.network.specs.Inner.Quiet.{is_quiet, quiet_next}
use Rattle.network.specs.OneMachine.{cycle_fault}
use Rattle.network.proofs.QuietLaws.{quiet_is, quiet_state, quiet_memory, quiet_calm}
use Rattle.tables.specs.Inner.Ready.{Ready}
use Rattle.tables.proofs.PrepareLaws.{no_fault, changed}

-- the cycle: no fault, and the words afterwards
pub quiet_step : {s m : List ℕ} → Ready s m → {r : Bool} → r ≡ is_quiet s → r ≡ true → {after : List ℕ} → after ≡ quiet_next s
    → (0 ≡ cycle_fault s) × ((after ≡ pick (0 =? 0) (next_state s m) s) × (m ≡ pick (0 =? 0) (next_memory s m) m))
quiet_step {s} {m} R e h w =
    let q = quiet_is s (sym e ∙ h) in
    let H = R.steppable.framed.headed in (
      no_fault s (sym (quiet_calm s H q)) refl,
      (changed _ _ (w ∙ quiet_state s H q R.steppable.long m), changed _ _ (sym (quiet_memory s H q m R.whole))),
    )

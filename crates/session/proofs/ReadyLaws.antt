-- The lent words stay such that 12 to 14 do not apply: after the load, and after each call, which is carried out or changes nothing.
-- Assumes nothing.
use Rattle.std.proofs.Common.{◌≡◌, ℕ, ◌*◌, Bool, true, false, List, sym, refl, ap, ◌∙◌, arith}
use Rattle.words.specs.Tests.{◌=?◌}
use Rattle.words.specs.Words.{pick}
use Rattle.words.proofs.TestLaws.{yes=, yes≤, is=}
use Rattle.sheet.specs.Sheet.{meant, nodes, memory_words}
use Rattle.session.specs.Calls.{lend, load, after}
use Rattle.session.specs.Calls.{state_number, memory_number, loaded, Lent, Call, number, does, is_load}
use Rattle.words.proofs.NumberLaws.{zero_then, zero_unless}
use Rattle.session.proofs.KeptLaws.{state_passes}
use Rattle.session.proofs.WritingLaws.{state_written}
use Rattle.session.proofs.NumberLaws.{MemoryPassed, memory_passed, load_passed}
use Rattle.session.proofs.KeptLaws.{load_sound, load_length, loaded_sheet, sound_kept, state_length_kept, memory_length_kept, sheet_same}

ready : (s m : List ℕ) → MemoryPassed s m → memory_number s m ≡ 0
unfolding memory_number state_number
ready s m p =
    zero_then (zero_then (zero_unless 12 (yes≤ p.state.long)) (zero_unless 13 p.state.is_sound))
    (zero_unless 14 (yes= p.whole))

pub ready_loaded : (z s m : List ℕ) → number (load z) (lend s m) ≡ 0 → memory_number (after (load z) (lend s m)).state m ≡ 0
ready_loaded z s m e =
    let p = load_passed (meant z) s m e in
    ap (λ (x : List ℕ). memory_number x m) (sym (state_written (load z) (lend s m) refl e refl))
    ∙ ready (loaded (meant z) s) m
    (record {
      state = record { long = omega (arith, p.long, load_length (meant z) s m e); is_sound = load_sound (meant z) s m e };
      whole = p.whole ∙ sym (ap (λ (x : List ℕ). nodes x * memory_words x) (loaded_sheet (meant z) s));
    })

-- what holds of words that stay, and of words after a call that is carried out, holds of the words after a call
pub after_has : (P : Lent → Type 0) (x : Call) (w : Lent) → (number x w ≡ 0 → P (does x w)) → P w → P (after x w)
unfolding after
after_has P x w a b = go (number x w =? 0) refl
  where
    go : (t : Bool) → (number x w =? 0) ≡ t → P (pick t (does x w) w)
    go true e = a (is= _ _ e)
    go false e = b

pub ready_after : (x : Call) (w : Lent)
    → is_load x ≡ false
    → memory_number w.state w.memory ≡ 0
    → memory_number (after x w).state (after x w).memory ≡ 0
ready_after x w n r =
    let p = memory_passed w.state w.memory r in
    after_has (λ (y : Lent). memory_number y.state y.memory ≡ 0) x w
    (λ e.
    ready (does x w).state (does x w).memory
    (record {
      state = record { long = omega (arith, p.state.long, state_length_kept x w e); is_sound = sound_kept x w e };
      whole =
          memory_length_kept x w ∙ p.whole ∙ sym (ap (λ (z : List ℕ). nodes z * memory_words z) (sheet_same x w n e));
    }))
    r

-- the state alone
pub passes_after : (x : Call) (w : Lent) → state_number w.state ≡ 0 → state_number (after x w).state ≡ 0
passes_after x w p = after_has (λ (y : Lent). state_number y.state ≡ 0) x w (λ e. state_passes x w e p) p

-- A session rests: the quiet cycles that the machine crosses at once are so many cycles on the lent words, one after another.
-- Assumes nothing.
use Rattle.std.proofs.Common.{◌≡◌, ℕ, zero, suc, ◌+◌, ◌<◌, ◌≤◌, true, List, length, sym, refl, ap, ◌∙◌, subst, ap₂, arith}
use native.Mathlib.Decide.{ℕ_discrete}
use Rattle.words.proofs.TestLaws.{and_both}
use Rattle.sheet.specs.Sheet.{nodes}
use Rattle.sheet.specs.Inner.Passed.{Headed}
use Rattle.sheet.proofs.PassedLaws.{nodes_few}
use Rattle.sheet.proofs.VerdictLaws.{passed as passed-rules}
use Rattle.network.specs.declared.Live.{Live}
use Rattle.network.specs.View.{nothing}
use Rattle.network.specs.Registers.{reg, sheet_in, moving_words, clock_row, cycle_place, landing_mark, landing_kind, landing_address, landing_word}
use Rattle.network.specs.Seen.{seen_landing}
use Rattle.network.specs.Inner.Quiet.{is_still, is_quiet, quiet_next, clock_on}
use Rattle.network.specs.Inner.Live.{Covered}
use Rattle.network.proofs.LiveLaws.{covered_rest}
use Rattle.network.proofs.QuietLaws.{quiet_is, quiet_state, quiet_memory}
use Rattle.network.proofs.RestLaws.{first_cycle, more_cycles, quiet_after, none_landed}
use Rattle.receivers.specs.Inner.Required.{Clocked}
use Rattle.quiet.specs.Inner.Settled.{Settled}
use Rattle.quiet.specs.Inner.Crossed.{Stretch, Crossed}
use Rattle.machine.proofs.QuietStep.{quiet_step}
use Rattle.soundness.proofs.SheetLaws.{sheet_bounds}
use Rattle.soundness.proofs.SoundLaws.{sound_parts}
use Rattle.soundness.proofs.PairedLaws.{sound_paired}
use Rattle.session.specs.Calls.{state_number, memory_number, last_landing, Lent, lend, cycle, number, after}
use Rattle.session.specs.Inner.Resting.{cycles_on, Rested}
use Rattle.session.proofs.NumberLaws.{state_passed}
use Rattle.session.proofs.ReadyLaws.{ready_after}
use Rattle.session.proofs.WritingLaws.{after_done}
use Rattle.session.proofs.CyclingLaws.{passed_ready, cycle_fault_is}

-- a state that has passed 12 and 13 is what a quiet cycle requires
pub passed_settled : (s : List ℕ) → state_number s ≡ 0 → Settled s
passed_settled s e =
    let p = state_passed s e in
    let parts = sound_parts s p.is_sound in
    let bounds = sheet_bounds (sheet_in s) parts.sheet_passes in
    record {
      paired = sound_paired s p.is_sound;
      ranged = bounds.ranged;
      clocked = record {
        long = omega (arith, p.long);
        framed = bounds.ranged.framed;
        in_force = parts.schedule_inside;
        in_time = parts.cycle_inside;
      };
      ascending = (passed-rules (sheet_in s) parts.sheet_passes).rule8_kept;
    }

-- one quiet cycle on lent words: it is carried out, and leaves the memories
module _ (s m : List ℕ) (p : memory_number s m ≡ 0) (quiet : is_quiet s ≡ true) where
  quiet_number : number cycle (lend s m) ≡ 0
  quiet_number = sym (cycle_fault_is s m p (quiet_step (passed_ready s m p) refl quiet refl).0)

  quiet_words : after cycle (lend s m) ≡ lend (quiet_next s) m
  quiet_words =
      let R = passed_ready s m p in
      let H = R.steppable.framed.headed in
      let q = quiet_is s quiet in
      after_done cycle (lend s m) quiet_number
      ∙ ap₂ lend (sym (quiet_state s H q R.steppable.long m)) (quiet_memory s H q m R.whole)

  quiet_passes : memory_number (quiet_next s) m ≡ 0
  quiet_passes = subst (λ (w : Lent). memory_number w.state w.memory ≡ 0) quiet_words (ready_after cycle (lend s m) refl p)

-- the state after so many quiet cycles
abbrev reached : List ℕ → ℕ → List ℕ
reached s zero = s
reached s (suc j) = clock_on (suc j) s

-- a stretch of them, from a still state
module _ (s m : List ℕ) (p : memory_number s m ≡ 0) (most n : ℕ) (f : Stretch s most n) (still : is_still s ≡ true) where
  long : moving_words ≤ length s
  long = (passed_ready s m p).steppable.long

  headed : Headed (sheet_in s)
  headed = (passed_ready s m p).steppable.framed.headed

  quiet_at : (j : ℕ) → j < n → is_quiet (reached s j) ≡ true
  unfolding is_quiet
  quiet_at zero l = and_both still (f.none_begins_before (reg s clock_row cycle_place) (omega arith) (omega arith))
  quiet_at (suc j) l =
      quiet_after s long (suc j) (omega (arith, f.in_period)) (omega arith) headed still
      (f.none_begins_before (reg s clock_row cycle_place + suc j) (omega arith) (omega arith))

  next_at : (j : ℕ) → j < n → quiet_next (reached s j) ≡ reached s (suc j)
  next_at zero l = sym (first_cycle s long)
  next_at (suc j) l =
      let e : suc j + 1 ≡ suc (suc j) = omega arith in
      more_cycles s long (suc j) (omega (arith, f.in_period)) (omega arith) ∙ ap (λ (k : ℕ). clock_on k s) e

  -- after each of them the lent words are those, and 12 to 14 do not apply
  record Point (j : ℕ) : Type 0 where
    words : cycles_on j (lend s m) ≡ lend (reached s j) m
    passes : memory_number (reached s j) m ≡ 0

  first_point : Point 0
  unfolding cycles_on
  first_point = record { words = refl; passes = p }

  next_point : (j : ℕ) → j < n → Point j → Point (suc j)
  unfolding cycles_on
  next_point j l at =
      let quiet = quiet_at j l in
      record {
        words =
            ap (after cycle) at.words ∙ quiet_words (reached s j) m at.passes quiet ∙ ap (λ (x : List ℕ). lend x m) (next_at j l);
        passes = subst (λ (x : List ℕ). memory_number x m ≡ 0) (next_at j l) (quiet_passes (reached s j) m at.passes quiet);
      }

  point : (j : ℕ) → j ≤ n → Point j
  point zero l = first_point
  point (suc j) l = next_point j l (point j (omega arith))

  carried : (j : ℕ) → j < n → number cycle (cycles_on j (lend s m)) ≡ 0
  carried j l =
      let at = point j (omega arith) in
      ap (number cycle) at.words ∙ quiet_number (reached s j) m at.passes (quiet_at j l)

  landed_none : (j node : ℕ) → j < n → node < nodes (sheet_in s) → last_landing (cycles_on (suc j) (lend s m)).state node ≡ nothing
  unfolding last_landing
  landed_none j node l inside =
      let x = clock_on (suc j) s in
      ap (λ (w : Lent). seen_landing (reg w.state landing_mark node) (reg w.state landing_kind node) (reg w.state landing_address node) (reg w.state landing_word node))
      (point (suc j) l).words
      ∙ ap (λ (mark : ℕ). seen_landing mark (reg x landing_kind node) (reg x landing_address node) (reg x landing_word node))
      (none_landed s long (suc j) node inside (omega (arith, nodes_few (sheet_in s) headed)))

-- so what the machine crosses is a rest
pub rested : (most : ℕ) (s after : List ℕ) (n : ℕ) → Crossed most s after n → Rested most s after n
unfolding cycles_on
rested most s after zero c = record {
  few = omega arith;
  words = λ m p. ap (λ (x : List ℕ). lend x m) (c.stayed refl);
  is_carried_out = λ m j p l. absurd (omega arith);
  none_lands = λ m j node p l inside. absurd (omega arith);
}
rested most s after (suc k) c =
    let still = c.still (omega arith) in
    record {
      few = c.stretch.few;
      words = λ m p.
          ap (λ (x : List ℕ). lend x m) (c.moved (omega arith)) ∙ sym (point s m p most (suc k) c.stretch still (suc k) (omega arith)).words;
      is_carried_out = λ m j p l. carried s m p most (suc k) c.stretch still j l;
      none_lands = λ m j node p l inside. landed_none s m p most (suc k) c.stretch still j node l inside;
    }

-- they leave the masks of where something may be
pub rest_covered : (s : List ℕ) → state_number s ≡ 0 → (most : ℕ) (after : List ℕ) (n : ℕ) → Crossed most s after n
    → (live : Live) → Covered s live → Covered after live
rest_covered s p most after n c live C = go (ℕ_discrete n 0)
  where
    clocked : Clocked s
    clocked = (passed_settled s p).clocked

    few_nodes : nodes (sheet_in s) ≤ 16
    few_nodes = nodes_few (sheet_in s) clocked.framed.headed

    go : Dec (n ≡ 0) → Covered after live
    go (yes e) = subst (λ (w : List ℕ). Covered w live) (sym (c.stayed e)) C
    go (no ne) =
        subst (λ (w : List ℕ). Covered w live) (sym (c.moved (omega (arith, ne))))
        (covered_rest s clocked.long few_nodes clocked.framed.headed.circuits_high n live C)

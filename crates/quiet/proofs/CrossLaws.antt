-- A quiet cycle: whether the next one is, and that crossing it is the cycle.
-- Assumes nothing.
use Prim.Native.Nat.{ℕ, ◌+◌, ◌*◌, ◌<◌}
use mathlib.Core.Bool.{Bool, true, false}
use mathlib.Core.List.{List, []}
use mathlib.Core.Path.{◌≡◌, sym, ◌∙◌, ap, subst}
use native.Mathlib.Omega.{arith}
use native.Mathlib.Decide.{dec_lt}
use Rattle.words.specs.Tests.{◌and◌, ◌<?◌}
use Rattle.words.proofs.TestLaws.{and_no, and_both, and_no_right, yes<, no<}
use Rattle.sheet.specs.Sheet.{circuits, schedules, nodes, period}
use Rattle.sheet.specs.Inner.Passed.{Framed}
use Rattle.sheet.proofs.PassedLaws.{period_range}
use Rattle.network.specs.Registers.{reg, sheet_in, row_words, clock_row, clock_words, cycle_place, in_force_place}
use Rattle.network.specs.Registers.{landing_mark, landing_word}
use Rattle.network.specs.Inner.Machine.{next_in_row}
use Rattle.network.specs.Inner.Stages.{stage}
use Rattle.network.specs.Inner.Quiet.{is_still, none_begins, is_quiet, unlanded, no_landings, quiet_next}
use Rattle.quiet.specs.Inner.Openings.{NextOpening}
use Rattle.receivers.specs.Inner.Required.{Clocked}
use Rattle.receivers.proofs.ClearLaws.{cleared_reg, cleared_sheet, cleared_length}
use Rattle.quiet.specs.Inner.Settled.{Settled}

-- the state's own sheet, which was read
module _ (s : List ℕ) {z : List ℕ} (own : z ≡ sheet_in s) where
  pub own_nodes : {count : ℕ} → count ≡ nodes z → count ≡ nodes (sheet_in s)
  own_nodes e = e ∙ ap nodes own

  pub own_places : {count : ℕ} → count ≡ nodes z → count * 5 ≡ nodes (sheet_in s) * 5
  own_places e = ap (λ (n : ℕ). n * 5) (own_nodes e)

  pub own_circuits : {count : ℕ} → count ≡ circuits z → count ≡ circuits (sheet_in s)
  own_circuits e = e ∙ ap circuits own

-- a period is short, so that the cycle behind this one fits a word
pub cycle_few : (s : List ℕ) → Settled s → reg s clock_row cycle_place < 1024
cycle_few s g = omega (arith, g.clocked.in_time, (period_range (sheet_in s) g.ranged (reg s clock_row in_force_place) g.clocked.in_force).1)

-- the test: a state that is not still, and one that is
module _ (s : List ℕ) {r : Bool} (e : r ≡ is_still s) where
  pub quiet_not : r ≡ false → false ≡ is_quiet s
  unfolding is_quiet
  quiet_not h = and_no _ (sym e ∙ h)

  pub quiet_by : r ≡ true → {cycle next : ℕ} → cycle ≡ reg s clock_row cycle_place → NextOpening s (cycle + 1) next → (cycle <? next) ≡ is_quiet s
  unfolding is_quiet
  quiet_by h {cycle} {next} c n = go (dec_lt cycle next)
    where
      go : Dec (cycle < next) → (cycle <? next) ≡ (is_still s and none_begins s (reg s clock_row cycle_place))
      go (yes l) = yes< l ∙ sym (and_both (sym e ∙ h) (n.none_begins_before (reg s clock_row cycle_place) (omega arith) (omega arith)))
      go (no ne) =
          let same : next ≡ reg s clock_row cycle_place = omega (arith, n.not_before, c, ne) in
          no< (omega (arith, ne))
          ∙ sym (and_no_right (is_still s) _ (subst (λ (t : ℕ). none_begins s t ≡ false) same (n.begins (omega (arith, c, same)))))

-- the landings are cleared: the clock is as it was
module _ (s : List ℕ) (count : ℕ) {cleared : List ℕ} (landings : cleared ≡ stage landing_mark landing_word count (unlanded s) s) where
  cleared_clock : (k : ℕ) → k < row_words → reg cleared clock_row k ≡ reg s clock_row k
  cleared_clock k l = cleared_reg s count landings clock_row k (omega arith) l (λ a b. omega arith)

  pub clock_ready : Clocked s → Clocked cleared
  clock_ready g = record {
    long = omega (arith, cleared_length s count landings g.long, g.long);
    framed = subst Framed (sym (cleared_sheet s count landings)) g.framed;
    in_force =
        subst (λ (z : List ℕ). reg cleared clock_row in_force_place < schedules z) (sym (cleared_sheet s count landings))
        (omega (arith, g.in_force, cleared_clock in_force_place (omega arith)));
    in_time =
        subst (λ (z : List ℕ). reg cleared clock_row cycle_place < period z (reg cleared clock_row in_force_place)) (sym (cleared_sheet s count landings))
        (subst (λ (j : ℕ). reg cleared clock_row cycle_place < period (sheet_in s) j) (sym (cleared_clock in_force_place (omega arith)))
        (omega (arith, g.in_time, cleared_clock cycle_place (omega arith))));
  }

  pub crossed : count ≡ nodes (sheet_in s) → {after : List ℕ} → after ≡ stage clock_row clock_row clock_words (next_in_row cleared []) cleared
      → after ≡ quiet_next s
  unfolding quiet_next no_landings
  crossed e {after} clock =
      clock
      ∙ ap (λ (x : List ℕ). stage clock_row clock_row clock_words (next_in_row x []) x)
      (landings ∙ ap (λ (n : ℕ). stage landing_mark landing_word n (unlanded s) s) e)

-- Quiet cycles crossed at once: how many they are, and the words that are put in before the last of them.
-- Assumes nothing.
use Prim.Native.Nat.{ℕ, ◌+◌, ◌-◌, ◌<◌, ◌≤◌}
use mathlib.Core.Bool.{Bool, true}
use mathlib.Core.List.{List}
use mathlib.Core.Path.{◌≡◌, refl, sym, ◌∙◌, ap, subst}
use native.Mathlib.Omega.{arith}
use lib.ListN.{length}
use Rattle.sheet.specs.Sheet.{schedules, period}
use Rattle.sheet.specs.Rules.{rule8}
use Rattle.sheet.specs.Inner.Passed.{Framed, Ranged}
use Rattle.sheet.proofs.PassedLaws.{period_range}
use Rattle.network.specs.Registers.{reg, put, sheet_in, clock_row, cycle_place, in_force_place}
use Rattle.network.specs.Inner.Quiet.{is_still, quiet_next, clock_on}
use Rattle.network.proofs.PutLaws.{put_same, put_other, put_length, put_sheet}
use Rattle.quiet.specs.Inner.Settled.{Settled}
use Rattle.quiet.specs.Inner.Crossed.{Stretch, Crossed}

-- the sum of the cycle and so many fits a word
pub stretch_small : (s : List ℕ) → Settled s → (most n cycle : ℕ) → Stretch s most n → cycle ≡ reg s clock_row cycle_place → cycle + n ≤ 1024
stretch_small s g most n cycle f c =
    omega (arith, f.in_period, (period_range (sheet_in s) g.ranged (reg s clock_row in_force_place) g.clocked.in_force).1)

-- the cycle before the last is put in
module _ (s : List ℕ) (g : Settled s) (most n : ℕ) (f : Stretch s most n) (some : n ≡ 0 → ⊥) (cycle : ℕ) (c : cycle ≡ reg s clock_row cycle_place)
    (last : ℕ) (before : List ℕ) (e : before ≡ put s clock_row cycle_place last) (one : last + 1 ≡ cycle + n) where
  same_sheet : sheet_in before ≡ sheet_in s
  same_sheet = ap sheet_in e ∙ put_sheet s clock_row cycle_place last (omega arith)

  same_in_force : reg before clock_row in_force_place ≡ reg s clock_row in_force_place
  same_in_force =
      ap (λ (x : List ℕ). reg x clock_row in_force_place) e ∙ put_other s clock_row cycle_place last clock_row in_force_place (λ h. omega arith)

  cycle_put : reg before clock_row cycle_place ≡ last
  cycle_put =
      ap (λ (x : List ℕ). reg x clock_row cycle_place) e ∙ put_same s clock_row cycle_place last (omega (arith, g.clocked.long))

  framed : Framed (sheet_in before)
  framed = subst Framed (sym same_sheet) g.clocked.framed

  in_force : reg before clock_row in_force_place < schedules (sheet_in before)
  in_force =
      subst (λ (z : List ℕ). reg before clock_row in_force_place < schedules z) (sym same_sheet) (omega (arith, same_in_force, g.clocked.in_force))

  pub still_settled : Settled before
  still_settled = record {
    paired = record { own = refl; framed = framed; in_force = in_force };
    ranged = subst Ranged (sym same_sheet) g.ranged;
    clocked = record {
      long = omega (arith, ap (λ (x : List ℕ). length x) e, put_length s clock_row cycle_place last, g.clocked.long);
      framed = framed;
      in_force = in_force;
      in_time =
          subst (λ (z : List ℕ). reg before clock_row cycle_place < period z (reg before clock_row in_force_place)) (sym same_sheet)
          (subst (λ (j : ℕ). reg before clock_row cycle_place < period (sheet_in s) j) (sym same_in_force)
          (omega (arith, cycle_put, f.in_period, c, one)));
    };
    ascending = ap rule8 same_sheet ∙ g.ascending;
  }

  pub crossed_is : {r : Bool} → r ≡ is_still s → r ≡ true → {after : List ℕ} → after ≡ quiet_next before → Crossed most s after n
  unfolding clock_on
  crossed_is q h {after} w =
      let there : last ≡ reg s clock_row cycle_place + (n - 1) = omega (arith, one, c, some) in
      record {
        stretch = f;
        still = λ l. sym q ∙ h;
        moved = λ l. w ∙ ap quiet_next (e ∙ ap (put s clock_row cycle_place) there);
        stayed = λ z. absurd (some z);
      }

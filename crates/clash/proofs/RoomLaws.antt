-- A table that holds all wires in a period's cycles, and an empty one.
-- Assumes nothing.
use Prim.Native.Nat.{ℕ, ◌+◌, ◌*◌, ◌<◌, ◌≤◌}
use mathlib.Core.List.{List}
use mathlib.Core.Path.{◌≡◌, ap, sym, subst}
use native.Mathlib.Omega.{arith}
use native.Mathlib.Nat.{mul-le-mul}
use lib.ListN.{length, replicate, length-replicate}
use Rattle.sheet.specs.Sheet.{nodes, schedules, period}
use Rattle.sheet.specs.Inner.Passed.{Routed}
use Rattle.sheet.proofs.PassedLaws.{period_range}
use Rattle.occupancy.proofs.TakeLaws.{none_taken}
use Rattle.clash.specs.Inner.Table.{HoldsAllWires, Free}

module _ (z : List ℕ) (r : Routed z) (j : ℕ) (h : j < schedules z) (count P : ℕ) (x : count ≡ nodes z) (few : count ≤ 16) (p : P ≡ period z j) where
  -- at most 96 wires in 1,030 cycles
  pub places_high : count * 6 * (P + 6) ≤ 98880
  places_high =
      mul-le-mul {n₁ = count * 6} {m₁ = P + 6} {n₂ = 96} {m₂ = 1030} (omega arith) (omega (arith, p, (period_range z r.ranged j h).1))

  pub roomy : (long : ℕ) → count * 6 * (P + 6) + 32 ≤ 32 * long → HoldsAllWires long z (period z j + 6)
  roomy long m =
      omega (
        arith,
        ap (λ (n : ℕ). n * 6 * (P + 6)) x,
        ap (λ (n : ℕ). nodes z * 6 * (n + 6)) p,
      )

-- a table of n zeros is free
pub ready_zeros : (n : ℕ) (z : List ℕ) (j : ℕ) → j < schedules z → HoldsAllWires n z (period z j + 6)
    → (j < schedules z) × (HoldsAllWires (length {A = ℕ} (replicate n 0)) z (period z j + 6)) × (Free (replicate n 0))
ready_zeros n z j h m =
    (h, subst (λ (k : ℕ). HoldsAllWires k z (period z j + 6)) (sym (length-replicate {A = ℕ} n 0)) m, record { none = λ x. none_taken n x })

-- A test that antt computes at every number below a bound, and the rule at each of them.
-- Assumes nothing.
use Prim.Native.Nat.{ℕ, zero, suc, ◌<◌}
use mathlib.Core.Bool.{Bool, true, false, ◌&&◌}
use mathlib.Core.Path.{◌≡◌, subst, sym}
use native.Mathlib.Omega.{arith}
use native.Mathlib.Decide.{ℕ_discrete}
use native.Mathlib.Nat.{not-suc-le-zero}
use lib.Dec.{T}

-- the test passes at each number below n
abbrev pub every : ℕ → (ℕ → Bool) → Bool
every zero test = true
every (suc n) test = test n && every n test

first_passes : (a b : Bool) → T (a && b) → T a
first_passes true b t = tt
first_passes false b t = t

rest_passes : (a b : Bool) → T (a && b) → T b
rest_passes true b t = t
rest_passes false b t = absurd t

pub every_at : (n : ℕ) (test : ℕ → Bool) → T (every n test) → (k : ℕ) → k < n → T (test k)
every_at zero test t k h = absurd (not-suc-le-zero h)
every_at (suc n) test t k h = go (ℕ_discrete k n) (every_at n test (rest_passes (test n) (every n test) t) k)
  where
    go : Dec (k ≡ n) → (k < n → T (test k)) → T (test k)
    go (yes e) r = subst (λ (m : ℕ). T (test m)) (sym e) (first_passes (test n) (every n test) t)
    go (no ne) r = r (omega (arith, ne))

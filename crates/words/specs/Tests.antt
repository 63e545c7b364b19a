-- Tests: Bools made of shut operators, so that a proof can name their parts.
use Rattle.std.specs.Prelude.{ℕ, zero, suc, Bool, true, false, not, leb, ltb, eqb}

infix 40 ◌≤?◌
infix 40 ◌<?◌
infix 40 ◌=?◌
infix 40 ◌≠?◌
infixr 35 ◌and◌
infixr 30 ◌or◌
-- tests of numbers
unfoldable pub ◌≤?◌ : ℕ → ℕ → Bool
a ≤? b = leb a b

unfoldable pub ◌<?◌ : ℕ → ℕ → Bool
a <? b = ltb a b

unfoldable pub ◌=?◌ : ℕ → ℕ → Bool
a =? b = eqb a b

unfoldable pub ◌≠?◌ : ℕ → ℕ → Bool
a ≠? b = not (eqb a b)

-- both tests hold
unfoldable pub ◌and◌ : Bool → Bool → Bool
◌and◌ true b = b
◌and◌ false b = false

-- one of the tests holds, or both do
unfoldable pub ◌or◌ : Bool → Bool → Bool
◌or◌ true b = true
◌or◌ false b = b

-- low ≤ x ≤ high
unfoldable pub between : ℕ → ℕ → ℕ → Bool
between low high x = low ≤? x and x ≤? high

-- the test holds of every number below n
unfoldable pub all : ℕ → (ℕ → Bool) → Bool
all zero test = true
all (suc n) test = all n test and test n

-- the test holds of some number below n
unfoldable pub any : ℕ → (ℕ → Bool) → Bool
any zero test = false
any (suc n) test = any n test or test n

-- The first number of a list that applies: each number with the test that keeps it away, in checking order.
use Rattle.std.specs.Prelude.{ℕ, Bool}
use Rattle.words.specs.Tests.{◌=?◌}
use Rattle.words.specs.Words.{pick}

infixr 30 ◌then◌
-- a number unless the test holds, 0 where it does
unfoldable pub unless : ℕ → Bool → ℕ
unless number test = pick test 0 number

-- the first of two that is not 0
unfoldable pub ◌then◌ : ℕ → ℕ → ℕ
first then second = pick (first =? 0) second first

-- The answer of a probe that runs cycles: number × 2^32 + the cycles that were carried out, in 64 bits.
use Rattle.std.specs.Prelude.{ℕ, ◌+◌, ◌*◌}
use Rattle.words.specs.Tests.{◌≤?◌, ◌=?◌}
use Rattle.words.specs.Words.{pick, least_from}
use Rattle.words.specs.Numbers.{◌then◌}
use Rattle.session.specs.Calls.{Lent, memory_number, cycle, number}
use Rattle.session.specs.Inner.Resting.{cycles_on}

-- how many of so many cycles are carried out: those before the first that is refused, or all
unfoldable pub cycles_done : ℕ → Lent → ℕ
cycles_done n w = least_from n 0 (λ k. 1 ≤? number cycle (cycles_on k w))

-- the number of the cycle that is refused; 0 where all are carried out
unfoldable pub cycles_number : ℕ → Lent → ℕ
cycles_number n w = pick (cycles_done n w =? n) 0 (number cycle (cycles_on (cycles_done n w) w))

-- 12 to 14 come first, even where no cycle is asked for
unfoldable pub cycles_answer : ℕ → Lent → ℕ
cycles_answer n w = (memory_number w.state w.memory then cycles_number n w) * 4294967296 + cycles_done n w

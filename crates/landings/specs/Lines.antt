-- The listing of `landings`: cycle by cycle, then node by node, what landed; a cycle that is refused ends it, with its number.
use Rattle.std.specs.Prelude.{ℕ, zero, suc, ◌+◌, List, [], ◌++◌}
use Rattle.words.specs.Tests.{◌≤?◌, ◌=?◌}
use Rattle.words.specs.Words.{pick, least_from}
use Rattle.network.specs.View.{Landing, nothing, landed}
use Rattle.session.specs.Calls.{Lent, cycle, number, last_landing}
unfoldable pub use Rattle.session.specs.Inner.Resting.{cycles_on}
use Rattle.listing.specs.Text.{line_end, field, landing_line, refused}

-- a node's line for a cycle, where something landed
abbrev pub line_for : ℕ → ℕ → Landing → List ℕ
line_for time node nothing = []
line_for time node (landed kind address payload) = landing_line time node address payload kind

-- the lines of the first nodes for a cycle, from the state directly after it
unfoldable pub cycle_lines : ℕ → ℕ → List ℕ → List ℕ
cycle_lines zero time s = []
cycle_lines (suc n) time s = cycle_lines n time s ++ line_for time n (last_landing s n)

-- the lines of so many cycles, of which the first has a number since the load
unfoldable pub cycles_lines : ℕ → ℕ → ℕ → Lent → List ℕ
cycles_lines nodes first zero w = []
cycles_lines nodes first (suc k) w = cycles_lines nodes first k w ++ cycle_lines nodes (first + k) (cycles_on (suc k) w).state

-- how many of so many cycles are carried out: those before the first that is refused, or all
unfoldable pub carried_out : ℕ → Lent → ℕ
carried_out n w = least_from n 0 (λ k. 1 ≤? number cycle (cycles_on k w))

-- `refused N`, and a line end
abbrev pub refused_line : ℕ → List ℕ
refused_line n = refused ++ field n line_end

-- the line behind theirs: none where all are carried out
unfoldable pub last_line : ℕ → Lent → List ℕ
last_line n w = pick (carried_out n w =? n) [] (refused_line (number cycle (cycles_on (carried_out n w) w)))

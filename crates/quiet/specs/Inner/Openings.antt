-- The next slot of a circuit with words left.
use Rattle.std.specs.Prelude.{ℕ, ◌<◌, ◌≤◌, true, false, List, ◌≡◌}
use Rattle.network.specs.Registers.{reg, clock_row, cycle_place}
use Rattle.network.specs.Inner.Quiet.{none_begins}

-- from this cycle of the period to r no slot of a circuit with words left begins, and one begins in r where that is before the end
pub record NextOpening (s : List ℕ) (until r : ℕ) : Type 0 where
  pub not_before : reg s clock_row cycle_place ≤ r
  pub not_behind : r ≤ until
  pub none_begins_before : (cycle : ℕ) → reg s clock_row cycle_place ≤ cycle → cycle < r → none_begins s cycle ≡ true
  pub begins : r < until → none_begins s r ≡ false

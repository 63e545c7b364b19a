-- Quiet cycles that are crossed at once. Nobody has to believe these: that they are so many cycles is proved where a session rests.
use Rattle.std.specs.Prelude.{ℕ, ◌+◌, ◌<◌, ◌≤◌, true, List, ◌≡◌}
use Rattle.sheet.specs.Sheet.{period}
use Rattle.network.specs.Registers.{reg, sheet_in, clock_row, cycle_place, in_force_place}
use Rattle.network.specs.Inner.Quiet.{is_still, none_begins, clock_on}

-- so many cycles from this one on, at most so many, lie within the period, and no slot of a circuit with words left begins in them
pub record Stretch (s : List ℕ) (most n : ℕ) : Type 0 where
  pub few : n ≤ most
  pub in_period : reg s clock_row cycle_place + n ≤ period (sheet_in s) (reg s clock_row in_force_place)
  pub none_begins_before : (cycle : ℕ) → reg s clock_row cycle_place ≤ cycle → cycle < reg s clock_row cycle_place + n → none_begins s cycle ≡ true

-- they are crossed, or nothing is done
pub record Crossed (most : ℕ) (before after : List ℕ) (n : ℕ) : Type 0 where
  pub stretch : Stretch before most n
  pub still : 1 ≤ n → is_still before ≡ true
  pub moved : 1 ≤ n → after ≡ clock_on n before
  pub stayed : n ≡ 0 → after ≡ before

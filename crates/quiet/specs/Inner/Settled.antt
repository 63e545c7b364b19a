-- What crossing quiet cycles requires of a state.
use Rattle.std.specs.Prelude.{ℕ, true, List, ◌≡◌}
use Rattle.sheet.specs.Inner.Passed.{Ranged}
use Rattle.sheet.specs.Rules.{rule8}
use Rattle.network.specs.Registers.{sheet_in}
use Rattle.network.specs.Inner.Paired.{Paired}
use Rattle.receivers.specs.Inner.Required.{Clocked}

-- a sound state's sheet, clock and senders; the memories are not needed
pub record Settled (s : List ℕ) : Type 0 where
  pub paired : Paired s (sheet_in s)
  pub ranged : Ranged (sheet_in s)
  pub clocked : Clocked s
  pub ascending : rule8 (sheet_in s) ≡ true

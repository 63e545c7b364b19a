-- What a cycle in place requires of the words that it is lent; a sound state and memories of the sheet's length are so.
use Rattle.std.specs.Prelude.{ℕ, ◌*◌, true, List, ◌≡◌, length}
use Rattle.sheet.specs.Sheet.{nodes}
use Rattle.sheet.specs.Rules.{rule8}
use Rattle.network.specs.Registers.{sheet_in, room}
use Rattle.network.specs.Inner.Paired.{Sendable}
use Rattle.sources.specs.Inner.Steps.{Steppable}
use Rattle.receivers.specs.Inner.Required.{Clocked}

pub record Ready (s m : List ℕ) : Type 0 where
  pub sendable : Sendable s (sheet_in s)
  pub steppable : Steppable s
  pub clocked : Clocked s
  pub ascending : rule8 (sheet_in s) ≡ true
  pub whole : length m ≡ nodes (sheet_in s) * room s

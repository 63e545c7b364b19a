-- What the sources' functions require of the two slices that they are lent: a state's words, and the words of its sheet.
use Rattle.std.specs.Prelude.{ℕ, ◌<◌, ◌≤◌, List, ◌≡◌}
use Rattle.packet.specs.Header.{kinds, addresses}
use Rattle.sheet.specs.Sheet.{circuits, schedules}
use Rattle.sheet.specs.Inner.Passed.{Framed, Ranged}
use Rattle.network.specs.Registers.{reg, sheet_in, clock_row, in_force_place, left_row, write_row, kind_row}

-- z is the state's own sheet, it keeps rules 1 to 3, and the schedule in force is one of its schedules
pub record Paired (s z : List ℕ) : Type 0 where
  pub own : z ≡ sheet_in s
  pub framed : Framed z
  pub in_force : reg s clock_row in_force_place < schedules z

-- the sheet keeps rules 4 and 7 too, and each circuit that has words left has a kind and a write address that fit a header
pub record Sendable (s z : List ℕ) : Type 0 where
  pub paired : Paired s z
  pub ranged : Ranged z
  pub kind_fits : (c : ℕ) → c < circuits z → 1 ≤ reg s left_row c → reg s kind_row c < kinds
  pub address_fits : (c : ℕ) → c < circuits z → 1 ≤ reg s left_row c → reg s write_row c < addresses

-- The circuits that may put something on their wires in a cycle, as a mask.
use Rattle.std.specs.Prelude.{ℕ, ◌<◌, Bool, false, List, ◌≡◌}
use Rattle.words.specs.Tests.{◌and◌, ◌≤?◌}
use Rattle.sheet.specs.Sheet.{circuits}
use Rattle.occupancy.specs.Inner.Occupancy.{bit_at}
use Rattle.network.specs.Registers.{reg, sheet_in, left_row, to_go_row}
use Rattle.network.specs.Inner.Machine.{slot_in}

-- circuit c opens a packet in this cycle: it has words left, and a slot of it begins
abbrev pub opens_in : List ℕ → ℕ → Bool
opens_in s c = 1 ≤? reg s left_row c and 1 ≤? slot_in s c

-- a circuit beside the mask neither is amid a packet nor opens one
pub record Acting (s : List ℕ) (mask : ℕ) : Type 0 where
  pub none_to_go : (c : ℕ) → c < circuits (sheet_in s) → bit_at mask c ≡ 0 → reg s to_go_row c ≡ 0
  pub none_opens : (c : ℕ) → c < circuits (sheet_in s) → bit_at mask c ≡ 0 → opens_in s c ≡ false

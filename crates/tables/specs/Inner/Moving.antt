-- What is known of a cycle without a fault before it is carried out: no word strays, and masks of the circuits that act and of the nodes on
-- whose source wires something may be.
use Rattle.std.specs.Prelude.{ℕ, ◌<◌, false, List, ◌≡◌}
use Rattle.words.specs.Tests.{any}
use Rattle.sheet.specs.Sheet.{nodes}
use Rattle.occupancy.specs.Inner.Occupancy.{bit_at}
use Rattle.network.specs.Registers.{sheet_in}
use Rattle.network.specs.Inner.Machine.{strays_in, source_mark, source_word}
use Rattle.sources.specs.Inner.Acting.{Acting}

pub record Moving (s m : List ℕ) (acting wires : ℕ) : Type 0 where
  pub calm : any (nodes (sheet_in s)) (strays_in s) ≡ false
  pub all_acting : Acting s acting
  pub all_wires : (n : ℕ) → n < 16 → bit_at wires n ≡ 0 → (source_mark s n ≡ 0) × (source_word s m n ≡ 0)

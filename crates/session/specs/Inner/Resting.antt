-- Cycles on lent words one after another, and a stretch of them in which nothing lands.
use Rattle.std.specs.Prelude.{◌≡◌, ℕ, zero, suc, ◌<◌, ◌≤◌, List}
use Rattle.sheet.specs.Sheet.{nodes}
use Rattle.network.specs.Registers.{sheet_in}
use Rattle.network.specs.View.{nothing}
use Rattle.session.specs.Calls.{memory_number, last_landing, Lent, lend, cycle, number, after}

-- what was lent after so many cycles
unfoldable pub cycles_on : ℕ → Lent → Lent
cycles_on zero w = w
cycles_on (suc k) w = after cycle (cycles_on k w)

-- so many cycles on a state, at most so many: each is carried out, and nothing lands in it, whatever memory of the right length is lent
pub record Rested (most : ℕ) (before after : List ℕ) (n : ℕ) : Type 0 where
  pub few : n ≤ most
  pub words : (m : List ℕ) → memory_number before m ≡ 0 → lend after m ≡ cycles_on n (lend before m)
  pub is_carried_out : (m : List ℕ) (j : ℕ) → memory_number before m ≡ 0 → j < n → number cycle (cycles_on j (lend before m)) ≡ 0
  pub none_lands : (m : List ℕ) (j node : ℕ) → memory_number before m ≡ 0 → j < n → node < nodes (sheet_in before) → last_landing (cycles_on (suc j) (lend before m)).state node ≡ nothing

-- The senders' registers as code writes them, and what a state has to keep for it.
use Rattle.std.specs.Prelude.{ℕ, ◌+◌, ◌-◌, ◌<◌, ◌≤◌, min, List, length}
use Rattle.sheet.specs.Sheet.{circuits, schedules}
use Rattle.sheet.specs.Inner.Passed.{Framed}
use Rattle.network.specs.Cycle.{Move, rests, opens, sends}
use Rattle.network.specs.Registers.{reg, put, sheet_in, moving_words, clock_row, in_force_place, left_row, read_row, write_row, to_go_row}
use Rattle.network.specs.Inner.Machine.{slot_in}

-- circuit c can send: a word is left wherever one is to go, and then its addresses have room to rise
pub record Sending (s : List ℕ) (c : ℕ) : Type 0 where
  pub some_left : 1 ≤ reg s to_go_row c → 1 ≤ reg s left_row c
  pub read_rises : 1 ≤ reg s to_go_row c → reg s read_row c + 1 < 4294967296
  pub write_rises : 1 ≤ reg s to_go_row c → reg s write_row c + 1 < 4294967296

-- the state is long, its sheet keeps rules 1 to 3, the schedule in force is one of its schedules, and each circuit can send
pub record Steppable (s : List ℕ) : Type 0 where
  pub long : moving_words ≤ length s
  pub framed : Framed (sheet_in s)
  pub in_force : reg s clock_row in_force_place < schedules (sheet_in s)
  pub sending : (c : ℕ) → c < circuits (sheet_in s) → Sending s c

-- a payload word of circuit c is sent
unfoldable pub send_word : List ℕ → ℕ → List ℕ
send_word s c =
    put
    (put (put (put s left_row c (reg s left_row c - 1)) read_row c (reg s read_row c + 1)) write_row c (reg s write_row c + 1))
    to_go_row c (reg s to_go_row c - 1)

-- what circuit c writes, by what it does
unfoldable pub sender_put : Move → List ℕ → ℕ → List ℕ
sender_put rests s c = s
sender_put opens s c = put s to_go_row c (min (slot_in s c - 1) (reg s left_row c))
sender_put sends s c = send_word s c

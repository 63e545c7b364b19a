-- Quiet cycles: nothing is in the routers, nothing is being sent, and no slot of a circuit with words left begins. Nobody has to believe
-- these: that such a cycle moves only the clock and stores that nothing landed is proved in proofs/QuietLaws.
use Rattle.std.specs.Prelude.{ℕ, ◌+◌, ◌-◌, ◌*◌, Bool, List, []}
use Rattle.words.specs.Tests.{all, ◌and◌, ◌or◌, ◌=?◌}
use Rattle.words.specs.Words.{pick}
use Rattle.sheet.specs.Sheet.{circuits, nodes}
use Rattle.sheet.specs.Slots.{slot_length}
use Rattle.network.specs.Registers.{reg, put, sheet_in, clock_row, clock_words, cycle_place, in_force_place, link_mark, link_word, head_mark, head_word}
use Rattle.network.specs.Registers.{choice_row, out_mark, out_word, extra_mark, extra_word, receive_kind, receive_address, landing_mark, landing_kind}
use Rattle.network.specs.Registers.{landing_address, landing_word, left_row, to_go_row}
use Rattle.network.specs.Inner.Machine.{next_in_row}
use Rattle.network.specs.Inner.Stages.{stage}

-- nothing is in the registers at place k of the routers' rows; the latch may be held, since it does not move while no word comes
unfoldable pub empty_at : List ℕ → ℕ → Bool
empty_at s k =
    reg s link_mark k =? 0
    and reg s link_word k =? 0
    and reg s head_mark k =? 0
    and reg s head_word k =? 0
    and reg s choice_row k =? 0
    and reg s out_mark k =? 0
    and reg s out_word k =? 0
    and reg s extra_mark k =? 0
    and reg s extra_word k =? 0

-- nothing is in the routers, and nothing is being sent
unfoldable pub is_still : List ℕ → Bool
is_still s = all (nodes (sheet_in s) * 5) (empty_at s) and all (circuits (sheet_in s)) (λ c. reg s to_go_row c =? 0)

-- no slot of a circuit with words left begins in a cycle of the period
unfoldable pub none_begins : List ℕ → ℕ → Bool
none_begins s cycle =
    all (circuits (sheet_in s)) (λ c. slot_length (sheet_in s) (reg s clock_row in_force_place) cycle c =? 0 or reg s left_row c =? 0)

-- the next cycle is quiet
unfoldable pub is_quiet : List ℕ → Bool
is_quiet s = is_still s and none_begins s (reg s clock_row cycle_place)

-- a node's stored landing where nothing lands: no mark and no word, beside the receive unit's kind and address
unfoldable pub unlanded : List ℕ → ℕ → ℕ → ℕ
unlanded s row k = pick (row =? landing_kind) (reg s receive_kind k) (pick (row =? landing_address) (reg s receive_address k) 0)

-- the words where nothing landed, and those after a quiet cycle: the clock moves too
unfoldable pub no_landings : List ℕ → List ℕ
no_landings s = stage landing_mark landing_word (nodes (sheet_in s)) (unlanded s) s

unfoldable pub quiet_next : List ℕ → List ℕ
quiet_next s = stage clock_row clock_row clock_words (next_in_row (no_landings s) []) (no_landings s)

-- the words after so many quiet cycles, one or more, of which none but the last ends the period: the cycle before the last is put in
-- first, so that the last makes the period's turn and carries out an order that is due
unfoldable pub clock_on : ℕ → List ℕ → List ℕ
clock_on n s = quiet_next (put s clock_row cycle_place (reg s clock_row cycle_place + (n - 1)))

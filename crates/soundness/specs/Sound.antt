-- A sound state (document 01, the paragraph behind the refusals; number 13), clause by clause. Registers of nodes, circuits and links that
-- the sheet lacks, and fields beside an empty, idle or zero mark, are never tested.
use Rattle.std.specs.Prelude.{ℕ, ◌+◌, ◌*◌, ◌%◌, Bool, not, List}
use Rattle.words.specs.Tests.{all, ◌and◌, ◌or◌, ◌≤?◌, ◌<?◌, ◌=?◌, ◌≠?◌}
use Rattle.packet.specs.Header.{data_kind, interrupt_kind, kind_of}
use Rattle.sheet.specs.declared.circuits.Region.{Region}
use Rattle.sheet.specs.Sheet.{circuits, schedules, nodes, circuit_at, period}
use Rattle.sheet.specs.Rules.{verdict}
use Rattle.network.specs.View.{ports}
use Rattle.network.specs.Cycle.{has_extra}
use Rattle.network.specs.Registers.{reg, sheet_length, sheet_in, sheet_words, clock_row, cycle_place, in_force_place, order_mark_place, order_schedule_place}
use Rattle.network.specs.Registers.{link_mark, link_word, head_mark, head_word, choice_row, latch_row, out_mark, out_word, receive_mark, receive_kind}
use Rattle.network.specs.Registers.{landing_mark, left_row, read_row, write_row, kind_row, to_go_row, extra_mark, extra_word}

-- the state's sheet, with its stored length, passes 1 to 11
unfoldable pub sheet_sound : List ℕ → Bool
sheet_sound s = sheet_length s ≤? sheet_words and verdict (sheet_in s) =? 0

-- the schedule in force and the cycle are within range
unfoldable pub clock_sound : List ℕ → Bool
clock_sound s =
    reg s clock_row in_force_place <? schedules (sheet_in s)
    and reg s clock_row cycle_place <? period (sheet_in s) (reg s clock_row in_force_place)

-- the order's mark is a known one, and a pending order's schedule exists
unfoldable pub order_sound : List ℕ → Bool
order_sound s =
    reg s clock_row order_mark_place ≤? 1
    and (reg s clock_row order_mark_place =? 0 or reg s clock_row order_schedule_place <? schedules (sheet_in s))

-- kinds that may travel: data and interrupt
unfoldable pub kind_travels : ℕ → Bool
kind_travels kind = kind =? data_kind or kind =? interrupt_kind

-- so many words from an address on lie in a region
unfoldable pub lies_in : Region → ℕ → ℕ → Bool
lies_in r address count = r.offset ≤? address and address + count ≤? r.offset + r.size

-- circuit c's transfer, clause by clause: no word is left of it
abbrev pub none_left : List ℕ → ℕ → Bool
none_left s c = reg s left_row c =? 0

-- its rest lies in its regions
abbrev pub rest_inside : List ℕ → ℕ → Bool
rest_inside s c =
    lies_in (circuit_at (sheet_in s) c).read (reg s read_row c) (reg s left_row c)
    and lies_in (circuit_at (sheet_in s) c).receive (reg s write_row c) (reg s left_row c)

-- its kind is not 1 or 3
abbrev pub kind_allowed : List ℕ → ℕ → Bool
kind_allowed s c = kind_travels (reg s kind_row c)

-- what is no data, an interrupt, has at most one word left
abbrev pub interrupt_single : List ℕ → ℕ → Bool
interrupt_single s c = reg s kind_row c =? data_kind or reg s left_row c ≤? 1

-- a packet still being sent has no more words to go than are left
abbrev pub to_go_within : List ℕ → ℕ → Bool
to_go_within s c = reg s to_go_row c ≤? reg s left_row c

-- the rest, the kind and the interrupt are tested of a transfer with words left
unfoldable pub transfer_sound : List ℕ → ℕ → Bool
transfer_sound s c = (none_left s c or rest_inside s c and kind_allowed s c and interrupt_single s c) and to_go_within s c

-- a mark on a wire is a known one, and no header has kind 1 or 3
unfoldable pub cell_sound : ℕ → ℕ → Bool
cell_sound mark w = mark ≤? 3 and (mark ≠? 1 or kind_travels (kind_of w))

-- an input's registers, and an output's: a choice beside a cell that is there, and a held latch, are known ones
unfoldable pub router_sound : List ℕ → ℕ → Bool
router_sound s k =
    cell_sound (reg s link_mark k) (reg s link_word k)
    and cell_sound (reg s head_mark k) (reg s head_word k)
    and cell_sound (reg s out_mark k) (reg s out_word k)
    and (reg s head_mark k =? 0 or reg s choice_row k ≤? ports)
    and reg s latch_row k ≤? ports

-- the extra register of an output's link, where it has one
unfoldable pub extra_sound : List ℕ → ℕ → Bool
extra_sound s k = not (has_extra (sheet_in s) (k % ports)) or cell_sound (reg s extra_mark k) (reg s extra_word k)

-- a receive unit's mark is a known one, and no arriving packet has kind 1 or 3; a stored landing's mark is a known one
unfoldable pub node_sound : List ℕ → ℕ → Bool
node_sound s n =
    reg s receive_mark n ≤? 1
    and (reg s receive_mark n =? 0 or kind_travels (reg s receive_kind n))
    and reg s landing_mark n ≤? 1

unfoldable pub sound : List ℕ → Bool
sound s =
    sheet_sound s
    and clock_sound s
    and order_sound s
    and all (circuits (sheet_in s)) (transfer_sound s)
    and all (nodes (sheet_in s) * ports) (router_sound s)
    and all (nodes (sheet_in s) * ports) (extra_sound s)
    and all (nodes (sheet_in s)) (node_sound s)

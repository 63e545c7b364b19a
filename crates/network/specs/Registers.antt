-- The register map of the lent state (docs/STATE.md): rows of words, then the sheet's length, then the sheet. A register of a
-- router stands at 5 × node + input (or output) in its row, a node's at the node, a circuit's at the circuit.
use Rattle.std.specs.Prelude.{ℕ, ◌+◌, ◌*◌, List, take, drop, set}
use Rattle.words.specs.Words.{word}
use Rattle.sheet.specs.Sheet.{memory_words}
pub use Rattle.sheet.specs.Sheet.{sheet_words}
use Rattle.network.specs.View.{ports}

abbrev pub row_words : ℕ
row_words = 80

abbrev pub row_count : ℕ
row_count = 23

-- the words before the sheet's length
abbrev pub moving_words : ℕ
moving_words = row_count * row_words

-- the published length of the state
abbrev pub state_words : ℕ
state_words = moving_words + 1 + sheet_words

-- the clock and the order
abbrev pub clock_row : ℕ
clock_row = 0

abbrev pub clock_words : ℕ
clock_words = 6

abbrev pub cycle_place : ℕ
cycle_place = 0

abbrev pub number_place : ℕ
number_place = 1

abbrev pub in_force_place : ℕ
in_force_place = 2

abbrev pub order_mark_place : ℕ
order_mark_place = 3

abbrev pub order_schedule_place : ℕ
order_schedule_place = 4

abbrev pub order_period_place : ℕ
order_period_place = 5

-- the routers. A mark is 0 empty, 1 header, 2 payload, 3 a packet's last payload word; a choice or a latch is one more
-- than the output, 0 for none
abbrev pub link_mark : ℕ
link_mark = 1

abbrev pub link_word : ℕ
link_word = 2

abbrev pub head_mark : ℕ
head_mark = 3

abbrev pub head_word : ℕ
head_word = 4

abbrev pub choice_row : ℕ
choice_row = 5

abbrev pub latch_row : ℕ
latch_row = 6

abbrev pub out_mark : ℕ
out_mark = 7

abbrev pub out_word : ℕ
out_word = 8

-- the nodes' receive units and stored landings; a mark is 1 where there is one, else 0
abbrev pub receive_mark : ℕ
receive_mark = 9

abbrev pub receive_kind : ℕ
receive_kind = 10

abbrev pub receive_address : ℕ
receive_address = 11

abbrev pub landing_mark : ℕ
landing_mark = 12

abbrev pub landing_kind : ℕ
landing_kind = 13

abbrev pub landing_address : ℕ
landing_address = 14

abbrev pub landing_word : ℕ
landing_word = 15

-- the circuits' senders
abbrev pub left_row : ℕ
left_row = 16

abbrev pub read_row : ℕ
read_row = 17

abbrev pub write_row : ℕ
write_row = 18

abbrev pub kind_row : ℕ
kind_row = 19

abbrev pub to_go_row : ℕ
to_go_row = 20

-- the extra registers of long vertical links, at the places of their outputs
abbrev pub extra_mark : ℕ
extra_mark = 21

abbrev pub extra_word : ℕ
extra_word = 22

-- the place of a router's register, from its node and input or output
abbrev pub at : ℕ → ℕ → ℕ
at node k = node * ports + k

-- register k of a row
unfoldable pub reg : List ℕ → ℕ → ℕ → ℕ
reg s row k = word s (row * row_words + k)

-- a register set
abbrev pub put : List ℕ → ℕ → ℕ → ℕ → List ℕ
put s row k w = set s (row * row_words + k) w

-- the stored length of the sheet, and the sheet
unfoldable pub sheet_length : List ℕ → ℕ
sheet_length s = word s moving_words

unfoldable pub sheet_in : List ℕ → List ℕ
sheet_in s = take (word (drop moving_words s) 0) (drop 1 (drop moving_words s))

-- memory words of a node
abbrev pub room : List ℕ → ℕ
room s = memory_words (sheet_in s)

-- One clock cycle in words: what each register holds afterwards, row by row, and the memories. That it is the machine in Cycle, which
-- reads better, is the claim in OneMachine.
use Rattle.std.specs.Prelude.{ℕ, zero, suc, ◌+◌, ◌*◌, ◌/◌, ◌%◌, Bool, true, false, List, [], ◌∷◌, ◌++◌, length, drop}
use Rattle.words.specs.Tests.{any, ◌and◌, ◌or◌, ◌≤?◌, ◌<?◌, ◌=?◌}
use Rattle.words.specs.Words.{word, pick, tab, count_of}
use Rattle.packet.specs.Header.{header_word, kind_of, address_of, shifted_word}
use Rattle.torus.specs.Torus.{neighbour_of, opposite_of}
use Rattle.sheet.specs.Sheet.{columns, rows, circuits, nodes, period}
use Rattle.sheet.specs.Slots.{slot_length, slot_route, source_of}
use Rattle.network.specs.View.{Sender, source_input, memory_output}
use Rattle.network.specs.Cycle.{output_for, has_extra, Move, rests, opens, sends, move, step_sender, next_number}
use Rattle.network.specs.Seen.{seen_sender}
use Rattle.network.specs.Registers.{at, reg, sheet_in, room, moving_words, row_words, clock_row, clock_words, cycle_place, number_place, in_force_place}
use Rattle.network.specs.Registers.{order_mark_place, order_schedule_place, order_period_place, link_mark, link_word, head_mark, head_word, choice_row}
use Rattle.network.specs.Registers.{latch_row, out_mark, out_word, receive_mark, receive_kind, receive_address, landing_mark, landing_kind}
use Rattle.network.specs.Registers.{landing_address, landing_word, left_row, read_row, write_row, kind_row, to_go_row, extra_mark, extra_word}

-- the first mark of so many that is not empty, and the word beside it; both 0 where all are empty
unfoldable pub first_mark : ℕ → (ℕ → ℕ) → ℕ
first_mark zero marks = 0
first_mark (suc n) marks = pick (first_mark n marks =? 0) (marks n) (first_mark n marks)

unfoldable pub first_word : ℕ → (ℕ → ℕ) → (ℕ → ℕ) → ℕ
first_word zero marks words = 0
first_word (suc n) marks words = pick (first_mark n marks =? 0) (pick (marks n =? 0) 0 (words n)) (first_word n marks words)

-- what a circuit's sender does in this cycle
unfoldable pub slot_in : List ℕ → ℕ → ℕ
slot_in s c = slot_length (sheet_in s) (reg s clock_row in_force_place) (reg s clock_row cycle_place) c

abbrev pub move_in : List ℕ → ℕ → Move
move_in s c = move (slot_in s c) (seen_sender s c)

abbrev pub next_sender : List ℕ → ℕ → Sender
next_sender s c = step_sender (move_in s c) (slot_in s c) (seen_sender s c)

-- the mark and the word that a circuit puts on its source's wire
abbrev pub mark_of : Move → ℕ → ℕ
mark_of rests to_go = 0
mark_of opens to_go = 1
mark_of sends to_go = pick (to_go =? 1) 3 2

abbrev pub word_of : Move → ℕ → ℕ → ℕ
word_of rests head word = 0
word_of opens head word = head
word_of sends head word = word

unfoldable pub sent_mark : List ℕ → ℕ → ℕ
sent_mark s c = mark_of (move_in s c) (reg s to_go_row c)

unfoldable pub sent_word : List ℕ → List ℕ → ℕ → ℕ
sent_word s m c =
    word_of (move_in s c)
    (header_word (reg s kind_row c) (reg s write_row c)
    (slot_route (sheet_in s) (reg s clock_row in_force_place) (reg s clock_row cycle_place) c))
    (word m (source_of (sheet_in s) c * room s + reg s read_row c))

-- the source wire of a node: its circuits' marks, 0 for the circuits of other nodes
abbrev pub own_mark : List ℕ → ℕ → ℕ → ℕ
own_mark s node c = pick (source_of (sheet_in s) c =? node) (sent_mark s c) 0

unfoldable pub source_mark : List ℕ → ℕ → ℕ
source_mark s node = first_mark (circuits (sheet_in s)) (own_mark s node)

unfoldable pub source_word : List ℕ → List ℕ → ℕ → ℕ
source_word s m node = first_word (circuits (sheet_in s)) (own_mark s node) (sent_word s m)

-- the rows of what comes out of an output's link: the extra register, or the output where there is none
abbrev pub end_mark : List ℕ → ℕ → ℕ
end_mark s output = pick (has_extra (sheet_in s) output) extra_mark out_mark

abbrev pub end_word : List ℕ → ℕ → ℕ
end_word s output = pick (has_extra (sheet_in s) output) extra_word out_word

-- the link registers: the source wire, or what comes out of the neighbour's link
abbrev pub neighbour_place : List ℕ → ℕ → ℕ → ℕ
neighbour_place s node input = at (neighbour_of (columns (sheet_in s)) (rows (sheet_in s)) node input) (opposite_of input)

unfoldable pub next_link_mark : List ℕ → ℕ → ℕ → ℕ
next_link_mark s node input = pick (input =? source_input) (source_mark s node) (reg s (end_mark s (opposite_of input)) (neighbour_place s node input))

unfoldable pub next_link_word : List ℕ → List ℕ → ℕ → ℕ → ℕ
next_link_word s m node input = pick (input =? source_input) (source_word s m node) (reg s (end_word s (opposite_of input)) (neighbour_place s node input))

-- the header stage, from the mark and word in the link register and the latch
unfoldable pub next_head_word : ℕ → ℕ → ℕ
next_head_word mark w = pick (mark =? 1) (shifted_word w) w

unfoldable pub next_choice : ℕ → ℕ → ℕ → ℕ → ℕ
next_choice input latch mark w = pick (mark =? 0) 0 (pick (mark =? 1) (output_for input w + 1) latch)

unfoldable pub next_latch : ℕ → ℕ → ℕ → ℕ → ℕ
next_latch input latch mark w = pick (mark =? 1) (output_for input w + 1) (pick (3 ≤? mark) 0 latch)

-- the crossbar: the marks that a node's inputs ask of an output
unfoldable pub asked_mark : List ℕ → ℕ → ℕ → ℕ → ℕ
asked_mark s node output input = pick (reg s choice_row (at node input) =? output + 1) (reg s head_mark (at node input)) 0

unfoldable pub next_out_mark : List ℕ → ℕ → ℕ → ℕ
next_out_mark s node output = first_mark 5 (asked_mark s node output)

unfoldable pub next_out_word : List ℕ → ℕ → ℕ → ℕ
next_out_word s node output = first_word 5 (asked_mark s node output) (λ input. reg s head_word (at node input))

-- the extra registers, from the output at the same place; a place without one keeps its word
unfoldable pub next_extra_mark : List ℕ → ℕ → ℕ
next_extra_mark s k = pick (has_extra (sheet_in s) (k % 5)) (reg s out_mark k) (reg s extra_mark k)

unfoldable pub next_extra_word : List ℕ → ℕ → ℕ
next_extra_word s k = pick (has_extra (sheet_in s) (k % 5)) (reg s out_word k) (reg s extra_word k)

-- the receive unit, by what is on the memory output
abbrev pub memory_mark : List ℕ → ℕ → ℕ
memory_mark s node = reg s out_mark (at node memory_output)

abbrev pub memory_word : List ℕ → ℕ → ℕ
memory_word s node = reg s out_word (at node memory_output)

unfoldable pub next_receive_mark : List ℕ → ℕ → ℕ
next_receive_mark s node = pick (memory_mark s node =? 1) 1 (pick (3 ≤? memory_mark s node) 0 (reg s receive_mark node))

unfoldable pub next_receive_kind : List ℕ → ℕ → ℕ
next_receive_kind s node = pick (memory_mark s node =? 1) (kind_of (memory_word s node)) (reg s receive_kind node)

unfoldable pub next_receive_address : List ℕ → ℕ → ℕ
next_receive_address s node =
    pick (memory_mark s node =? 1) (address_of (memory_word s node))
    (pick (2 ≤? memory_mark s node) (reg s receive_address node + 1) (reg s receive_address node))

unfoldable pub next_landing_mark : List ℕ → ℕ → ℕ
next_landing_mark s node = pick (2 ≤? memory_mark s node) 1 0

-- a memory word of a node, which was w
unfoldable pub memory_after : List ℕ → ℕ → ℕ → ℕ → ℕ
memory_after s node address w = pick (2 ≤? memory_mark s node and reg s receive_address node =? address) (memory_word s node) w

-- the clock
unfoldable pub turns : List ℕ → Bool
turns s = reg s clock_row cycle_place + 1 =? period (sheet_in s) (reg s clock_row in_force_place)

unfoldable pub is_due : List ℕ → Bool
is_due s =
    turns s and 1 ≤? reg s clock_row order_mark_place
    and reg s clock_row order_period_place =? next_number (reg s clock_row number_place)

unfoldable pub next_clock : List ℕ → ℕ → ℕ
next_clock s k =
    pick (k =? cycle_place) (pick (turns s) 0 (reg s clock_row cycle_place + 1))
    (pick (k =? number_place) (pick (turns s) (next_number (reg s clock_row number_place)) (reg s clock_row number_place))
    (pick (k =? in_force_place) (pick (is_due s) (reg s clock_row order_schedule_place) (reg s clock_row in_force_place))
    (pick (k =? order_mark_place) (pick (is_due s) 0 (reg s clock_row order_mark_place))
    (reg s clock_row k))))

-- a row: its number, how many registers of it the sheet has, and what each of them holds after a cycle, by its place
pub record Row : Type 0 where
  pub number : ℕ
  pub extent : ℕ
  pub next : ℕ → ℕ

abbrev pub register_row : ℕ → ℕ → (ℕ → ℕ) → Row
register_row number extent next = record { number = number; extent = extent; next = next }

-- a row of the routers has five registers a node, the others one a node or one a circuit
abbrev pub five_a_node : List ℕ → ℕ
five_a_node s = nodes (sheet_in s) * 5

abbrev pub one_a_node : List ℕ → ℕ
one_a_node s = nodes (sheet_in s)

abbrev pub one_a_circuit : List ℕ → ℕ
one_a_circuit s = circuits (sheet_in s)

-- the rows after a cycle
unfoldable pub next_rows : List ℕ → List ℕ → List Row
next_rows s m =
    register_row clock_row clock_words (λ k. next_clock s k)
    ∷ register_row link_mark (five_a_node s) (λ k. next_link_mark s (k / 5) (k % 5))
    ∷ register_row link_word (five_a_node s) (λ k. next_link_word s m (k / 5) (k % 5))
    ∷ register_row head_mark (five_a_node s) (λ k. reg s link_mark k)
    ∷ register_row head_word (five_a_node s) (λ k. next_head_word (reg s link_mark k) (reg s link_word k))
    ∷ register_row choice_row (five_a_node s) (λ k. next_choice (k % 5) (reg s latch_row k) (reg s link_mark k) (reg s link_word k))
    ∷ register_row latch_row (five_a_node s) (λ k. next_latch (k % 5) (reg s latch_row k) (reg s link_mark k) (reg s link_word k))
    ∷ register_row out_mark (five_a_node s) (λ k. next_out_mark s (k / 5) (k % 5))
    ∷ register_row out_word (five_a_node s) (λ k. next_out_word s (k / 5) (k % 5))
    ∷ register_row receive_mark (one_a_node s) (λ k. next_receive_mark s k)
    ∷ register_row receive_kind (one_a_node s) (λ k. next_receive_kind s k)
    ∷ register_row receive_address (one_a_node s) (λ k. next_receive_address s k)
    ∷ register_row landing_mark (one_a_node s) (λ k. next_landing_mark s k)
    ∷ register_row landing_kind (one_a_node s) (λ k. reg s receive_kind k)
    ∷ register_row landing_address (one_a_node s) (λ k. reg s receive_address k)
    ∷ register_row landing_word (one_a_node s) (λ k. memory_word s k)
    ∷ register_row left_row (one_a_circuit s) (λ k. (next_sender s k).left)
    ∷ register_row read_row (one_a_circuit s) (λ k. (next_sender s k).read_address)
    ∷ register_row write_row (one_a_circuit s) (λ k. (next_sender s k).write_address)
    ∷ register_row kind_row (one_a_circuit s) (λ k. (next_sender s k).kind)
    ∷ register_row to_go_row (one_a_circuit s) (λ k. (next_sender s k).to_go)
    ∷ register_row extra_mark (five_a_node s) (λ k. next_extra_mark s k)
    ∷ register_row extra_word (five_a_node s) (λ k. next_extra_word s k)
    ∷ []

-- the row of a number; one that is not listed has no registers
unfoldable pub row_in : List Row → ℕ → Row
row_in [] row = register_row row 0 (λ k. 0)
row_in (x ∷ rows) row = elim (x.number =? row) [ true ↦ x | false ↦ row_in rows row ]

unfoldable pub next_in_row : List ℕ → List ℕ → ℕ → ℕ → ℕ
next_in_row s m row k = (row_in (next_rows s m) row).next k

-- the sheet has this register
unfoldable pub exists : List ℕ → List ℕ → ℕ → ℕ → Bool
exists s m row k = k <? (row_in (next_rows s m) row).extent

-- word k after a cycle: a register that does not exist stays as it is
unfoldable pub next_word : List ℕ → List ℕ → ℕ → ℕ
next_word s m k = pick (exists s m (k / row_words) (k % row_words)) (next_in_row s m (k / row_words) (k % row_words)) (word s k)

-- the state and the memories after a cycle that is carried out
unfoldable pub next_state : List ℕ → List ℕ → List ℕ
next_state s m = tab moving_words (next_word s m) ++ drop moving_words s

unfoldable pub next_memory : List ℕ → List ℕ → List ℕ
next_memory s m = tab (length m) (λ k. memory_after s (k / room s) (k % room s) (word m k))

-- number 20 in words
unfoldable pub collides_in : List ℕ → ℕ → ℕ → Bool
collides_in s node output = 2 ≤? count_of 5 (λ input. 1 ≤? asked_mark s node output input)

-- a payload word in the link register for which no choice is held, and one that left the header stage with no choice
unfoldable pub unheld_in : List ℕ → ℕ → ℕ → Bool
unheld_in s node input = 2 ≤? reg s link_mark (at node input) and reg s latch_row (at node input) =? 0

unfoldable pub unchosen_in : List ℕ → ℕ → ℕ → Bool
unchosen_in s node input = 2 ≤? reg s head_mark (at node input) and reg s choice_row (at node input) =? 0

unfoldable pub headless_in : List ℕ → ℕ → ℕ → Bool
headless_in s node input = unheld_in s node input or unchosen_in s node input

unfoldable pub crowds_in : List ℕ → ℕ → Bool
crowds_in s node = 2 ≤? count_of (circuits (sheet_in s)) (λ c. source_of (sheet_in s) c =? node and 1 ≤? sent_mark s c)

unfoldable pub strays_in : List ℕ → ℕ → Bool
strays_in s node =
    2 ≤? memory_mark s node and (reg s receive_mark node =? 0 or room s ≤? reg s receive_address node)

unfoldable pub reopens_in : List ℕ → ℕ → Bool
reopens_in s c = 1 ≤? slot_in s c and 1 ≤? reg s left_row c and 1 ≤? reg s to_go_row c

unfoldable pub faulty_in : List ℕ → Bool
faulty_in s =
    any (nodes (sheet_in s)) (λ node. any 5 (collides_in s node) or any 5 (headless_in s node) or crowds_in s node or strays_in s node)
    or any (circuits (sheet_in s)) (reopens_in s)

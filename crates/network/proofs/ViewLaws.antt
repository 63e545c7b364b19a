-- The bridge of a cycle: the words after a cycle, read as the machine's registers, are the registers after one cycle of that machine.
-- Assumes nothing.
use Prim.Native.Nat.{ℕ, zero, suc, ◌+◌, ◌*◌, ◌/◌, ◌%◌, ◌≤◌, ◌<◌}
use mathlib.Core.Path.{◌≡◌, refl, sym, ◌∙◌, ap, ap₂}
use mathlib.Core.Bool.{Bool, true, false, false≢true}
use mathlib.Core.List.{List}
use native.Mathlib.Omega.{arith}
use native.Mathlib.Numerals.{add-one}
use lib.Arith.{digits_lt, digits_div, digits_mod}
use lib.ListN.{length}
use Rattle.words.specs.Tests.{◌and◌, ◌≤?◌, ◌=?◌}
use Rattle.words.specs.Words.{word, pick}
use Rattle.words.proofs.TestLaws.{yes≤, yes=, no=, is=}
use Rattle.words.proofs.WordLaws.{tab_at}
use Rattle.packet.specs.Header.{kind_of, address_of}
use Rattle.torus.specs.Torus.{opposite_of}
use Rattle.sheet.specs.Sheet.{memory_words, circuits, nodes}
use Rattle.sheet.specs.Slots.{source_of}
use Rattle.network.specs.View.{Cell, empty, payload, source_input, Sender, Receiver, View, no_order, pending}
use Rattle.network.specs.Cycle.{advance, choose, hold, goes_to, asks, join, gather, has_extra, link_end, step_routers, Move, rests, opens, sends, sent_cell, move_now}
use Rattle.network.specs.Cycle.{head_now, read_now, sent_now, source_wire, landing_of, step_receiver, stored_by, next_number, schedule_after, order_after}
use Rattle.network.specs.Cycle.{period_ends, tick}
use Rattle.network.specs.Registers.{reg, sheet_in, room, clock_row, number_place, in_force_place, order_mark_place, order_schedule_place}
use Rattle.network.specs.Registers.{order_period_place, link_mark, link_word, head_mark, head_word, choice_row, latch_row, receive_mark, receive_kind}
use Rattle.network.specs.Registers.{receive_address, out_mark, out_word, extra_mark, extra_word, at}
use Rattle.network.specs.Seen.{seen_sender, seen_cell, seen_choice, marked, seen_landing, seen_order, view, Agree}
use Rattle.network.specs.Inner.Machine.{first_mark, first_word, slot_in, mark_of, word_of, sent_mark, sent_word, own_mark, source_mark, source_word}
use Rattle.network.specs.Inner.Machine.{next_link_mark, next_link_word, next_head_word, next_choice, next_latch, asked_mark, next_out_mark, next_out_word, neighbour_place, next_extra_mark, next_extra_word}
use Rattle.network.specs.Inner.Machine.{memory_mark, memory_word, next_receive_mark, next_receive_kind, next_receive_address, next_landing_mark}
use Rattle.network.specs.Inner.Machine.{memory_after, turns, is_due, next_sender, next_state, next_memory}
pub use Rattle.network.proofs.RowLaws.{sheet_kept, input_at, RouterAfter, router_after, NodeAfter, node_after, sender_same, sender_after, ClockAfter, clock_after}

-- marks of 3 and more, tested
not_zero : (x : ℕ) → (suc (suc (suc x)) =? 0) ≡ false
not_zero x = no= (λ e. omega arith)

not_one : (x : ℕ) → (suc (suc (suc x)) =? 1) ≡ false
not_one x = no= (λ e. omega arith)

two_most : (x : ℕ) → (2 ≤? suc (suc (suc x))) ≡ true
two_most x = yes≤ (omega arith)

three_most : (x : ℕ) → (3 ≤? suc (suc (suc x))) ≡ true
three_most x = yes≤ (omega arith)

-- cells from marks and words
cell_pick : (b : Bool) (x y u v : ℕ) → seen_cell (pick b x u) (pick b y v) ≡ pick b (seen_cell x y) (seen_cell u v)
cell_pick true x y u v = refl
cell_pick false x y u v = refl

pub cell_only : (b : Bool) (mark w : ℕ) → seen_cell (pick b mark 0) w ≡ pick b (seen_cell mark w) empty
cell_only true mark w = refl
cell_only false mark w = refl

cell_join : (x y u v : ℕ) → seen_cell (pick (x =? 0) u x) (pick (x =? 0) v y) ≡ join (seen_cell x y) (seen_cell u v)
unfolding ◌=?◌
cell_join zero y u v = refl
cell_join (suc zero) y u v = refl
cell_join (suc (suc zero)) y u v = refl
cell_join (suc (suc (suc x))) y u v = rw (not_zero x) refl

-- no word beside an empty mark
cell_word : (mark w : ℕ) → seen_cell mark (pick (mark =? 0) 0 w) ≡ seen_cell mark w
unfolding ◌=?◌
cell_word zero w = refl
cell_word (suc zero) w = refl
cell_word (suc (suc zero)) w = refl
cell_word (suc (suc (suc mark))) w = rw (not_zero mark) refl

pub cell_first : (n : ℕ) (marks words : ℕ → ℕ)
    → seen_cell (first_mark n marks) (first_word n marks words) ≡ gather n (λ i. seen_cell (marks i) (words i))
unfolding first_mark first_word
cell_first zero marks words = refl
cell_first (suc n) marks words =
    cell_join (first_mark n marks) (first_word n marks words) (marks n) (pick (marks n =? 0) 0 (words n))
    ∙ ap₂ join (cell_first n marks words) (cell_word (marks n) (words n))

-- cells that agree one by one
pub gather_same : (n : ℕ) (f g : ℕ → Cell) → ((i : ℕ) → i < n → f i ≡ g i) → gather n f ≡ gather n g
gather_same zero f g e = refl
gather_same (suc n) f g e = ap₂ join (gather_same n f g (λ i l. e i (omega arith))) (e n (omega arith))

-- the header stage
head_law : (mark w : ℕ) → seen_cell mark (next_head_word mark w) ≡ advance (seen_cell mark w)
unfolding next_head_word ◌=?◌
head_law zero w = refl
head_law (suc zero) w = refl
head_law (suc (suc zero)) w = refl
head_law (suc (suc (suc mark))) w = rw (not_one mark) refl

choice_law : (i latch mark w : ℕ) → seen_choice (next_choice i latch mark w) ≡ choose i (seen_choice latch) (seen_cell mark w)
unfolding next_choice ◌=?◌
choice_law i latch zero w = refl
choice_law i latch (suc zero) w = ap seen_choice (add-one _)
choice_law i latch (suc (suc zero)) w = refl
choice_law i latch (suc (suc (suc mark))) w = rw (not_zero mark, not_one mark) refl

latch_law : (i latch mark w : ℕ) → seen_choice (next_latch i latch mark w) ≡ hold i (seen_choice latch) (seen_cell mark w)
unfolding next_latch ◌=?◌ ◌≤?◌
latch_law i latch zero w = refl
latch_law i latch (suc zero) w = ap seen_choice (add-one _)
latch_law i latch (suc (suc zero)) w = refl
latch_law i latch (suc (suc (suc mark))) w = rw (not_one mark, three_most mark) refl

-- a register asks for an output
pub asks_test : (register o : ℕ) → (register =? o + 1) ≡ goes_to (seen_choice register) o
asks_test zero o = no= (λ e. omega arith)
asks_test (suc h) o = same (h =? o) refl
  where
    same : (b : Bool) → (h =? o) ≡ b → (suc h =? o + 1) ≡ b
    same true e = yes= (omega (arith, is= h o e))
    same false e = no= (λ q. false≢true (sym e ∙ yes= (omega arith)))

-- a circuit's cell
sent_cell_is : (d : Move) (head w : ℕ) (x : Sender) → seen_cell (mark_of d x.to_go) (word_of d head w) ≡ sent_cell d head w x
sent_cell_is rests head w x = refl
sent_cell_is opens head w x = refl
sent_cell_is sends head w x = go (x.to_go =? 1)
  where
    go : (b : Bool) → seen_cell (pick b 3 2) w ≡ payload w b
    go true = refl
    go false = refl

-- the receive unit
receiver_law : (mark w address kind flag : ℕ)
    → ◌≡◌ {A = Receiver} (record {
      arriving = marked (pick (mark =? 1) 1 (pick (3 ≤? mark) 0 flag));
      kind = pick (mark =? 1) (kind_of w) kind;
      address = pick (mark =? 1) (address_of w) (pick (2 ≤? mark) (address + 1) address);
    })
    (step_receiver (record { arriving = marked flag; kind = kind; address = address }) (seen_cell mark w))
unfolding ◌=?◌ ◌≤?◌
receiver_law zero w address kind flag = refl
receiver_law (suc zero) w address kind flag = refl
receiver_law (suc (suc zero)) w address kind flag = refl
receiver_law (suc (suc (suc mark))) w address kind flag = rw (not_one mark, two_most mark, three_most mark) refl

landing_law : (mark w address kind : ℕ) (on : Bool)
    → seen_landing (pick (2 ≤? mark) 1 0) kind address w
    ≡ landing_of (record { arriving = on; kind = kind; address = address }) (seen_cell mark w)
unfolding ◌≤?◌
landing_law zero w address kind on = refl
landing_law (suc zero) w address kind on = refl
landing_law (suc (suc zero)) w address kind on = refl
landing_law (suc (suc (suc mark))) w address kind on = rw (two_most mark) refl

memory_law : (mark w address kind place old : ℕ) (on : Bool)
    → pick (2 ≤? mark and address =? place) w old
    ≡ stored_by (landing_of (record { arriving = on; kind = kind; address = address }) (seen_cell mark w)) place old
unfolding ◌≤?◌ ◌and◌
memory_law zero w address kind place old on = refl
memory_law (suc zero) w address kind place old on = refl
memory_law (suc (suc zero)) w address kind place old on = refl
memory_law (suc (suc (suc mark))) w address kind place old on = rw (two_most mark) refl

-- the clock
schedule_law : (ends : Bool) (mark ordered period schedule number : ℕ)
    → pick (ends and 1 ≤? mark and period =? number) ordered schedule
    ≡ pick ends (schedule_after (seen_order mark ordered period) number schedule) schedule
unfolding ◌≤?◌ ◌and◌
schedule_law true zero ordered period schedule number = refl
schedule_law true (suc mark) ordered period schedule number = rw (yes≤ {a = 1} {b = suc mark} (omega arith)) refl
schedule_law false mark ordered period schedule number = refl

order_law : (ends : Bool) (mark ordered period number : ℕ)
    → seen_order (pick (ends and 1 ≤? mark and period =? number) 0 mark) ordered period
    ≡ pick ends (order_after (seen_order mark ordered period) number) (seen_order mark ordered period)
unfolding ◌≤?◌ ◌and◌
order_law false mark ordered period number = refl
order_law true zero ordered period number = refl
order_law true (suc mark) ordered period number = rw (yes≤ {a = 1} {b = suc mark} (omega arith)) (go (period =? number))
  where
    go : (b : Bool) → seen_order (pick b 0 (suc mark)) ordered period ≡ pick b no_order (pending ordered period)
    go true = refl
    go false = refl

-- what a circuit puts on its wire, and what a node's source does
pub sent_same : (s m : List ℕ) (circuit : ℕ) → seen_cell (sent_mark s circuit) (sent_word s m circuit) ≡ sent_now (sheet_in s) (view s m) circuit
unfolding sent_mark sent_word slot_in
sent_same s m circuit =
    sent_cell_is (move_now (sheet_in s) (view s m) circuit) (head_now (sheet_in s) (view s m) circuit)
    (read_now (sheet_in s) (view s m) circuit) (seen_sender s circuit)

pub wire_same : (s m : List ℕ) (node : ℕ) → seen_cell (source_mark s node) (source_word s m node) ≡ source_wire (sheet_in s) (view s m) node
unfolding source_wire source_mark source_word
wire_same s m node =
    cell_first (circuits (sheet_in s)) (own_mark s node) (sent_word s m)
    ∙ gather_same (circuits (sheet_in s)) _ _ (λ c l.
    cell_only (source_of (sheet_in s) c =? node) (sent_mark s c) (sent_word s m c)
    ∙ ap (λ x. pick (source_of (sheet_in s) c =? node) x empty) (sent_same s m c))

-- what an input asks of an output
pub asked_same : (s m : List ℕ) (node o input : ℕ)
    → seen_cell (asked_mark s node o input) (reg s head_word (at node input)) ≡ asks (view s m).routers node o input
unfolding asks asked_mark
asked_same s m node o input =
    cell_only (reg s choice_row (at node input) =? o + 1) (reg s head_mark (at node input)) (reg s head_word (at node input))
    ∙ ap (λ b. pick b ((view s m).routers.head node input) empty) (asks_test (reg s choice_row (at node input)) o)

-- what comes out of a link, by the rows
end_same : (s : List ℕ) (b : Bool) (k : ℕ) → seen_cell (reg s (pick b extra_mark out_mark) k) (reg s (pick b extra_word out_word) k)
    ≡ pick b (seen_cell (reg s extra_mark k) (reg s extra_word k)) (seen_cell (reg s out_mark k) (reg s out_word k))
end_same s true k = refl
end_same s false k = refl

-- the registers after a cycle, one by one
module _ (s m : List ℕ) where
  abbrev after : View
  after = view (next_state s m) (next_memory s m)

  abbrev next : View
  next = tick (sheet_in s) (view s m)

  link_next : (node input : ℕ) → RouterAfter s m node input → after.routers.link node input ≡ next.routers.link node input
  unfolding step_routers link_end next_link_mark next_link_word
  link_next node input r =
      ap₂ seen_cell r.link_mark_is r.link_word_is
      ∙ cell_pick (input =? source_input) _ _ _ _
      ∙ ap₂ (λ x y. pick (input =? source_input) x y) (wire_same s m node)
      (end_same s (has_extra (sheet_in s) (opposite_of input)) (neighbour_place s node input))

  head_next : (node input : ℕ) → RouterAfter s m node input → after.routers.head node input ≡ next.routers.head node input
  unfolding step_routers
  head_next node input r =
      ap₂ seen_cell r.head_mark_is r.head_word_is ∙ head_law (reg s link_mark (at node input)) (reg s link_word (at node input))

  choice_next : (node input : ℕ) → RouterAfter s m node input → after.routers.choice node input ≡ next.routers.choice node input
  unfolding step_routers
  choice_next node input r =
      ap seen_choice r.choice_register
      ∙ choice_law input (reg s latch_row (at node input)) (reg s link_mark (at node input)) (reg s link_word (at node input))

  latch_next : (node input : ℕ) → RouterAfter s m node input → after.routers.latch node input ≡ next.routers.latch node input
  unfolding step_routers
  latch_next node input r =
      ap seen_choice r.latch_register
      ∙ latch_law input (reg s latch_row (at node input)) (reg s link_mark (at node input)) (reg s link_word (at node input))

  out_next : (node o : ℕ) → RouterAfter s m node o → after.routers.out node o ≡ next.routers.out node o
  unfolding step_routers next_out_mark next_out_word
  out_next node o r =
      ap₂ seen_cell r.out_mark_is r.out_word_is
      ∙ cell_first 5 (asked_mark s node o) (λ input. reg s head_word (at node input))
      ∙ gather_same 5 _ _ (λ input _. asked_same s m node o input)

  extra_next : (node o : ℕ) → o < 5 → RouterAfter s m node o → after.routers.extra node o ≡ next.routers.extra node o
  unfolding step_routers next_extra_mark next_extra_word
  extra_next node o l r =
      ap₂ seen_cell r.extra_mark_at r.extra_word_at
      ∙ cell_pick (has_extra (sheet_in s) (at node o % 5)) _ _ _ _
      ∙ ap (λ i. pick (has_extra (sheet_in s) i) ((view s m).routers.out node o) ((view s m).routers.extra node o)) (input_at node o l)

  sender_next : (circuit : ℕ) → seen_sender (next_state s m) circuit ≡ next_sender s circuit → after.sender circuit ≡ next.sender circuit
  unfolding slot_in
  sender_next circuit e = e

  receiver_next : (node : ℕ) → NodeAfter s m node → after.receiver node ≡ next.receiver node
  unfolding next_receive_mark next_receive_kind next_receive_address
  receiver_next node r =
      (λ i. record { arriving = marked (r.receive_mark_is i); kind = r.receive_kind_is i; address = r.receive_address_is i })
      ∙ receiver_law (memory_mark s node) (memory_word s node) (reg s receive_address node) (reg s receive_kind node) (reg s receive_mark node)

  landing_next : (node : ℕ) → NodeAfter s m node → after.landing node ≡ next.landing node
  unfolding next_landing_mark
  landing_next node r =
      (λ i. seen_landing (r.landing_mark_is i) (r.landing_kind_is i) (r.landing_address_is i) (r.landing_word_is i))
      ∙ landing_law (memory_mark s node) (memory_word s node) (reg s receive_address node) (reg s receive_kind node)
      (marked (reg s receive_mark node))

  memory_next : length m ≡ nodes (sheet_in s) * room s → (node address : ℕ) → node < nodes (sheet_in s) → address < room s
      → after.memory node address ≡ next.memory node address
  unfolding next_memory memory_after
  memory_next e node address nl al =
      let inside : node * room s + address < length m = rw e (digits_lt nl al) in
      ap (λ z. word (next_memory s m) (node * memory_words z + address)) (sheet_kept s m)
      ∙ tab_at (length m) (λ k. memory_after s (k / room s) (k % room s) (word m k)) (node * room s + address) inside
      ∙ ap₂ (λ n a. memory_after s n a (word m (node * room s + address))) (digits_div node al) (digits_mod node al)
      ∙ memory_law (memory_mark s node) (memory_word s node) (reg s receive_address node) (reg s receive_kind node) address
      (word m (node * room s + address)) (marked (reg s receive_mark node))

  cycle_next : after.cycle ≡ next.cycle
  unfolding turns
  cycle_next = (clock_after s m).cycle

  number_next : after.period_number ≡ next.period_number
  unfolding turns
  number_next = (clock_after s m).number

  schedule_next : after.schedule ≡ next.schedule
  unfolding turns is_due
  schedule_next =
      (clock_after s m).schedule
      ∙ schedule_law (period_ends (sheet_in s) (view s m)) (reg s clock_row order_mark_place) (reg s clock_row order_schedule_place)
      (reg s clock_row order_period_place) (reg s clock_row in_force_place) (next_number (reg s clock_row number_place))

  order_next : after.order ≡ next.order
  unfolding turns is_due
  order_next =
      (λ i. seen_order ((clock_after s m).order_mark i) ((clock_after s m).order_schedule i) ((clock_after s m).order_period i))
      ∙ order_law (period_ends (sheet_in s) (view s m)) (reg s clock_row order_mark_place) (reg s clock_row order_schedule_place)
      (reg s clock_row order_period_place) (next_number (reg s clock_row number_place))

-- the words after a cycle, read as registers, are the registers after a cycle
pub cycle_agrees : (s m : List ℕ) → nodes (sheet_in s) ≤ 16 → circuits (sheet_in s) ≤ 64 → length m ≡ nodes (sheet_in s) * room s
    → Agree (sheet_in s) (view (next_state s m) (next_memory s m)) (tick (sheet_in s) (view s m))
cycle_agrees s m few_nodes few_circuits e = record {
  link = λ node input nl il. link_next s m node input (router_after s m few_nodes node input nl il);
  head = λ node input nl il. head_next s m node input (router_after s m few_nodes node input nl il);
  choice = λ node input nl il. choice_next s m node input (router_after s m few_nodes node input nl il);
  latch = λ node input nl il. latch_next s m node input (router_after s m few_nodes node input nl il);
  out = λ node o nl ol. out_next s m node o (router_after s m few_nodes node o nl ol);
  extra = λ node o nl ol has. extra_next s m node o ol (router_after s m few_nodes node o nl ol);
  memory = memory_next s m e;
  cycle = cycle_next s m;
  period_number = number_next s m;
  schedule = schedule_next s m;
  order = order_next s m;
  sender = λ circuit l. sender_next s m circuit (sender_after s m few_circuits circuit l);
  receiver = λ node l. receiver_next s m node (node_after s m few_nodes node l);
  landing = λ node l. landing_next s m node (node_after s m few_nodes node l);
}

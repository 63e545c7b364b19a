-- A quiet cycle moves only the clock and stores that nothing landed, leaves the memories, and has no fault.
-- Assumes nothing.
use Prim.Native.Nat.{ℕ, ◌+◌, ◌*◌, ◌/◌, ◌%◌, ◌≤◌, ◌<◌}
use mathlib.Core.Bool.{Bool, true, false}
use mathlib.Core.List.{List, []}
use mathlib.Core.Path.{◌≡◌, refl, sym, ◌∙◌, ap}
use native.Mathlib.Omega.{arith}
use native.Mathlib.Decide.{dec_lt}
use native.Mathlib.Nat.{div-lt_iff_lt-mul}
use lib.ListN.{length, drop}
use Rattle.words.specs.Tests.{any, ◌and◌, ◌or◌, ◌≤?◌, ◌=?◌}
use Rattle.words.specs.Words.{word, pick}
use Rattle.words.proofs.TestLaws.{and_no, and_left, and_right, and_no_right, or_on, or_cases, is=, no≤}
use Rattle.words.proofs.AllLaws.{all_at, any_none}
use Rattle.words.proofs.WordLaws.{count_of_none, tab_is}
use Rattle.torus.specs.Torus.{opposite_of}
use Rattle.torus.proofs.NeighbourLaws.{neighbour_inside, opposite_side}
use Rattle.sheet.specs.Sheet.{circuits, nodes}
use Rattle.sheet.specs.Inner.Passed.{Headed}
use Rattle.sheet.specs.Slots.{source_of}
use Rattle.sheet.proofs.PassedLaws.{in_grid}
use Rattle.network.specs.View.{Sender, source_input, memory_output}
use Rattle.network.specs.Cycle.{has_extra, Move, rests, opens, sends, step_sender}
use Rattle.network.specs.Registers.{reg, sheet_in, room, moving_words, row_count, row_words, at, clock_row, clock_words, link_mark, link_word, head_mark}
use Rattle.network.specs.Registers.{head_word, choice_row, latch_row, out_mark, out_word, receive_mark, receive_kind, receive_address, landing_mark}
use Rattle.network.specs.Registers.{landing_kind, landing_address, landing_word, left_row, read_row, write_row, kind_row, to_go_row, extra_mark, extra_word}
use Rattle.network.specs.Seen.{seen_sender}
use Rattle.network.specs.Inner.Machine.{slot_in, move_in, mark_of, sent_mark, sent_word, own_mark, source_mark, source_word, next_sender, end_mark, end_word}
use Rattle.network.specs.Inner.Machine.{neighbour_place, next_link_mark, next_link_word, next_head_word, next_choice, next_latch, asked_mark, next_out_mark}
use Rattle.network.specs.Inner.Machine.{next_out_word, next_extra_mark, next_extra_word, memory_mark, memory_word, next_receive_mark, next_receive_kind}
use Rattle.network.specs.Inner.Machine.{next_receive_address, next_landing_mark, memory_after, next_clock, row_in, next_rows, next_in_row, next_state, next_memory}
use Rattle.network.specs.Inner.Machine.{collides_in, unheld_in, unchosen_in, headless_in, crowds_in, strays_in, reopens_in, faulty_in}
use Rattle.network.specs.Inner.Stages.{stage}
use Rattle.network.specs.Inner.Quiet.{empty_at, is_still, none_begins, is_quiet, unlanded, no_landings, quiet_next}
use Rattle.network.proofs.RowCases.{Each, that_is_all, ◌also◌, found_number, by_row, clock_extent, node_extent}
use Rattle.network.proofs.RowLaws.{next_row, next_off, next_rest, clock_same}
use Rattle.network.proofs.StepLaws.{state_length}
use Rattle.network.proofs.FirstLaws.{first_empty, word_empty}
use Rattle.network.proofs.FillLaws.{same_words, off, here, stage_length, stage_rest, stage_sheet}

-- what the tests say, in numbers: the routers' registers at a place
pub record Empty (s : List ℕ) (k : ℕ) : Type 0 where
  pub link_mark_is : reg s link_mark k ≡ 0
  pub link_word_is : reg s link_word k ≡ 0
  pub head_mark_is : reg s head_mark k ≡ 0
  pub head_word_is : reg s head_word k ≡ 0
  pub choice : reg s choice_row k ≡ 0
  pub out_mark_is : reg s out_mark k ≡ 0
  pub out_word_is : reg s out_word k ≡ 0
  pub extra_mark_at : reg s extra_mark k ≡ 0
  pub extra_word_at : reg s extra_word k ≡ 0

pub empty_is : (s : List ℕ) (k : ℕ) → empty_at s k ≡ true → Empty s k
unfolding empty_at
empty_is s k e =
    let e₁ = and_right _ _ e in
    let e₂ = and_right _ _ e₁ in
    let e₃ = and_right _ _ e₂ in
    let e₄ = and_right _ _ e₃ in
    let e₅ = and_right _ _ e₄ in
    let e₆ = and_right _ _ e₅ in
    let e₇ = and_right _ _ e₆ in
    record {
      link_mark_is = is= _ _ (and_left _ _ e);
      link_word_is = is= _ _ (and_left _ _ e₁);
      head_mark_is = is= _ _ (and_left _ _ e₂);
      head_word_is = is= _ _ (and_left _ _ e₃);
      choice = is= _ _ (and_left _ _ e₄);
      out_mark_is = is= _ _ (and_left _ _ e₅);
      out_word_is = is= _ _ (and_left _ _ e₆);
      extra_mark_at = is= _ _ (and_left _ _ e₇);
      extra_word_at = is= _ _ (and_right _ _ e₇);
    }

-- a state that is still, and one whose next cycle is quiet
pub record Still (s : List ℕ) : Type 0 where
  pub empty : (k : ℕ) → k < nodes (sheet_in s) * 5 → Empty s k
  pub none_goes : (c : ℕ) → c < circuits (sheet_in s) → reg s to_go_row c ≡ 0

pub still_is : (s : List ℕ) → is_still s ≡ true → Still s
unfolding is_still
still_is s e = record {
  empty = λ k l. empty_is s k (all_at _ _ (and_left _ _ e) k l);
  none_goes = λ c l. is= _ _ (all_at _ _ (and_right _ _ e) c l);
}

-- a circuit whose slot does not begin, or that has no words left and none to go, rests
rests_by : (s : List ℕ) (c : ℕ) → reg s to_go_row c ≡ 0 → slot_in s c =? 0 or reg s left_row c =? 0 ≡ true → move_in s c ≡ rests
rests_by s c none e = go (1 ≤? slot_in s c and 1 ≤? reg s left_row c) (or_cases _ _ e no_slot no_word)
  where
    no_slot : (slot_in s c =? 0) ≡ true → (1 ≤? slot_in s c and 1 ≤? reg s left_row c) ≡ false
    no_slot q = sym (and_no (1 ≤? reg s left_row c) (no≤ (let h : slot_in s c < 1 = omega (arith, is= _ _ q) in h)))

    no_word : (reg s left_row c =? 0) ≡ true → (1 ≤? slot_in s c and 1 ≤? reg s left_row c) ≡ false
    no_word q = and_no_right (1 ≤? slot_in s c) _ (no≤ (let h : reg s left_row c < 1 = omega (arith, is= _ _ q) in h))

    go : (b : Bool) → b ≡ false → pick b opens (pick (1 ≤? reg s to_go_row c) sends rests) ≡ rests
    go b q =
        ap (λ (t : Bool). pick t opens (pick (1 ≤? reg s to_go_row c) sends rests)) q
        ∙ ap (λ (t : Bool). pick t sends rests) (no≤ (let h : reg s to_go_row c < 1 = omega (arith, none) in h))

pub record Quiet (s : List ℕ) : Type 0 where
  pub still : Still s
  pub resting : (c : ℕ) → c < circuits (sheet_in s) → move_in s c ≡ rests

pub quiet_is : (s : List ℕ) → is_quiet s ≡ true → Quiet s
unfolding is_quiet none_begins slot_in
quiet_is s e =
    let still = still_is s (and_left _ _ e) in
    record { still = still; resting = λ c l. rests_by s c (still.none_goes c l) (all_at _ _ (and_right (is_still s) _ e) c l) }

-- the words after a quiet cycle, row by row: the clock's and the landings' as the two stages want them, all others as they were
module _ (s : List ℕ) (long : moving_words ≤ length s) where
  by_landings : no_landings s ≡ stage landing_mark landing_word (nodes (sheet_in s)) (unlanded s) s
  unfolding no_landings
  by_landings = refl

  by_clock : quiet_next s ≡ stage clock_row clock_row clock_words (next_in_row (no_landings s) []) (no_landings s)
  unfolding quiet_next
  by_clock = refl

  cleared_sheet : sheet_in (no_landings s) ≡ sheet_in s
  cleared_sheet = ap sheet_in by_landings ∙ stage_sheet landing_mark landing_word (nodes (sheet_in s)) (unlanded s) s

  cleared_length : length (no_landings s) ≡ length s
  cleared_length = ap length by_landings ∙ stage_length landing_mark landing_word (nodes (sheet_in s)) (unlanded s) s long

  cleared_clock : (k : ℕ) → k < row_words → reg (no_landings s) clock_row k ≡ reg s clock_row k
  cleared_clock k l =
      off landing_mark landing_word (nodes (sheet_in s)) (unlanded s) s (no_landings s) by_landings clock_row k (omega arith) l (λ a b h. omega arith)

  pub quiet_length : length (quiet_next s) ≡ length s
  quiet_length =
      ap length by_clock
      ∙ stage_length clock_row clock_row clock_words (next_in_row (no_landings s) []) (no_landings s) (omega (arith, cleared_length, long))
      ∙ cleared_length

  pub quiet_rest : drop moving_words (quiet_next s) ≡ drop moving_words s
  quiet_rest =
      ap (drop moving_words) by_clock ∙ stage_rest clock_row clock_row clock_words (next_in_row (no_landings s) []) (no_landings s)
      ∙ ap (drop moving_words) by_landings ∙ stage_rest landing_mark landing_word (nodes (sheet_in s)) (unlanded s) s

  pub quiet_sheet : sheet_in (quiet_next s) ≡ sheet_in s
  quiet_sheet =
      ap sheet_in by_clock ∙ stage_sheet clock_row clock_row clock_words (next_in_row (no_landings s) []) (no_landings s) ∙ cleared_sheet

  pub quiet_clock : (k : ℕ) → k < clock_words → reg (quiet_next s) clock_row k ≡ next_clock s k
  unfolding next_in_row row_in next_rows ◌=?◌
  quiet_clock k l =
      here clock_row clock_row clock_words (next_in_row (no_landings s) []) (no_landings s) (quiet_next s) by_clock clock_row k (omega arith) (omega arith)
      (omega arith) (omega arith) l
      ∙ clock_same s (no_landings s) cleared_sheet cleared_clock k (omega arith)

  module _ (row k : ℕ) (rl : row < row_count) (kl : k < row_words) where
    pub quiet_off : (row ≡ clock_row → k < clock_words → ⊥) → (landing_mark ≤ row → row ≤ landing_word → k < nodes (sheet_in s) → ⊥)
        → reg (quiet_next s) row k ≡ reg s row k
    quiet_off no-clock no-landing =
        off clock_row clock_row clock_words (next_in_row (no_landings s) []) (no_landings s) (quiet_next s) by_clock row k rl kl
        (λ a b l. no-clock (omega arith) l)
        ∙ off landing_mark landing_word (nodes (sheet_in s)) (unlanded s) s (no_landings s) by_landings row k rl kl no-landing

    pub quiet_landing : landing_mark ≤ row → row ≤ landing_word → k < nodes (sheet_in s) → reg (quiet_next s) row k ≡ unlanded s row k
    quiet_landing a b l =
        off clock_row clock_row clock_words (next_in_row (no_landings s) []) (no_landings s) (quiet_next s) by_clock row k rl kl (λ x y z. omega arith)
        ∙ here landing_mark landing_word (nodes (sheet_in s)) (unlanded s) s (no_landings s) by_landings row k rl kl a b l

-- one of two that are both 0
either_none : (b : Bool) (x y : ℕ) → x ≡ 0 → y ≡ 0 → pick b x y ≡ 0
either_none true x y e f = e
either_none false x y e f = f

-- what each part of a quiet cycle does
module _ (s : List ℕ) (H : Headed (sheet_in s)) (q : Quiet s) where
  abbrev places : ℕ
  places = nodes (sheet_in s) * 5

  empty_place : (node i : ℕ) → node < nodes (sheet_in s) → i < 5 → Empty s (at node i)
  empty_place node i nl il = q.still.empty (at node i) (omega arith)

  -- the sources put nothing on their wires
  no_mark : (c : ℕ) → c < circuits (sheet_in s) → sent_mark s c ≡ 0
  unfolding sent_mark
  no_mark c l = ap (λ (d : Move). mark_of d (reg s to_go_row c)) (q.resting c l)

  none_own : (node c : ℕ) → c < circuits (sheet_in s) → own_mark s node c ≡ 0
  none_own node c l = either_none (source_of (sheet_in s) c =? node) _ _ (no_mark c l) refl

  no_source : (node : ℕ) → source_mark s node ≡ 0
  unfolding source_mark
  no_source node = first_empty (own_mark s node) (circuits (sheet_in s)) (none_own node)

  no_source_word : (m : List ℕ) (node : ℕ) → source_word s m node ≡ 0
  unfolding source_word source_mark
  no_source_word m node = word_empty (own_mark s node) (sent_word s m) (circuits (sheet_in s)) (no_source node)

  -- nothing comes out of a link
  end_none : (output k : ℕ) → k < places → (reg s (end_mark s output) k ≡ 0) × (reg s (end_word s output) k ≡ 0)
  end_none output k l = go (has_extra (sheet_in s) output)
    where
      go : (b : Bool) → (reg s (pick b extra_mark out_mark) k ≡ 0) × (reg s (pick b extra_word out_word) k ≡ 0)
      go true = ((q.still.empty k l).extra_mark_at, (q.still.empty k l).extra_word_at)
      go false = ((q.still.empty k l).out_mark_is, (q.still.empty k l).out_word_is)

  module _ (node input : ℕ) (nl : node < nodes (sheet_in s)) (il : input < 5) where
    neighbour_low : neighbour_place s node input < places
    neighbour_low =
        let inside = neighbour_inside (in_grid (sheet_in s) H node nl) input in
        let side = opposite_side input in
        omega arith

    link_mark_none : next_link_mark s node input ≡ 0
    unfolding next_link_mark
    link_mark_none = either_none (input =? source_input) _ _ (no_source node) (end_none (opposite_of input) _ neighbour_low).0

    link_word_none : (m : List ℕ) → next_link_word s m node input ≡ 0
    unfolding next_link_word
    link_word_none m = either_none (input =? source_input) _ _ (no_source_word m node) (end_none (opposite_of input) _ neighbour_low).1

    asked_none : (output : ℕ) → asked_mark s node output input ≡ 0
    unfolding asked_mark
    asked_none output = either_none (reg s choice_row (at node input) =? output + 1) _ _ (empty_place node input nl il).head_mark_is refl

  module _ (node output : ℕ) (nl : node < nodes (sheet_in s)) where
    out_mark_none : next_out_mark s node output ≡ 0
    unfolding next_out_mark
    out_mark_none = first_empty (asked_mark s node output) 5 (λ i l. asked_none node i nl l output)

    out_word_none : next_out_word s node output ≡ 0
    unfolding next_out_word next_out_mark
    out_word_none = word_empty (asked_mark s node output) (λ input. reg s head_word (at node input)) 5 out_mark_none

  -- the header stage and the extra registers, at a place
  module _ (k : ℕ) (l : k < places) where
    abbrev now : Empty s k
    now = q.still.empty k l

    head_word_none : next_head_word (reg s link_mark k) (reg s link_word k) ≡ 0
    unfolding next_head_word ◌=?◌
    head_word_none = rw (now.link_mark_is, now.link_word_is) refl

    choice_none : next_choice (k % 5) (reg s latch_row k) (reg s link_mark k) (reg s link_word k) ≡ 0
    unfolding next_choice ◌=?◌
    choice_none = rw now.link_mark_is refl

    latch_stays : next_latch (k % 5) (reg s latch_row k) (reg s link_mark k) (reg s link_word k) ≡ reg s latch_row k
    unfolding next_latch ◌=?◌ ◌≤?◌
    latch_stays = rw now.link_mark_is refl

    extra_mark_none : next_extra_mark s k ≡ 0
    unfolding next_extra_mark
    extra_mark_none = either_none (has_extra (sheet_in s) (k % 5)) _ _ now.out_mark_is now.extra_mark_at

    extra_word_none : next_extra_word s k ≡ 0
    unfolding next_extra_word
    extra_word_none = either_none (has_extra (sheet_in s) (k % 5)) _ _ now.out_word_is now.extra_word_at

  -- the receive unit of a node, and its landing
  module _ (node : ℕ) (nl : node < nodes (sheet_in s)) where
    memory_mark_none : memory_mark s node ≡ 0
    memory_mark_none = (empty_place node memory_output nl (omega arith)).out_mark_is

    memory_word_none : memory_word s node ≡ 0
    memory_word_none = (empty_place node memory_output nl (omega arith)).out_word_is

    receive_mark_stays : next_receive_mark s node ≡ reg s receive_mark node
    unfolding next_receive_mark ◌=?◌ ◌≤?◌
    receive_mark_stays = rw memory_mark_none refl

    receive_kind_stays : next_receive_kind s node ≡ reg s receive_kind node
    unfolding next_receive_kind ◌=?◌
    receive_kind_stays = rw memory_mark_none refl

    receive_address_stays : next_receive_address s node ≡ reg s receive_address node
    unfolding next_receive_address ◌=?◌ ◌≤?◌
    receive_address_stays = rw memory_mark_none refl

    nothing_lands : next_landing_mark s node ≡ 0
    unfolding next_landing_mark ◌≤?◌
    nothing_lands = rw memory_mark_none refl

    memory_stays : (address w : ℕ) → w ≡ memory_after s node address w
    unfolding memory_after ◌≤?◌ ◌and◌
    memory_stays address w = rw memory_mark_none refl

  sender_stays : (c : ℕ) → c < circuits (sheet_in s) → seen_sender s c ≡ next_sender s c
  sender_stays c l = sym (ap (λ (d : Move). step_sender d (slot_in s c) (seen_sender s c)) (q.resting c l))

  -- the memories
  pub quiet_memory : (m : List ℕ) → length m ≡ nodes (sheet_in s) * room s → next_memory s m ≡ m
  unfolding next_memory
  quiet_memory m whole =
      sym (tab_is m (length m) _ refl (λ k l.
      memory_stays (k / room s) ((div-lt_iff_lt-mul H.memory_low).1 (omega (arith, whole))) (k % room s) (word m k)))

  -- no fault
  none_at : (node : ℕ) → node < nodes (sheet_in s)
      → any 5 (collides_in s node) or any 5 (headless_in s node) or crowds_in s node or strays_in s node ≡ false
  unfolding collides_in headless_in unheld_in unchosen_in crowds_in strays_in
  none_at node nl =
      sym (or_on (any_none 5 _ (λ o l. too_few (count_of_none 5 _ (λ i il. no≤ (below (asked_none node i nl il o))))))
      (sym (or_on' (any_none 5 _ (λ i il. no_head i il))
      (or_on' (too_few (count_of_none (circuits (sheet_in s)) _ (λ c cl. and_no_right _ _ (no≤ (below (no_mark c cl))))))
      (sym (and_no _ (no≤ (let h : memory_mark s node < 2 = omega (arith, memory_mark_none node nl) in h))))))))
    where
      below : {n : ℕ} → n ≡ 0 → n < 1
      below e = omega arith

      too_few : {n : ℕ} → n ≡ 0 → (2 ≤? n) ≡ false
      too_few e = no≤ (omega arith)

      or_on' : {a b : Bool} → a ≡ false → b ≡ false → a or b ≡ false
      or_on' e f = sym (or_on e (sym f))

      no_head : (i : ℕ) → i < 5
          → (2 ≤? reg s link_mark (at node i) and reg s latch_row (at node i) =? 0)
          or (2 ≤? reg s head_mark (at node i) and reg s choice_row (at node i) =? 0) ≡ false
      no_head i il =
          let e = empty_place node i nl il in
          or_on' (sym (and_no _ (too_few e.link_mark_is))) (sym (and_no _ (too_few e.head_mark_is)))

  pub quiet_calm : faulty_in s ≡ false
  unfolding faulty_in reopens_in
  quiet_calm =
      sym (or_on (any_none (nodes (sheet_in s)) _ none_at)
      (sym (any_none (circuits (sheet_in s)) _ (λ c l.
      and_no_right _ _ (and_no_right _ _ (no≤ (let h : reg s to_go_row c < 1 = omega (arith, q.still.none_goes c l) in h)))))))

  -- the words are those after the cycle
  module _ (long : moving_words ≤ length s) (m : List ℕ) where
    each_inside : (k : ℕ) → k < row_words → Each (λ x. k < x.extent → reg (quiet_next s) x.number k ≡ x.next k) (next_rows s m)
    unfolding next_in_row row_in next_rows ◌=?◌ unlanded
    each_inside k kl =
        (λ l. quiet_clock s long k l)
        also (λ l. empty link_mark (omega arith) (omega arith) (q.still.empty k l).link_mark_is (link_mark_none (k / 5) (k % 5) (omega arith) (omega arith)))
        also (λ l. empty link_word (omega arith) (omega arith) (q.still.empty k l).link_word_is (link_word_none (k / 5) (k % 5) (omega arith) (omega arith) m))
        also (λ l. empty head_mark (omega arith) (omega arith) (q.still.empty k l).head_mark_is (q.still.empty k l).link_mark_is)
        also (λ l. empty head_word (omega arith) (omega arith) (q.still.empty k l).head_word_is (head_word_none k l))
        also (λ l. empty choice_row (omega arith) (omega arith) (q.still.empty k l).choice (choice_none k l))
        also (λ l. beside latch_row (omega arith) (omega arith) ∙ sym (latch_stays k l))
        also (λ l. empty out_mark (omega arith) (omega arith) (q.still.empty k l).out_mark_is (out_mark_none (k / 5) (k % 5) (omega arith)))
        also (λ l. empty out_word (omega arith) (omega arith) (q.still.empty k l).out_word_is (out_word_none (k / 5) (k % 5) (omega arith)))
        also (λ l. beside receive_mark (omega arith) (omega arith) ∙ sym (receive_mark_stays k l))
        also (λ l. beside receive_kind (omega arith) (omega arith) ∙ sym (receive_kind_stays k l))
        also (λ l. beside receive_address (omega arith) (omega arith) ∙ sym (receive_address_stays k l))
        also (λ l. quiet_landing s long landing_mark k (omega arith) kl (omega arith) (omega arith) l ∙ sym (nothing_lands k l))
        also (λ l. quiet_landing s long landing_kind k (omega arith) kl (omega arith) (omega arith) l)
        also (λ l. quiet_landing s long landing_address k (omega arith) kl (omega arith) (omega arith) l)
        also (λ l. quiet_landing s long landing_word k (omega arith) kl (omega arith) (omega arith) l ∙ sym (memory_word_none k l))
        also (λ l. behind left_row (omega arith) (omega arith) ∙ ap (λ (x : Sender). x.left) (sender_stays k l))
        also (λ l. behind read_row (omega arith) (omega arith) ∙ ap (λ (x : Sender). x.read_address) (sender_stays k l))
        also (λ l. behind write_row (omega arith) (omega arith) ∙ ap (λ (x : Sender). x.write_address) (sender_stays k l))
        also (λ l. behind kind_row (omega arith) (omega arith) ∙ ap (λ (x : Sender). x.kind) (sender_stays k l))
        also (λ l. behind to_go_row (omega arith) (omega arith) ∙ ap (λ (x : Sender). x.to_go) (sender_stays k l))
        also (λ l. behind extra_mark (omega arith) (omega arith) ∙ (q.still.empty k l).extra_mark_at ∙ sym (extra_mark_none k l))
        also (λ l. behind extra_word (omega arith) (omega arith) ∙ (q.still.empty k l).extra_word_at ∙ sym (extra_word_none k l))
        also that_is_all
      where
        -- a row before the landings, or behind them
        beside : (row : ℕ) → link_mark ≤ row → row < landing_mark → reg (quiet_next s) row k ≡ reg s row k
        beside row a b = quiet_off s long row k (omega arith) kl (λ e l. omega arith) (λ x y z. omega arith)

        behind : (row : ℕ) → landing_word < row → row < row_count → reg (quiet_next s) row k ≡ reg s row k
        behind row a b = quiet_off s long row k b kl (λ e l. omega arith) (λ x y z. omega arith)

        empty : (row : ℕ) → link_mark ≤ row → row < landing_mark → {n : ℕ} → reg s row k ≡ 0 → n ≡ 0 → reg (quiet_next s) row k ≡ n
        empty row a b e f = beside row a b ∙ e ∙ sym f

    inside : (row k : ℕ) → row < row_count → k < row_words → k < (row_in (next_rows s m) row).extent → reg (quiet_next s) row k ≡ next_in_row s m row k
    unfolding next_in_row
    inside row k rl kl l =
        ap (λ (r : ℕ). reg (quiet_next s) r k) (sym (found_number (next_rows s m) row))
        ∙ by_row s m (λ x. k < x.extent → reg (quiet_next s) x.number k ≡ x.next k) (each_inside k kl) row rl l

    outside : (row k : ℕ) → row < row_count → k < row_words → (row_in (next_rows s m) row).extent ≤ k → reg (quiet_next s) row k ≡ reg s row k
    outside row k rl kl l =
        quiet_off s long row k rl kl (λ e h. omega (arith, clock_extent s m row rl e))
        (λ a b h. omega (arith, node_extent s m row rl (omega arith) b))

    -- the words after a quiet cycle are those after the cycle
    pub quiet_state : quiet_next s ≡ next_state s m
    quiet_state =
        same_words (quiet_next s) (next_state s m) (omega (arith, quiet_length s long, long)) (omega (arith, state_length s m long, long))
        (quiet_rest s long ∙ sym (next_rest s m))
        (λ row k rl kl. go row k rl kl (dec_lt k (row_in (next_rows s m) row).extent))
      where
        go : (row k : ℕ) → row < row_count → k < row_words → Dec (k < (row_in (next_rows s m) row).extent)
            → reg (quiet_next s) row k ≡ reg (next_state s m) row k
        go row k rl kl (yes l) = inside row k rl kl l ∙ sym (next_row s m row k rl kl l)
        go row k rl kl (no l) = outside row k rl kl (omega (arith, l)) ∙ sym (next_off s m row k rl kl (omega (arith, l)))

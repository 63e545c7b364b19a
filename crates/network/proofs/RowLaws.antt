-- What stands in each register after a cycle: one law for all rows, then each register by its name. The sheet stays.
-- Assumes nothing.
use Prim.Native.Nat.{ℕ, ◌+◌, ◌*◌, ◌/◌, ◌%◌, ◌≤◌, ◌<◌}
use mathlib.Core.Path.{◌≡◌, refl, sym, subst, ◌∙◌, ap, ap₂}
use mathlib.Core.Bool.{Bool, false}
use mathlib.Core.List.{List}
use native.Mathlib.Omega.{arith}
use native.Mathlib.Decide.{ℕ_discrete, dec_lt}
use lib.ListN.{take, drop, get_or-append}
use lib.Seq.{drop_at}
use Rattle.words.specs.Tests.{◌=?◌}
use Rattle.words.specs.Words.{word, pick, tab}
use Rattle.words.proofs.TestLaws.{yes<, no<}
use Rattle.words.proofs.WordLaws.{length_tab, tab_at}
use Rattle.sheet.specs.Sheet.{circuits, nodes}
use Rattle.network.specs.View.{Sender}
use Rattle.network.specs.Cycle.{has_extra, next_number}
use Rattle.network.specs.Registers.{reg, sheet_in, row_count, row_words, moving_words, clock_row, cycle_place, number_place, in_force_place}
use Rattle.network.specs.Registers.{order_mark_place, order_schedule_place, order_period_place, link_mark, link_word, head_mark, head_word, choice_row}
use Rattle.network.specs.Registers.{latch_row, out_mark, out_word, receive_mark, receive_kind, receive_address, landing_mark, landing_kind}
use Rattle.network.specs.Registers.{landing_address, landing_word, left_row, read_row, write_row, kind_row, to_go_row, extra_mark, extra_word, at}
use Rattle.network.specs.Seen.{seen_sender}
use Rattle.network.specs.Inner.Machine.{next_sender, next_link_mark, next_link_word, next_head_word, next_choice, next_latch, next_out_mark, next_out_word, next_extra_mark, next_extra_word}
use Rattle.network.specs.Inner.Machine.{memory_word, next_receive_mark, next_receive_kind, next_receive_address, next_landing_mark, turns, is_due}
use Rattle.network.specs.Inner.Machine.{next_clock, five_a_node, row_in, next_rows, next_in_row, exists, next_word, next_state}

-- the one law of the table: register k of a row, where the sheet has it and where it has not
module _ (s m : List ℕ) (row k : ℕ) (rl : row < row_count) (kl : k < row_words) where
  next_at : reg (next_state s m) row k ≡ pick (exists s m row k) (next_in_row s m row k) (reg s row k)
  unfolding reg next_state next_word
  next_at =
      let inside : row * row_words + k < moving_words = omega arith in
      let a : (row * row_words + k) / row_words ≡ row = omega arith in
      let b : (row * row_words + k) % row_words ≡ k = omega arith in
      get_or-append (tab moving_words (next_word s m)) (drop moving_words s) 0 (row * row_words + k) (rw length_tab inside)
      ∙ tab_at moving_words (next_word s m) (row * row_words + k) inside
      ∙ rw (a, b) refl

  pub next_row : k < (row_in (next_rows s m) row).extent → reg (next_state s m) row k ≡ next_in_row s m row k
  unfolding exists
  next_row l = next_at ∙ ap (λ (b : Bool). pick b (next_in_row s m row k) (reg s row k)) (yes< l)

  pub next_off : (row_in (next_rows s m) row).extent ≤ k → reg (next_state s m) row k ≡ reg s row k
  unfolding exists
  next_off l = next_at ∙ ap (λ (b : Bool). pick b (next_in_row s m row k) (reg s row k)) (no< l)

-- what lies behind the rows
pub next_rest : (s m : List ℕ) → drop moving_words (next_state s m) ≡ drop moving_words s
unfolding next_state
next_rest s m = drop_at (tab moving_words (next_word s m)) (drop moving_words s) moving_words (length_tab moving_words _)

-- a cycle leaves the sheet
pub sheet_kept : (s m : List ℕ) → sheet_in (next_state s m) ≡ sheet_in s
unfolding sheet_in
sheet_kept s m = ap (λ rest. take (word rest 0) (drop 1 rest)) (next_rest s m)

-- the node and the input or output of a place in a router's row
node_at : (node i : ℕ) → i < 5 → at node i / 5 ≡ node
node_at node i l = omega arith

pub input_at : (node i : ℕ) → i < 5 → at node i % 5 ≡ i
input_at node i l = omega arith

-- and so each register by its name: those of a router's input and output i
pub record RouterAfter (s m : List ℕ) (node i : ℕ) : Type 0 where
  pub link_mark_is : reg (next_state s m) link_mark (at node i) ≡ next_link_mark s node i
  pub link_word_is : reg (next_state s m) link_word (at node i) ≡ next_link_word s m node i
  pub head_mark_is : reg (next_state s m) head_mark (at node i) ≡ reg s link_mark (at node i)
  pub head_word_is : reg (next_state s m) head_word (at node i) ≡ next_head_word (reg s link_mark (at node i)) (reg s link_word (at node i))
  pub choice_register : reg (next_state s m) choice_row (at node i)
      ≡ next_choice i (reg s latch_row (at node i)) (reg s link_mark (at node i)) (reg s link_word (at node i))
  pub latch_register : reg (next_state s m) latch_row (at node i)
      ≡ next_latch i (reg s latch_row (at node i)) (reg s link_mark (at node i)) (reg s link_word (at node i))
  pub out_mark_is : reg (next_state s m) out_mark (at node i) ≡ next_out_mark s node i
  pub out_word_is : reg (next_state s m) out_word (at node i) ≡ next_out_word s node i
  pub extra_mark_at : reg (next_state s m) extra_mark (at node i) ≡ next_extra_mark s (at node i)
  pub extra_word_at : reg (next_state s m) extra_word (at node i) ≡ next_extra_word s (at node i)

pub router_after : (s m : List ℕ) → nodes (sheet_in s) ≤ 16 → (node i : ℕ) → node < nodes (sheet_in s) → i < 5 → RouterAfter s m node i
unfolding next_in_row row_in next_rows ◌=?◌
router_after s m few node i nl il =
    let k : ℕ = at node i in
    let n : k / 5 ≡ node = node_at node i il in
    let j : k % 5 ≡ i = input_at node i il in
    let l : k < five_a_node s = omega arith in
    let kl : k < row_words = omega arith in
    record {
      link_mark_is = next_row s m link_mark k (omega arith) kl l ∙ ap₂ (next_link_mark s) n j;
      link_word_is = next_row s m link_word k (omega arith) kl l ∙ ap₂ (next_link_word s m) n j;
      head_mark_is = next_row s m head_mark k (omega arith) kl l;
      head_word_is = next_row s m head_word k (omega arith) kl l;
      choice_register =
          next_row s m choice_row k (omega arith) kl l
          ∙ ap (λ i. next_choice i (reg s latch_row k) (reg s link_mark k) (reg s link_word k)) j;
      latch_register =
          next_row s m latch_row k (omega arith) kl l
          ∙ ap (λ i. next_latch i (reg s latch_row k) (reg s link_mark k) (reg s link_word k)) j;
      out_mark_is = next_row s m out_mark k (omega arith) kl l ∙ ap₂ (next_out_mark s) n j;
      out_word_is = next_row s m out_word k (omega arith) kl l ∙ ap₂ (next_out_word s) n j;
      extra_mark_at = next_row s m extra_mark k (omega arith) kl l;
      extra_word_at = next_row s m extra_word k (omega arith) kl l;
    }

-- those of a node
pub record NodeAfter (s m : List ℕ) (node : ℕ) : Type 0 where
  pub receive_mark_is : reg (next_state s m) receive_mark node ≡ next_receive_mark s node
  pub receive_kind_is : reg (next_state s m) receive_kind node ≡ next_receive_kind s node
  pub receive_address_is : reg (next_state s m) receive_address node ≡ next_receive_address s node
  pub landing_mark_is : reg (next_state s m) landing_mark node ≡ next_landing_mark s node
  pub landing_kind_is : reg (next_state s m) landing_kind node ≡ reg s receive_kind node
  pub landing_address_is : reg (next_state s m) landing_address node ≡ reg s receive_address node
  pub landing_word_is : reg (next_state s m) landing_word node ≡ memory_word s node

pub node_after : (s m : List ℕ) → nodes (sheet_in s) ≤ 16 → (node : ℕ) → node < nodes (sheet_in s) → NodeAfter s m node
unfolding next_in_row row_in next_rows ◌=?◌
node_after s m few node l = record {
  receive_mark_is = next_row s m receive_mark node (omega arith) (omega arith) l;
  receive_kind_is = next_row s m receive_kind node (omega arith) (omega arith) l;
  receive_address_is = next_row s m receive_address node (omega arith) (omega arith) l;
  landing_mark_is = next_row s m landing_mark node (omega arith) (omega arith) l;
  landing_kind_is = next_row s m landing_kind node (omega arith) (omega arith) l;
  landing_address_is = next_row s m landing_address node (omega arith) (omega arith) l;
  landing_word_is = next_row s m landing_word node (omega arith) (omega arith) l;
}

-- those of a circuit: its sender
pub sender_same : (x y : Sender) → x.left ≡ y.left → x.read_address ≡ y.read_address → x.write_address ≡ y.write_address
    → x.kind ≡ y.kind → x.to_go ≡ y.to_go → x ≡ y
sender_same x y a b c d e = λ i. record { left = a i; read_address = b i; write_address = c i; kind = d i; to_go = e i }

pub sender_after : (s m : List ℕ) → circuits (sheet_in s) ≤ 64 → (circuit : ℕ) → circuit < circuits (sheet_in s)
    → seen_sender (next_state s m) circuit ≡ next_sender s circuit
unfolding next_in_row row_in next_rows ◌=?◌
sender_after s m few circuit l =
    sender_same _ _
    (next_row s m left_row circuit (omega arith) (omega arith) l)
    (next_row s m read_row circuit (omega arith) (omega arith) l)
    (next_row s m write_row circuit (omega arith) (omega arith) l)
    (next_row s m kind_row circuit (omega arith) (omega arith) l)
    (next_row s m to_go_row circuit (omega arith) (omega arith) l)

-- those of the clock
pub record ClockAfter (s m : List ℕ) : Type 0 where
  pub cycle : reg (next_state s m) clock_row cycle_place ≡ pick (turns s) 0 (reg s clock_row cycle_place + 1)
  pub number : reg (next_state s m) clock_row number_place
      ≡ pick (turns s) (next_number (reg s clock_row number_place)) (reg s clock_row number_place)
  pub schedule : reg (next_state s m) clock_row in_force_place
      ≡ pick (is_due s) (reg s clock_row order_schedule_place) (reg s clock_row in_force_place)
  pub order_mark : reg (next_state s m) clock_row order_mark_place ≡ pick (is_due s) 0 (reg s clock_row order_mark_place)
  pub order_schedule : reg (next_state s m) clock_row order_schedule_place ≡ reg s clock_row order_schedule_place
  pub order_period : reg (next_state s m) clock_row order_period_place ≡ reg s clock_row order_period_place

pub clock_after : (s m : List ℕ) → ClockAfter s m
unfolding next_in_row row_in next_rows next_clock ◌=?◌
clock_after s m = record {
  cycle = next_row s m clock_row cycle_place (omega arith) (omega arith) (omega arith);
  number = next_row s m clock_row number_place (omega arith) (omega arith) (omega arith);
  schedule = next_row s m clock_row in_force_place (omega arith) (omega arith) (omega arith);
  order_mark = next_row s m clock_row order_mark_place (omega arith) (omega arith) (omega arith);
  order_schedule = next_row s m clock_row order_schedule_place (omega arith) (omega arith) (omega arith);
  order_period = next_row s m clock_row order_period_place (omega arith) (omega arith) (omega arith);
}

-- the clock's row after a cycle of words with the same clock and the same sheet
pub clock_same : (s t : List ℕ) → sheet_in t ≡ sheet_in s → ((k : ℕ) → k < row_words → reg t clock_row k ≡ reg s clock_row k)
    → (k : ℕ) → k < row_words → next_clock t k ≡ next_clock s k
unfolding next_clock is_due turns
clock_same s t sheet same k l =
    rw (
      sheet,
      same cycle_place (omega arith),
      same number_place (omega arith),
      same in_force_place (omega arith),
      same order_mark_place (omega arith),
      same order_schedule_place (omega arith),
      same order_period_place (omega arith),
      same k l,
    ) refl

-- a place without an extra register keeps its words
module _ (s m : List ℕ) (k : ℕ) (kl : k < row_words) (none : has_extra (sheet_in s) (k % 5) ≡ false) where
  mark_kept : reg (next_state s m) extra_mark k ≡ reg s extra_mark k
  unfolding next_in_row row_in next_rows ◌=?◌ next_extra_mark
  mark_kept = go (dec_lt k (five_a_node s))
    where
      go : Dec (k < five_a_node s) → reg (next_state s m) extra_mark k ≡ reg s extra_mark k
      go (yes l) = next_row s m extra_mark k (omega arith) kl l ∙ ap (λ (b : Bool). pick b (reg s out_mark k) (reg s extra_mark k)) none
      go (no l) = next_off s m extra_mark k (omega arith) kl (omega (arith, l))

  word_kept : reg (next_state s m) extra_word k ≡ reg s extra_word k
  unfolding next_in_row row_in next_rows ◌=?◌ next_extra_word
  word_kept = go (dec_lt k (five_a_node s))
    where
      go : Dec (k < five_a_node s) → reg (next_state s m) extra_word k ≡ reg s extra_word k
      go (yes l) = next_row s m extra_word k (omega arith) kl l ∙ ap (λ (b : Bool). pick b (reg s out_word k) (reg s extra_word k)) none
      go (no l) = next_off s m extra_word k (omega arith) kl (omega (arith, l))

pub extra_kept : (s m : List ℕ) (row k : ℕ) → extra_mark ≤ row → row ≤ extra_word → k < row_words → has_extra (sheet_in s) (k % 5) ≡ false
    → reg (next_state s m) row k ≡ reg s row k
extra_kept s m row k low high kl none = go (ℕ_discrete row extra_mark)
  where
    go : Dec (row ≡ extra_mark) → reg (next_state s m) row k ≡ reg s row k
    go (yes e) = subst (λ (r : ℕ). reg (next_state s m) r k ≡ reg s r k) (sym e) (mark_kept s m k kl none)
    go (no ne) =
        let e : extra_word ≡ row = omega (arith, ne) in
        subst (λ (r : ℕ). reg (next_state s m) r k ≡ reg s r k) e (word_kept s m k kl none)

-- Several quiet cycles, one after another: each leaves the state still, and together they are the words with the clock moved on at once.
-- Assumes nothing.
use Prim.Native.Nat.{ℕ, ◌+◌, ◌-◌, ◌*◌, ◌≤◌, ◌<◌}
use mathlib.Core.Bool.{true, false}
use mathlib.Core.List.{List, []}
use mathlib.Core.Path.{◌≡◌, refl, sym, ◌∙◌, ap, ap₂}
use native.Mathlib.Omega.{arith}
use native.Mathlib.Decide.{ℕ_discrete, dec_le, dec_lt}
use lib.ListN.{length, take, drop}
use Rattle.words.specs.Tests.{all, ◌and◌, ◌or◌, ◌=?◌}
use Rattle.words.specs.Words.{word}
use Rattle.words.proofs.TestLaws.{and_no, and_both, no=}
use Rattle.words.proofs.AllLaws.{all_same}
use Rattle.sheet.specs.Sheet.{circuits, nodes, period}
use Rattle.sheet.specs.Slots.{slot_length}
use Rattle.sheet.specs.Inner.Passed.{Headed}
use Rattle.sheet.proofs.PassedLaws.{nodes_few}
use Rattle.network.specs.Registers.{reg, put, sheet_in, moving_words, row_count, row_words, clock_row, clock_words, cycle_place, number_place, in_force_place}
use Rattle.network.specs.Registers.{order_mark_place, order_schedule_place, order_period_place, link_mark, link_word, head_mark, head_word, choice_row, out_mark}
use Rattle.network.specs.Registers.{out_word, receive_kind, receive_address, landing_mark, landing_word, left_row, to_go_row, extra_mark, extra_word}
use Rattle.network.specs.Inner.Machine.{turns, is_due, next_clock, next_in_row}
use Rattle.network.specs.Inner.Stages.{stage}
use Rattle.network.specs.Inner.Quiet.{empty_at, is_still, none_begins, is_quiet, unlanded, no_landings, quiet_next, clock_on}
use Rattle.network.proofs.RowCases.{Rows, in_rows, ◌besides◌, no_more}
use Rattle.network.proofs.PutLaws.{put_same, put_other, put_length, put_rest, put_sheet}
use Rattle.network.proofs.FillLaws.{same_words, stage_length, stage_rest, stage_here, stage_off}
use Rattle.network.proofs.QuietLaws.{quiet_length, quiet_rest, quiet_sheet, quiet_clock, quiet_off, quiet_landing}

-- all that a quiet cycle reads is the same: what lies behind the rows, and every register but the stored landings
pub record SameBefore (a b : List ℕ) : Type 0 where
  pub long : moving_words ≤ length a
  pub same_length : length b ≡ length a
  pub same_rest : drop moving_words b ≡ drop moving_words a
  pub same : (row k : ℕ) → row < row_count → k < row_words → (landing_mark ≤ row → row ≤ landing_word → k < nodes (sheet_in a) → ⊥)
      → reg b row k ≡ reg a row k

module _ (a b : List ℕ) (e : SameBefore a b) where
  before_sheet : sheet_in b ≡ sheet_in a
  unfolding sheet_in
  before_sheet = ap (λ rest. take (word rest 0) (drop 1 rest)) e.same_rest

  before_unlanded : (row k : ℕ) → k < row_words → unlanded b row k ≡ unlanded a row k
  unfolding unlanded
  before_unlanded row k kl =
      rw (e.same receive_kind k (omega arith) kl (λ x y z. omega arith), e.same receive_address k (omega arith) kl (λ x y z. omega arith)) refl

  abbrev count : ℕ
  count = nodes (sheet_in a)

  abbrev cleared : List ℕ → List ℕ
  cleared x = stage landing_mark landing_word count (unlanded x) x

  before_cleared : no_landings b ≡ no_landings a
  unfolding no_landings
  before_cleared =
      ap (λ (z : List ℕ). stage landing_mark landing_word (nodes z) (unlanded b) b) before_sheet
      ∙ same_words (cleared b) (cleared a) (omega (arith, length_of b (omega (arith, e.long, e.same_length)), e.long, e.same_length))
      (omega (arith, length_of a e.long, e.long))
      (stage_rest landing_mark landing_word count (unlanded b) b ∙ e.same_rest ∙ sym (stage_rest landing_mark landing_word count (unlanded a) a))
      (λ row k rl kl. go row k rl kl (dec_le landing_mark row) (dec_le row landing_word) (dec_lt k count))
    where
      length_of : (x : List ℕ) → moving_words ≤ length x → length (cleared x) ≡ length x
      length_of x l = stage_length landing_mark landing_word count (unlanded x) x l

      other : (row k : ℕ) → row < row_count → k < row_words → (landing_mark ≤ row → row ≤ landing_word → k < count → ⊥)
          → reg (cleared b) row k ≡ reg (cleared a) row k
      other row k rl kl out =
          stage_off landing_mark landing_word count (unlanded b) b row k rl kl out ∙ e.same row k rl kl out
          ∙ sym (stage_off landing_mark landing_word count (unlanded a) a row k rl kl out)

      go : (row k : ℕ) → row < row_count → k < row_words → Dec (landing_mark ≤ row) → Dec (row ≤ landing_word) → Dec (k < count)
          → reg (cleared b) row k ≡ reg (cleared a) row k
      go row k rl kl (yes x) (yes y) (yes z) =
          stage_here landing_mark landing_word count (unlanded b) b row k rl kl x y z ∙ before_unlanded row k kl
          ∙ sym (stage_here landing_mark landing_word count (unlanded a) a row k rl kl x y z)
      go row k rl kl (yes x) (yes y) (no z) = other row k rl kl (λ p q r. z r)
      go row k rl kl (yes x) (no y) z = other row k rl kl (λ p q r. y q)
      go row k rl kl (no x) y z = other row k rl kl (λ p q r. x p)

  -- so the words after it are the same
  pub next_same : quiet_next b ≡ quiet_next a
  unfolding quiet_next
  next_same = ap (λ (x : List ℕ). stage clock_row clock_row clock_words (next_in_row x []) x) before_cleared

-- a state s, and the words before the last of n cycles
module _ (s : List ℕ) (long : moving_words ≤ length s) where
  abbrev start : ℕ
  start = reg s clock_row cycle_place

  abbrev before : ℕ → List ℕ
  before n = put s clock_row cycle_place (start + (n - 1))

  before_long : (n : ℕ) → moving_words ≤ length (before n)
  before_long n = omega (arith, put_length s clock_row cycle_place (start + (n - 1)))

  before_cycle_is : (n : ℕ) → reg (before n) clock_row cycle_place ≡ start + (n - 1)
  before_cycle_is n = put_same s clock_row cycle_place (start + (n - 1)) (omega arith)

  before_other : (n row k : ℕ) → (row ≡ clock_row → k ≡ cycle_place → ⊥) → reg (before n) row k ≡ reg s row k
  before_other n row k ne = put_other s clock_row cycle_place (start + (n - 1)) row k (λ e. ne (omega arith) (omega arith))

  sheet_before : (n : ℕ) → sheet_in (before n) ≡ sheet_in s
  sheet_before n = put_sheet s clock_row cycle_place (start + (n - 1)) (omega arith)

  rest_before : (n : ℕ) → drop moving_words (before n) ≡ drop moving_words s
  rest_before n = put_rest s clock_row cycle_place (start + (n - 1)) (omega arith)

  -- the first cycle
  first_before : SameBefore s (before 1)
  first_before = record {
    long = long;
    same_length = put_length s clock_row cycle_place (start + (1 - 1));
    same_rest = rest_before 1;
    same = λ row k rl kl out. go row k (ℕ_discrete row clock_row) (ℕ_discrete k cycle_place);
  }
    where
      go : (row k : ℕ) → Dec (row ≡ clock_row) → Dec (k ≡ cycle_place) → reg (before 1) row k ≡ reg s row k
      go row k (yes r) (yes q) =
          let none : start + (1 - 1) ≡ start = omega arith in
          ap₂ (reg (before 1)) r q ∙ before_cycle_is 1 ∙ none ∙ sym (ap₂ (reg s) r q)
      go row k (yes r) (no q) = before_other 1 row k (λ x y. q y)
      go row k (no r) q = before_other 1 row k (λ x y. r x)

  pub first_cycle : clock_on 1 s ≡ quiet_next s
  unfolding clock_on
  first_cycle = next_same s (before 1) first_before

  -- all but the clock and the landings stay
  pub after_sheet : (n : ℕ) → sheet_in (clock_on n s) ≡ sheet_in s
  unfolding clock_on
  after_sheet n = quiet_sheet (before n) (before_long n) ∙ sheet_before n

  pub after_kept : (n row k : ℕ) → row < row_count → k < row_words → link_mark ≤ row → (landing_mark ≤ row → row ≤ landing_word → ⊥)
      → reg (clock_on n s) row k ≡ reg s row k
  unfolding clock_on
  after_kept n row k rl kl low out =
      quiet_off (before n) (before_long n) row k rl kl (λ e l. omega arith) (λ a b l. out a b) ∙ before_other n row k (λ e f. omega arith)

  -- nothing landed
  pub none_landed : (n node : ℕ) → node < nodes (sheet_in s) → node < row_words → reg (clock_on n s) landing_mark node ≡ 0
  unfolding clock_on unlanded ◌=?◌
  none_landed n node l kl =
      let here : node < nodes (sheet_in (before n)) = omega (arith, ap nodes (sheet_before n)) in
      quiet_landing (before n) (before_long n) landing_mark node (omega arith) kl (omega arith) (omega arith) here

  -- a cycle that does not end the period
  module _ (n : ℕ) (early : start + n < period (sheet_in s) (reg s clock_row in_force_place)) (some : 1 ≤ n) where
    no_turn : turns (before n) ≡ false
    unfolding turns
    no_turn =
        rw (before_cycle_is n, sheet_before n, before_other n clock_row in_force_place (λ e f. omega arith))
        (no= (λ e. omega (arith, early, some, e)))

    not_due : is_due (before n) ≡ false
    unfolding is_due
    not_due = sym (and_no _ no_turn)

    stays : (k : ℕ) → 1 ≤ k → reg (before n) clock_row k ≡ reg (before (n + 1)) clock_row k
    stays k l = before_other n clock_row k (λ e f. omega arith) ∙ sym (before_other (n + 1) clock_row k (λ e f. omega arith))

    by_place : Rows (λ k. reg (quiet_next (before n)) clock_row k ≡ reg (before (n + 1)) clock_row k) 0 5
    unfolding next_clock ◌=?◌
    by_place =
        (quiet_clock (before n) (before_long n) cycle_place (omega arith)
        ∙ rw (no_turn, before_cycle_is n) (let e : start + (n - 1) + 1 ≡ start + (n + 1 - 1) = omega (arith, some) in e)
        ∙ sym (before_cycle_is (n + 1)))
        besides (quiet_clock (before n) (before_long n) number_place (omega arith) ∙ rw no_turn (stays number_place (omega arith)))
        besides (quiet_clock (before n) (before_long n) in_force_place (omega arith) ∙ rw not_due (stays in_force_place (omega arith)))
        besides (quiet_clock (before n) (before_long n) order_mark_place (omega arith) ∙ rw not_due (stays order_mark_place (omega arith)))
        besides (quiet_clock (before n) (before_long n) order_schedule_place (omega arith) ∙ stays order_schedule_place (omega arith))
        besides (quiet_clock (before n) (before_long n) order_period_place (omega arith) ∙ stays order_period_place (omega arith))
        besides no_more

    after_clock : (k : ℕ) → k < clock_words → reg (quiet_next (before n)) clock_row k ≡ reg (before (n + 1)) clock_row k
    after_clock k l = in_rows _ 0 5 by_place k (omega arith) (omega arith)

    more_before : SameBefore (before (n + 1)) (quiet_next (before n))
    more_before = record {
      long = before_long (n + 1);
      same_length =
          quiet_length (before n) (before_long n) ∙ put_length s clock_row cycle_place (start + (n - 1))
          ∙ sym (put_length s clock_row cycle_place (start + (n + 1 - 1)));
      same_rest = quiet_rest (before n) (before_long n) ∙ rest_before n ∙ sym (rest_before (n + 1));
      same = λ row k rl kl out. go row k rl kl out (ℕ_discrete row clock_row) (dec_lt k clock_words);
    }
      where
        other : (row k : ℕ) → row < row_count → k < row_words
            → (landing_mark ≤ row → row ≤ landing_word → k < nodes (sheet_in (before (n + 1))) → ⊥) → (row ≡ clock_row → k < clock_words → ⊥)
            → reg (quiet_next (before n)) row k ≡ reg (before (n + 1)) row k
        other row k rl kl out ne =
            quiet_off (before n) (before_long n) row k rl kl ne
            (λ a b l. out a b (omega (arith, l, ap nodes (sheet_before n), ap nodes (sheet_before (n + 1)))))
            ∙ before_other n row k (λ e f. ne e (omega arith)) ∙ sym (before_other (n + 1) row k (λ e f. ne e (omega arith)))

        go : (row k : ℕ) → row < row_count → k < row_words
            → (landing_mark ≤ row → row ≤ landing_word → k < nodes (sheet_in (before (n + 1))) → ⊥) → Dec (row ≡ clock_row) → Dec (k < clock_words)
            → reg (quiet_next (before n)) row k ≡ reg (before (n + 1)) row k
        go row k rl kl out (yes r) (yes l) =
            ap (λ (x : ℕ). reg (quiet_next (before n)) x k) r ∙ after_clock k l ∙ sym (ap (λ (x : ℕ). reg (before (n + 1)) x k) r)
        go row k rl kl out (yes r) (no l) = other row k rl kl out (λ e f. l f)
        go row k rl kl out (no r) l = other row k rl kl out (λ e f. r e)

    -- one cycle more
    pub more_cycles : quiet_next (clock_on n s) ≡ clock_on (n + 1) s
    unfolding clock_on
    more_cycles = next_same (before (n + 1)) (quiet_next (before n)) more_before

    -- the cycle behind it is quiet
    module _ (H : Headed (sheet_in s)) where
      few : nodes (sheet_in s) ≤ 16
      few = nodes_few (sheet_in s) H

      still_after : is_still (clock_on n s) ≡ is_still s
      unfolding is_still empty_at
      still_after =
          ap (λ (z : List ℕ). all (nodes z * 5) (empty_at (clock_on n s)) and all (circuits z) (λ c. reg (clock_on n s) to_go_row c =? 0)) (after_sheet n)
          ∙ ap₂ ◌and◌
          (all_same (nodes (sheet_in s) * 5) _ _ (λ k l.
          let kl : k < row_words = omega (arith, l, few) in
          rw (
            after_kept n link_mark k (omega arith) kl (omega arith) (λ a b. omega arith),
            after_kept n link_word k (omega arith) kl (omega arith) (λ a b. omega arith),
            after_kept n head_mark k (omega arith) kl (omega arith) (λ a b. omega arith),
            after_kept n head_word k (omega arith) kl (omega arith) (λ a b. omega arith),
            after_kept n choice_row k (omega arith) kl (omega arith) (λ a b. omega arith),
            after_kept n out_mark k (omega arith) kl (omega arith) (λ a b. omega arith),
            after_kept n out_word k (omega arith) kl (omega arith) (λ a b. omega arith),
            after_kept n extra_mark k (omega arith) kl (omega arith) (λ a b. omega arith),
            after_kept n extra_word k (omega arith) kl (omega arith) (λ a b. omega arith),
          ) refl))
          (all_same (circuits (sheet_in s)) _ _ (λ c l.
          ap (λ (w : ℕ). w =? 0) (after_kept n to_go_row c (omega arith) (omega (arith, l, H.circuits_high)) (omega arith) (λ a b. omega arith))))

      after_in_force : reg (clock_on n s) clock_row in_force_place ≡ reg s clock_row in_force_place
      unfolding clock_on
      after_in_force = after_clock in_force_place (omega arith) ∙ before_other (n + 1) clock_row in_force_place (λ e f. omega arith)

      after_cycle : reg (clock_on n s) clock_row cycle_place ≡ start + n
      unfolding clock_on
      after_cycle =
          after_clock cycle_place (omega arith) ∙ before_cycle_is (n + 1) ∙ (let e : start + (n + 1 - 1) ≡ start + n = omega arith in e)

      begins_after : (cycle : ℕ) → none_begins (clock_on n s) cycle ≡ none_begins s cycle
      unfolding none_begins
      begins_after cycle =
          ap₂
          (λ (z : List ℕ) (j : ℕ). all (circuits z) (λ c. slot_length z j cycle c =? 0 or reg (clock_on n s) left_row c =? 0))
          (after_sheet n) after_in_force
          ∙ all_same (circuits (sheet_in s)) _ _ (λ c l.
          ap (λ (w : ℕ). slot_length (sheet_in s) (reg s clock_row in_force_place) cycle c =? 0 or w =? 0)
          (after_kept n left_row c (omega arith) (omega (arith, l, H.circuits_high)) (omega arith) (λ a b. omega arith)))

      pub quiet_after : is_still s ≡ true → none_begins s (start + n) ≡ true → is_quiet (clock_on n s) ≡ true
      unfolding is_quiet
      quiet_after still none =
          and_both (still_after ∙ still) (ap (none_begins (clock_on n s)) after_cycle ∙ begins_after (start + n) ∙ none)

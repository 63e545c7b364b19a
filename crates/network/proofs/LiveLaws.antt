-- Masks of where something may be: what stays beside them in a cycle, and the masks after it. Words are a stage further, so the masks are, too.
-- Assumes nothing.
use Prim.Native.Nat.{ℕ, ◌+◌, ◌*◌, ◌/◌, ◌%◌, ◌≤◌, ◌<◌}
use mathlib.Core.Bool.{Bool, true, false}
use mathlib.Core.List.{List, []}
use mathlib.Core.Path.{◌≡◌, refl, sym, ◌∙◌, ap, subst}
use native.Mathlib.Omega.{arith}
use lib.ListN.{length}
use lib.Bits.{bit_or}
use lib.Dec.{eqb, eqb→eq}
use Rattle.words.specs.Tests.{◌=?◌, ◌≤?◌}
use Rattle.words.specs.Words.{pick}
use Rattle.words.proofs.Below.{every_at}
use Rattle.words.proofs.TestLaws.{and_left}
use Rattle.sheet.specs.Sheet.{circuits, nodes, is_long}
use Rattle.occupancy.specs.Inner.Occupancy.{bit_at}
use Rattle.occupancy.proofs.MaskLaws.{union_free}
use Rattle.network.specs.declared.Live.{Live}
use Rattle.network.specs.Cycle.{has_extra}
use Rattle.network.specs.Registers.{reg, sheet_in, moving_words, row_words, at, link_mark, link_word, head_mark, head_word, choice_row, latch_row, out_mark, out_word, to_go_row, extra_mark, extra_word}
use Rattle.network.specs.Inner.Machine.{next_head_word, next_choice, next_latch, asked_mark, next_out_mark, next_out_word, next_extra_mark, next_extra_word, memory_mark, memory_word, next_landing_mark, row_in, next_rows, next_in_row, next_state}
use Rattle.network.specs.Inner.Quiet.{clock_on}
use Rattle.network.specs.Inner.Live.{EmptyBeside, ExtraEmptyBeside, Stays, Covered}
use Rattle.network.proofs.RowCases.{in_rows, ◌besides◌, no_more}
use Rattle.network.proofs.RowLaws.{next_row, sheet_kept, node_after}
use Rattle.network.proofs.FirstLaws.{first_empty, word_empty}
use Rattle.network.proofs.RestLaws.{after_sheet, after_kept, none_landed}

either_none : (b : Bool) (x y : ℕ) → x ≡ 0 → y ≡ 0 → pick b x y ≡ 0
either_none true x y e f = e
either_none false x y e f = f

-- an extra register takes what is on its output
extra_mark_is : (s : List ℕ) (k : ℕ) → has_extra (sheet_in s) (k % 5) ≡ true → next_extra_mark s k ≡ reg s out_mark k
unfolding next_extra_mark
extra_mark_is s k h = ap (λ (t : Bool). pick t (reg s out_mark k) (reg s extra_mark k)) h

extra_word_is : (s : List ℕ) (k : ℕ) → has_extra (sheet_in s) (k % 5) ≡ true → next_extra_word s k ≡ reg s out_word k
unfolding next_extra_word
extra_word_is s k h = ap (λ (t : Bool). pick t (reg s out_word k) (reg s extra_word k)) h

module _ (s : List ℕ) (few : nodes (sheet_in s) ≤ 16) (live : Live) (C : Covered s live) where
  -- the header stage of an empty link register
  module _ (k : ℕ) (l : k < nodes (sheet_in s) * 5) (none : bit_at live.links (k / 5) ≡ 0) where
    head_word_none : next_head_word (reg s link_mark k) (reg s link_word k) ≡ 0
    unfolding next_head_word ◌=?◌
    head_word_none = rw (C.link_mark_is k l none, C.link_word_is k l none) refl

    choice_none : next_choice (k % 5) (reg s latch_row k) (reg s link_mark k) (reg s link_word k) ≡ 0
    unfolding next_choice ◌=?◌
    choice_none = rw (C.link_mark_is k l none) refl

    latch_stays : next_latch (k % 5) (reg s latch_row k) (reg s link_mark k) (reg s link_word k) ≡ reg s latch_row k
    unfolding next_latch ◌=?◌ ◌≤?◌
    latch_stays = rw (C.link_mark_is k l none) refl

  -- it stays where nothing is in it either
  pub heads_stay : (k : ℕ) → k < nodes (sheet_in s) * 5 → bit_at (bit_or live.links live.heads) (k / 5) ≡ 0
      → Stays head_mark latch_row (next_in_row s []) s k
  unfolding next_in_row row_in next_rows ◌=?◌
  heads_stay k l none =
      let both = union_free live.links live.heads (k / 5) none in
      in_rows (λ row. next_in_row s [] row k ≡ reg s row k) head_mark latch_row
      ((C.link_mark_is k l both.0 ∙ sym (C.head_mark_is k l both.1))
      besides (head_word_none k l both.0 ∙ sym (C.head_word_is k l both.1))
      besides (choice_none k l both.0 ∙ sym (C.choice k l both.1))
      besides latch_stays k l both.0
      besides no_more)

  -- nothing goes on the outputs of a node without a word in its header stages
  module _ (node : ℕ) (nl : node < nodes (sheet_in s)) (none : bit_at live.heads node ≡ 0) (output : ℕ) where
    asked_none : (input : ℕ) → input < 5 → asked_mark s node output input ≡ 0
    unfolding asked_mark
    asked_none input il =
        let here : at node input / 5 ≡ node = omega arith in
        either_none (reg s choice_row (at node input) =? output + 1) _ _
        (C.head_mark_is (at node input) (omega arith) (ap (bit_at live.heads) here ∙ none)) refl

    pub out_mark_none : next_out_mark s node output ≡ 0
    unfolding next_out_mark
    out_mark_none = first_empty (asked_mark s node output) 5 asked_none

    pub out_word_none : next_out_word s node output ≡ 0
    unfolding next_out_word next_out_mark
    out_word_none = word_empty (asked_mark s node output) (λ input. reg s head_word (at node input)) 5 out_mark_none

  -- nothing lands at a node without a word on its outputs
  module _ (node : ℕ) (nl : node < nodes (sheet_in s)) (none : bit_at live.outs node ≡ 0) where
    pub memory_mark_none : memory_mark s node ≡ 0
    memory_mark_none =
        let here : at node 4 / 5 ≡ node = omega arith in
        C.out_mark_is (at node 4) (omega arith) (ap (bit_at live.outs) here ∙ none)

    pub memory_word_none : memory_word s node ≡ 0
    memory_word_none =
        let here : at node 4 / 5 ≡ node = omega arith in
        C.out_word_is (at node 4) (omega arith) (ap (bit_at live.outs) here ∙ none)

    landing_none : next_landing_mark s node ≡ 0
    unfolding next_landing_mark ◌≤?◌
    landing_none = rw memory_mark_none refl

  -- the masks after a cycle: of the link registers and of the senders the stages tell them
  module _ (m : List ℕ) (links extras sending : ℕ) (by_extras : extras ≡ pick (is_long (sheet_in s)) live.outs 0)
      (link-marks : EmptyBeside (next_state s m) links link_mark) (link-words : EmptyBeside (next_state s m) links link_word)
      (goes : (c : ℕ) → c < circuits (sheet_in s) → bit_at sending c ≡ 0 → reg (next_state s m) to_go_row c ≡ 0) where
    inside : (k : ℕ) → k < nodes (sheet_in (next_state s m)) * 5 → k < nodes (sheet_in s) * 5
    inside k l = subst (λ (z : List ℕ). k < nodes z * 5) (sheet_kept s m) l

    small : (k : ℕ) → k < nodes (sheet_in s) * 5 → k < row_words
    small k l = omega arith

    extra_mask : (k : ℕ) → has_extra (sheet_in (next_state s m)) (k % 5) ≡ true → bit_at extras (k / 5) ≡ 0 → bit_at live.outs (k / 5) ≡ 0
    unfolding has_extra
    extra_mask k h e =
        sym (ap (λ (t : Bool). bit_at (pick t live.outs 0) (k / 5)) (and_left _ _ (subst (λ (z : List ℕ). has_extra z (k % 5) ≡ true) (sheet_kept s m) h)))
        ∙ ap (λ (x : ℕ). bit_at x (k / 5)) (sym by_extras) ∙ e

    pub covered_next : Covered (next_state s m) (record { links = links; heads = live.links; outs = live.heads; extras = extras; landed = live.outs; sending = sending })
    unfolding next_in_row row_in next_rows ◌=?◌
    covered_next = record {
      link_mark_is = link-marks;
      link_word_is = link-words;
      head_mark_is = λ k l none.
          next_row s m head_mark k (omega arith) (small k (inside k l)) (inside k l) ∙ C.link_mark_is k (inside k l) none;
      head_word_is = λ k l none.
          next_row s m head_word k (omega arith) (small k (inside k l)) (inside k l) ∙ head_word_none k (inside k l) none;
      choice = λ k l none.
          next_row s m choice_row k (omega arith) (small k (inside k l)) (inside k l) ∙ choice_none k (inside k l) none;
      out_mark_is = λ k l none.
          next_row s m out_mark k (omega arith) (small k (inside k l)) (inside k l)
          ∙ out_mark_none (k / 5) (let n : k / 5 < nodes (sheet_in s) = omega (arith, inside k l) in n) none (k % 5);
      out_word_is = λ k l none.
          next_row s m out_word k (omega arith) (small k (inside k l)) (inside k l)
          ∙ out_word_none (k / 5) (let n : k / 5 < nodes (sheet_in s) = omega (arith, inside k l) in n) none (k % 5);
      extra_mark_at = λ k l h none. next_row s m extra_mark k (omega arith) (small k (inside k l)) (inside k l) ∙ extra_mark_none k (inside k l) h none;
      extra_word_at = λ k l h none. next_row s m extra_word k (omega arith) (small k (inside k l)) (inside k l) ∙ extra_word_none k (inside k l) h none;
      landing = λ node l none.
          let here : node < nodes (sheet_in s) = subst (λ (z : List ℕ). node < nodes z) (sheet_kept s m) l in
          (node_after s m few node here).landing_mark_is ∙ landing_none node here none;
      to_go_at = λ c l none. goes c (subst (λ (z : List ℕ). c < circuits z) (sheet_kept s m) l) none;
    }
      where
        extra_mark_none : (k : ℕ) → k < nodes (sheet_in s) * 5 → has_extra (sheet_in (next_state s m)) (k % 5) ≡ true → bit_at extras (k / 5) ≡ 0
            → next_extra_mark s k ≡ 0
        extra_mark_none k l h none =
            extra_mark_is s k (subst (λ (z : List ℕ). has_extra z (k % 5) ≡ true) (sheet_kept s m) h) ∙ C.out_mark_is k l (extra_mask k h none)

        extra_word_none : (k : ℕ) → k < nodes (sheet_in s) * 5 → has_extra (sheet_in (next_state s m)) (k % 5) ≡ true → bit_at extras (k / 5) ≡ 0
            → next_extra_word s k ≡ 0
        extra_word_none k l h none =
            extra_word_is s k (subst (λ (z : List ℕ). has_extra z (k % 5) ≡ true) (sheet_kept s m) h) ∙ C.out_word_is k l (extra_mask k h none)

-- quiet cycles leave the masks as they are
module _ (s : List ℕ) (long : moving_words ≤ length s) (few : nodes (sheet_in s) ≤ 16) (few_circuits : circuits (sheet_in s) ≤ 64) (n : ℕ) where
  router_kept : (row k : ℕ) → link_mark ≤ row → row ≤ out_word → k < nodes (sheet_in s) * 5 → reg (clock_on n s) row k ≡ reg s row k
  router_kept row k a b l = after_kept s long n row k (omega arith) (omega arith) a (λ x y. omega arith)

  extra_kept : (row k : ℕ) → extra_mark ≤ row → row ≤ extra_word → k < nodes (sheet_in s) * 5 → reg (clock_on n s) row k ≡ reg s row k
  extra_kept row k a b l = after_kept s long n row k (omega arith) (omega arith) (omega arith) (λ x y. omega arith)

  kept_place : (k : ℕ) → k < nodes (sheet_in (clock_on n s)) * 5 → k < nodes (sheet_in s) * 5
  kept_place k l = subst (λ (z : List ℕ). k < nodes z * 5) (after_sheet s long n) l

  router_beside : (mask row : ℕ) → link_mark ≤ row → row ≤ out_word → EmptyBeside s mask row → EmptyBeside (clock_on n s) mask row
  router_beside mask row a b h k l none = router_kept row k a b (kept_place k l) ∙ h k (kept_place k l) none

  extra_beside : (mask row : ℕ) → extra_mark ≤ row → row ≤ extra_word → ExtraEmptyBeside s mask row → ExtraEmptyBeside (clock_on n s) mask row
  extra_beside mask row a b h k l x none =
      extra_kept row k a b (kept_place k l) ∙ h k (kept_place k l) (subst (λ (z : List ℕ). has_extra z (k % 5) ≡ true) (after_sheet s long n) x) none

  pub covered_rest : (live : Live) → Covered s live → Covered (clock_on n s) live
  covered_rest live C = record {
    link_mark_is = router_beside live.links link_mark (omega arith) (omega arith) C.link_mark_is;
    link_word_is = router_beside live.links link_word (omega arith) (omega arith) C.link_word_is;
    head_mark_is = router_beside live.heads head_mark (omega arith) (omega arith) C.head_mark_is;
    head_word_is = router_beside live.heads head_word (omega arith) (omega arith) C.head_word_is;
    choice = router_beside live.heads choice_row (omega arith) (omega arith) C.choice;
    out_mark_is = router_beside live.outs out_mark (omega arith) (omega arith) C.out_mark_is;
    out_word_is = router_beside live.outs out_word (omega arith) (omega arith) C.out_word_is;
    extra_mark_at = extra_beside live.extras extra_mark (omega arith) (omega arith) C.extra_mark_at;
    extra_word_at = extra_beside live.extras extra_word (omega arith) (omega arith) C.extra_word_at;
    landing = λ node l none.
        let inside : node < nodes (sheet_in s) = subst (λ (z : List ℕ). node < nodes z) (after_sheet s long n) l in
        none_landed s long n node inside (omega arith);
    to_go_at = λ c l none.
        let inside : c < circuits (sheet_in s) = subst (λ (z : List ℕ). c < circuits z) (after_sheet s long n) l in
        after_kept s long n to_go_row c (omega arith) (omega arith) (omega arith) (λ x y. omega arith) ∙ C.to_go_at c inside none;
  }

-- a mask of sixteen ones has every node, and one of sixty-four ones has every circuit
pub all_nodes : (node : ℕ) → node < 16 → bit_at 65535 node ≡ 0 → ⊥
unfolding bit_at
all_nodes node l e =
    let one = eqb→eq _ _ (every_at 16 (λ k. eqb (bit_at 65535 k) 1) tt node l) in
    omega (arith, one, e)

pub all_circuits : (c : ℕ) → c < 64 → bit_at 18446744073709551615 c ≡ 0 → ⊥
unfolding bit_at
all_circuits c l e =
    let one = eqb→eq _ _ (every_at 64 (λ k. eqb (bit_at 18446744073709551615 k) 1) tt c l) in
    omega (arith, one, e)

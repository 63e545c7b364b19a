-- The crossbar of all nodes of a mask, input by input: what the two tables hold, whether two words have met, and whether a payload word had
-- no choice, after so many inputs; a node without a word in its header stages changes nothing.
-- Assumes nothing.
use Prim.Native.Nat.{ℕ, zero, suc, ◌+◌, ◌-◌, ◌*◌, ◌/◌, ◌%◌, ◌<◌, ◌≤◌}
use mathlib.Core.Bool.{Bool, true, false, false≢true}
use mathlib.Core.List.{List}
use mathlib.Core.Path.{◌≡◌, refl, sym, subst, ◌∙◌, ap, ap₂}
use native.Mathlib.Omega.{arith}
use native.Mathlib.Numerals.{add-one}
use native.Mathlib.Decide.{ℕ_discrete}
use lib.ListN.{length}
use Rattle.words.specs.Tests.{any, ◌and◌, ◌or◌, ◌≤?◌, ◌<?◌, ◌=?◌}
use Rattle.words.specs.Words.{word, pick, tab, count_of}
use Rattle.words.proofs.AllLaws.{any_start, any_none, any_same, any_more, any_or, any_by_row}
use Rattle.words.proofs.TableLaws.{tab_same}
use Rattle.words.proofs.TestLaws.{and_no_right, or_on, or_false, or_pairs, is=, no=, yes=, yes≤, no≤, no<}
use Rattle.words.proofs.WordLaws.{count_of_more, length_tab, tab_at, tab_is}
use Rattle.sheet.specs.Sheet.{nodes}
use Rattle.occupancy.specs.Inner.Occupancy.{NextTaken}
use Rattle.occupancy.specs.Inner.Places.{Passed}
use Rattle.occupancy.specs.declared.TakenPlaces.{TakenPlaces}
use Rattle.occupancy.proofs.WalkLaws.{On, Begun, Gave, Ended, still_on, next_place, none_left}
use Rattle.network.specs.Registers.{reg, sheet_in, head_mark, head_word, choice_row, at, row_words, moving_words}
use Rattle.network.specs.Inner.Machine.{first_mark, first_word, asked_mark, next_out_mark, next_out_word, collides_in, unchosen_in}
use Rattle.network.specs.Inner.Live.{EmptyBeside}
use Rattle.network.proofs.FirstLaws.{word_empty}
use Rattle.routers.specs.Inner.Crossing.{asking, unchosen_at, Crossed, CrossedInputs}
use Rattle.routers.proofs.OrderLaws.{passed, passed_some, passed_own, passed_other, passed_start, passed_end, passed_over}
use Rattle.routers.proofs.InputLaws.{crossed_empty}
use Rattle.network.proofs.ChoiceLaws.{same_pick}
use Rattle.routers.proofs.PlaceLaws.{zero_pick, some_sum, two_more, and_yes, no_nodes}

-- what the inputs of the node at a place ask of it, and the words that they have
abbrev asked : List ℕ → ℕ → ℕ → ℕ
asked s p = asked_mark s (p / 5) (p % 5)

abbrev words : List ℕ → ℕ → ℕ → ℕ
words s p input = reg s head_word (at (p / 5) input)

-- some mark is there exactly where some test passes
count_first : (marks : ℕ → ℕ) (n : ℕ) → (1 ≤? count_of n (λ i. 1 ≤? marks i)) ≡ (1 ≤? first_mark n marks)
unfolding count_of first_mark
count_first marks zero = refl
count_first marks (suc n) = go (1 ≤? marks n) refl (first_mark n marks =? 0) refl (count_first marks n)
  where
    count : ℕ
    count = count_of n (λ i. 1 ≤? marks i)

    go : (b : Bool) → (1 ≤? marks n) ≡ b → (t : Bool) → (first_mark n marks =? 0) ≡ t → (1 ≤? count) ≡ (1 ≤? first_mark n marks)
        → (1 ≤? pick b (suc count) count) ≡ (1 ≤? pick t (marks n) (first_mark n marks))
    go true e true q r =
        let some : 1 ≤ suc count = omega arith in
        yes≤ some ∙ sym e
    go true e false q r =
        let some : 1 ≤ suc count = omega arith in
        let full : first_mark n marks ≡ 0 → ⊥ = λ z. false≢true (sym q ∙ yes= z) in
        let there : 1 ≤ first_mark n marks = omega (arith, full) in
        yes≤ some ∙ sym (yes≤ there)
    go false e true q r =
        let none : first_mark n marks < 1 = omega (arith, is= (first_mark n marks) 0 q) in
        r ∙ no≤ none ∙ sym e
    go false e false q r = r

-- one mark more
mark_more : (marks : ℕ → ℕ) (n : ℕ) → first_mark (n + 1) marks ≡ pick (first_mark n marks =? 0) (marks n) (first_mark n marks)
unfolding first_mark
mark_more marks n = rw add-one

word_more : (marks words : ℕ → ℕ) (n : ℕ) → first_word (n + 1) marks words
    ≡ pick (first_mark n marks =? 0) (pick (marks n =? 0) (first_word n marks words) (words n)) (first_word n marks words)
unfolding first_word
word_more marks words n = rw add-one (go (first_mark n marks =? 0) refl)
  where
    go : (t : Bool) → (first_mark n marks =? 0) ≡ t → pick t (pick (marks n =? 0) 0 (words n)) (first_word n marks words)
        ≡ pick t (pick (marks n =? 0) (first_word n marks words) (words n)) (first_word n marks words)
    go true e =
        ap (λ w. pick (marks n =? 0) w (words n)) (sym (word_empty marks words n (is= (first_mark n marks) 0 e)))
    go false e = refl

module _ (s : List ℕ) (p k : ℕ) where
  -- the next input is of the place's own node
  own_asked : p / 5 ≡ k / 5 → asked s p (passed p k) ≡ asking s k p
  unfolding asking asked_mark
  own_asked h =
      let place : p / 5 * 5 + k % 5 ≡ k = omega arith in
      ap (λ i. pick (reg s choice_row (at (p / 5) i) =? p % 5 + 1) (reg s head_mark (at (p / 5) i)) 0) (passed_some p k h)
      ∙ ap (λ i. pick (reg s choice_row i =? p % 5 + 1) (reg s head_mark i) 0) place
      ∙ sym (ap (λ t. pick t (pick (reg s choice_row k =? p % 5 + 1) (reg s head_mark k) 0) 0) (yes= h))

  own_word : p / 5 ≡ k / 5 → words s p (passed p k) ≡ reg s head_word k
  own_word h =
      let place : p / 5 * 5 + k % 5 ≡ k = omega arith in
      ap (λ i. reg s head_word (at (p / 5) i)) (passed_some p k h) ∙ ap (reg s head_word) place

  -- it is not
  other_asked : (p / 5 ≡ k / 5 → ⊥) → asking s k p ≡ 0
  unfolding asking
  other_asked ne = ap (λ t. pick t (pick (reg s choice_row k =? p % 5 + 1) (reg s head_mark k) 0) 0) (no= ne)

  -- the mark, the word and the count with one input more
  first_step : first_mark (passed p (k + 1)) (asked s p)
      ≡ pick (first_mark (passed p k) (asked s p) =? 0) (asking s k p) (first_mark (passed p k) (asked s p))
  first_step = go (ℕ_discrete (p / 5) (k / 5))
    where
      mark : ℕ
      mark = first_mark (passed p k) (asked s p)

      go : Dec (p / 5 ≡ k / 5) → first_mark (passed p (k + 1)) (asked s p) ≡ pick (mark =? 0) (asking s k p) mark
      go (yes h) =
          ap (λ n. first_mark n (asked s p)) (passed_own p k h) ∙ mark_more (asked s p) (passed p k)
          ∙ ap (λ a. pick (mark =? 0) a mark) (own_asked h)
      go (no ne) =
          ap (λ n. first_mark n (asked s p)) (passed_other p k ne)
          ∙ sym (ap (λ a. pick (mark =? 0) a mark) (other_asked ne) ∙ zero_pick mark)

  word_step : first_word (passed p (k + 1)) (asked s p) (words s p)
      ≡ pick (first_mark (passed p k) (asked s p) =? 0)
      (pick (asking s k p =? 0) (first_word (passed p k) (asked s p) (words s p)) (reg s head_word k))
      (first_word (passed p k) (asked s p) (words s p))
  word_step = go (ℕ_discrete (p / 5) (k / 5))
    where
      free : Bool
      free = first_mark (passed p k) (asked s p) =? 0

      old : ℕ
      old = first_word (passed p k) (asked s p) (words s p)

      go : Dec (p / 5 ≡ k / 5)
          → first_word (passed p (k + 1)) (asked s p) (words s p) ≡ pick free (pick (asking s k p =? 0) old (reg s head_word k)) old
      go (yes h) =
          ap (λ n. first_word n (asked s p) (words s p)) (passed_own p k h) ∙ word_more (asked s p) (words s p) (passed p k)
          ∙ ap₂ (λ (a w : ℕ). pick free (pick (a =? 0) old w) old) (own_asked h) (own_word h)
      go (no ne) =
          ap (λ n. first_word n (asked s p) (words s p)) (passed_other p k ne)
          ∙ sym (ap (λ t. pick free (pick t old (reg s head_word k)) old) (yes= (other_asked ne)) ∙ same_pick free old)

  count_step : count_of (passed p (k + 1)) (λ i. 1 ≤? asked s p i)
      ≡ pick (1 ≤? asking s k p) (count_of (passed p k) (λ i. 1 ≤? asked s p i) + 1) (count_of (passed p k) (λ i. 1 ≤? asked s p i))
  count_step = go (ℕ_discrete (p / 5) (k / 5))
    where
      test : ℕ → Bool
      test i = 1 ≤? asked s p i

      old : ℕ
      old = count_of (passed p k) test

      go : Dec (p / 5 ≡ k / 5) → count_of (passed p (k + 1)) test ≡ pick (1 ≤? asking s k p) (old + 1) old
      go (yes h) =
          ap (λ n. count_of n test) (passed_own p k h) ∙ count_of_more test (passed p k)
          ∙ ap (λ a. pick (1 ≤? a) (old + 1) old) (own_asked h)
      go (no ne) =
          let none : asking s k p < 1 = omega (arith, other_asked ne) in
          ap (λ n. count_of n test) (passed_other p k ne) ∙ sym (ap (λ t. pick t (old + 1) old) (no≤ none))

-- two words ask for the place, by the count c before and the mark that is there
meets_step : (c mark a : ℕ) → (1 ≤? c) ≡ (1 ≤? mark)
    → (2 ≤? c) or (1 ≤? mark and 1 ≤? a) ≡ (2 ≤? pick (1 ≤? a) (c + 1) c)
meets_step c mark a e = go (1 ≤? a)
  where
    go : (b : Bool) → (2 ≤? c) or (1 ≤? mark and b) ≡ (2 ≤? pick b (c + 1) c)
    go true = ap (λ t. (2 ≤? c) or t) (and_yes (1 ≤? mark) ∙ sym e) ∙ sym (two_more c)
    go false = ap (λ t. (2 ≤? c) or t) (and_no_right (1 ≤? mark) false refl) ∙ sym (or_false (2 ≤? c))

-- the first k inputs of n nodes are crossed
pub record Crossing (s : List ℕ) (n k : ℕ) (marks cells : List ℕ) (faults : ℕ) : Type 0 where
  pub inside : k ≤ n * 5
  pub few : faults ≤ k
  pub marks_length : length marks ≡ row_words
  pub cells_length : length cells ≡ row_words
  pub marks_at : (p : ℕ) → p < row_words → word marks p ≡ first_mark (passed p k) (asked_mark s (p / 5) (p % 5))
  pub cells_at : (p : ℕ) → p < row_words
      → word cells p ≡ first_word (passed p k) (asked_mark s (p / 5) (p % 5)) (λ input. reg s head_word (at (p / 5) input))
  pub met : (1 ≤? faults)
      ≡ any (n * 5) (λ p. 2 ≤? count_of (passed p k) (λ i. 1 ≤? asked_mark s (p / 5) (p % 5) i)) or any k (unchosen_at s)

-- no input yet
crossing_start : (s : List ℕ) (n : ℕ) (marks cells : List ℕ) → marks ≡ tab row_words (λ k. 0) → cells ≡ tab row_words (λ k. 0)
    → Crossing s n 0 marks cells 0
unfolding first_mark first_word count_of any
crossing_start s n marks cells m w = record {
  inside = omega arith;
  few = omega arith;
  marks_length = ap length m ∙ length_tab row_words _;
  cells_length = ap length w ∙ length_tab row_words _;
  marks_at = λ p l.
      ap (λ t. word t p) m ∙ tab_at row_words (λ k. 0) p l ∙ sym (ap (λ i. first_mark i (asked s p)) (passed_start p));
  cells_at = λ p l.
      ap (λ t. word t p) w ∙ tab_at row_words (λ k. 0) p l ∙ sym (ap (λ i. first_word i (asked s p) (words s p)) (passed_start p));
  met =
      no≤ none
      ∙ or_on (any_none (n * 5) _ (λ p l. ap (λ i. 2 ≤? count_of i (λ i. 1 ≤? asked s p i)) (passed_start p) ∙ no≤ less)) refl;
}
  where
    none : 0 < 1
    none = omega arith

    less : 0 < 2
    less = omega arith

-- one input more
crossing_more : (s : List ℕ) (n k : ℕ) (marks cells marks' cells' : List ℕ) (faults fault : ℕ) → n * 5 < 81 → k < n * 5
    → Crossing s n k marks cells faults → Crossed s k marks cells marks' cells' fault
    → Crossing s n (k + 1) marks' cells' (faults + fault)
crossing_more s n k marks cells marks' cells' faults fault small l g x = record {
  inside = omega arith;
  few = omega (arith, x.one, g.few);
  marks_length = x.marks_length;
  cells_length = x.cells_length;
  marks_at = λ p pl. x.marks_next p pl ∙ ap (λ m. pick (m =? 0) (asking s k p) m) (g.marks_at p pl) ∙ sym (first_step s p k);
  cells_at = λ p pl.
      x.cells_next p pl
      ∙ ap₂ (λ (m w : ℕ). pick (m =? 0) (pick (asking s k p =? 0) w (reg s head_word k)) w) (g.marks_at p pl) (g.cells_at p pl)
      ∙ sym (word_step s p k);
  met =
      some_sum faults fault ∙ ap₂ ◌or◌ g.met (x.found n l small) ∙ or_pairs _ (any k (unchosen_at s)) _ (unchosen_at s k)
      ∙ ap₂ ◌or◌ (any_or (n * 5) _ _ ∙ any_same (n * 5) _ _ (λ p pl. at_place p (omega arith))) (sym (any_more (unchosen_at s) k));
}
  where
    at_place : (p : ℕ) → p < row_words
        → (2 ≤? count_of (passed p k) (λ i. 1 ≤? asked s p i)) or (1 ≤? word marks p and 1 ≤? asking s k p)
        ≡ (2 ≤? count_of (passed p (k + 1)) (λ i. 1 ≤? asked s p i))
    at_place p pl =
        meets_step (count_of (passed p k) (λ i. 1 ≤? asked s p i)) (word marks p) (asking s k p)
        (count_first (asked s p) (passed p k) ∙ ap (λ m. 1 ≤? m) (sym (g.marks_at p pl)))
        ∙ ap (λ c. 2 ≤? c) (sym (count_step s p k))

-- so many inputs more, one after the other
crossing_inputs : (s : List ℕ) (n k : ℕ) (marks cells : List ℕ) (faults : ℕ) → n * 5 < 81 → Crossing s n k marks cells faults
    → (count : ℕ) (marks' cells' : List ℕ) (more : ℕ) → k + count ≤ n * 5 → CrossedInputs s k marks cells count marks' cells' more
    → Crossing s n (k + count) marks' cells' (faults + more)
unfolding CrossedInputs
crossing_inputs s n k marks cells faults small g zero marks' cells' more l x =
    let place : k ≡ k + 0 = omega arith in
    let sum : faults ≡ faults + more = omega (arith, x.2) in
    subst (λ (i : ℕ). Crossing s n i marks' cells' (faults + more)) place
    (subst (λ m. Crossing s n k m cells' (faults + more)) (sym x.0)
    (subst (λ w. Crossing s n k marks w (faults + more)) (sym x.1) (subst (Crossing s n k marks cells) sum g)))
crossing_inputs s n k marks cells faults small g (suc count) marks' cells' more l x =
    let before = crossing_inputs s n k marks cells faults small g count x.marks x.cells x.faults (omega arith) x.before in
    let place : k + count + 1 ≡ k + suc count = omega arith in
    let sum : faults + x.faults + x.fault ≡ faults + more = omega (arith, x.sum) in
    subst (λ (i : ℕ). Crossing s n i marks' cells' (faults + more)) place
    (subst (Crossing s n (k + count + 1) marks' cells') sum
    (crossing_more s n (k + count) x.marks x.cells marks' cells' (faults + x.faults) x.fault small (omega arith) before x.last))

-- inputs without a word are passed over
crossing_over : (s : List ℕ) (n k d : ℕ) (marks cells : List ℕ) (faults : ℕ) → n * 5 < 81 → k + d ≤ n * 5
    → ((i : ℕ) → k ≤ i → i < k + d → reg s head_mark i ≡ 0) → Crossing s n k marks cells faults → Crossing s n (k + d) marks cells faults
crossing_over s n k zero marks cells faults small l empty g =
    let place : k ≡ k + 0 = omega arith in
    subst (λ (i : ℕ). Crossing s n i marks cells faults) place g
crossing_over s n k (suc d) marks cells faults small l empty g =
    let before = crossing_over s n k d marks cells faults small (omega arith) (λ i a b. empty i a (omega arith)) g in
    let none = crossed_empty s marks cells g.marks_length g.cells_length (k + d) (empty (k + d) (omega arith) (omega arith)) in
    let place : k + d + 1 ≡ k + suc d = omega arith in
    let count : faults + 0 ≡ faults = omega arith in
    subst (λ (i : ℕ). Crossing s n i marks cells faults) place
    (subst (Crossing s n (k + d + 1) marks cells) count
    (crossing_more s n (k + d) marks cells marks cells faults 0 small (omega arith) before none))

-- so far in a walk through the nodes of a mask
pub record CrossingTo (s : List ℕ) (n heads : ℕ) (walk : TakenPlaces) (marks cells : List ℕ) (faults : ℕ) : Type 0 where
  pub on : On heads n walk
  pub so_far : Crossing s n (walk.from * 5) marks cells faults

module _ (s : List ℕ) (n heads : ℕ) (own : n ≡ nodes (sheet_in s)) (few : n ≤ 16) (empty : EmptyBeside s heads head_mark) where
  -- so are the nodes up to the next of the mask, or to the last
  crossing_on : (from next : ℕ) (marks cells : List ℕ) (faults : ℕ) → next ≤ n → NextTaken heads from next
      → Crossing s n (from * 5) marks cells faults → Crossing s n (next * 5) marks cells faults
  crossing_on from next marks cells faults l t g =
      let far : from * 5 ≤ next * 5 = omega (arith, t.onward) in
      let whole : from * 5 + (next * 5 - from * 5) ≡ next * 5 = omega arith in
      subst (λ (i : ℕ). Crossing s n i marks cells faults) whole
      (crossing_over s n (from * 5) (next * 5 - from * 5) marks cells faults (omega arith) (omega arith)
      (λ i a b. empty i (omega (arith, own)) (t.passed (i / 5) (omega arith) (omega arith))) g)

  pub crossing_first : (walk : TakenPlaces) (marks cells : List ℕ) → Begun heads n walk → marks ≡ tab row_words (λ k. 0) → cells ≡ tab row_words (λ k. 0)
      → CrossingTo s n heads walk marks cells 0
  crossing_first walk marks cells b m w = record {
    on = b.on;
    so_far = subst (λ (i : ℕ). Crossing s n (i * 5) marks cells 0) (sym b.at_start) (crossing_start s n marks cells m w);
  }

  module _ (walk : TakenPlaces) (marks cells : List ℕ) (faults : ℕ) (g : CrossingTo s n heads walk marks cells faults) (after : TakenPlaces) where
    -- one turn: the nodes before the next of the mask, and its five inputs
    module _ (node : ℕ) (t : Gave walk node after) where
      next : Passed heads walk.from n node after.from
      next = next_place heads n walk g.on after node t

      pub crossing_inside : node < 16
      crossing_inside = omega (arith, next.below)

      pub crossing_turn : (marks' cells' : List ℕ) (fault : ℕ) → CrossedInputs s (node * 5) marks cells 5 marks' cells' fault
          → CrossingTo s n heads after marks' cells' (faults + fault)
      crossing_turn marks' cells' fault x = record {
        on = still_on heads n walk g.on after node t;
        so_far =
            subst (λ (i : ℕ). Crossing s n (i * 5) marks' cells' (faults + fault)) (sym next.onward)
            (subst (λ (i : ℕ). Crossing s n i marks' cells' (faults + fault)) (let five : node * 5 + 5 ≡ (node + 1) * 5 = omega arith in five)
            (crossing_inputs s n (node * 5) marks cells faults (omega arith)
            (crossing_on walk.from node marks cells faults (omega (arith, next.below)) next.next g.so_far) 5 marks' cells' fault (omega (arith, next.below)) x));
      }

    -- behind the last node
    pub crossing_done : Ended walk after → Crossing s n (n * 5) marks cells faults
    crossing_done t = crossing_on walk.from n marks cells faults (omega arith) (none_left heads n walk g.on after t) g.so_far

-- all inputs
module _ (s : List ℕ) (n : ℕ) (marks cells : List ℕ) (faults : ℕ) (own : n ≡ nodes (sheet_in s)) (g : Crossing s n (n * 5) marks cells faults) where
  pub crossed_marks : marks ≡ tab row_words (λ p. pick (p <? nodes (sheet_in s) * 5) (next_out_mark s (p / 5) (p % 5)) 0)
  unfolding next_out_mark first_mark
  crossed_marks =
      tab_is marks row_words _ g.marks_length
      (λ p l.
      let fold : ℕ → ℕ = λ i. first_mark i (asked s p) in
      g.marks_at p l ∙ passed_over fold p n (nodes (sheet_in s)) own refl)

  pub crossed_cells : cells ≡ tab row_words (λ p. pick (p <? nodes (sheet_in s) * 5) (next_out_word s (p / 5) (p % 5)) 0)
  unfolding next_out_word first_word
  crossed_cells =
      tab_is cells row_words _ g.cells_length
      (λ p l.
      let fold : ℕ → ℕ = λ i. first_word i (asked s p) (words s p) in
      g.cells_at p l ∙ passed_over fold p n (nodes (sheet_in s)) own refl)

  pub crossed_met : (1 ≤? faults)
      ≡ any (nodes (sheet_in s)) (λ node. any 5 (collides_in s node)) or any (nodes (sheet_in s)) (λ node. any 5 (unchosen_in s node))
  unfolding collides_in unchosen_in unchosen_at
  crossed_met =
      g.met
      ∙ ap₂ ◌or◌ (any_by_row _ n 5 ∙ any_same n _ _ (λ node nl. any_same 5 _ _ (λ o ol. at_place node o nl ol)))
      (any_by_row (unchosen_at s) n 5)
      ∙ ap (λ m. any m (λ node. any 5 (collides_in s node)) or any m (λ node. any 5 (unchosen_in s node))) own
    where
      at_place : (node o : ℕ) → node < n → o < 5
          → (2 ≤? count_of (passed (at node o) (n * 5)) (λ i. 1 ≤? asked s (at node o) i)) ≡ collides_in s node o
      at_place node o nl ol =
          let inside : at node o < n * 5 = omega arith in
          let of_node : at node o / 5 ≡ node = omega arith in
          let output : at node o % 5 ≡ o = omega arith in
          ap (λ i. 2 ≤? count_of i (λ i. 1 ≤? asked s (at node o) i)) (passed_end (at node o) n inside)
          ∙ ap₂ (λ (a b : ℕ). 2 ≤? count_of 5 (λ i. 1 ≤? asked_mark s a b i)) of_node output

-- the tables are as long as they were
pub same_long : (n : ℕ) (entry : List ℕ) → n ≡ row_words → entry ≡ tab row_words (λ k. 0) → n ≡ length entry
same_long n entry a b = a ∙ sym (ap length b ∙ length_tab row_words _)

-- a state that is too short for its rows: no fault, and tables of zeros
module _ (s : List ℕ) (h : length s < moving_words) where
  short_zeros : (f : ℕ → ℕ) {table : List ℕ} → table ≡ tab row_words (λ k. 0)
      → table ≡ tab row_words (λ k. pick (k <? nodes (sheet_in s) * 5) (f k) 0)
  short_zeros f e =
      e ∙ tab_same row_words (λ k. 0) _ (λ k l.
      let past : nodes (sheet_in s) * 5 ≤ k = omega (arith, no_nodes s h) in
      sym (ap (λ (t : Bool). pick t (f k) 0) (no< past)))

  pub short_marks : {marks : List ℕ} → marks ≡ tab row_words (λ k. 0)
      → marks ≡ tab row_words (λ k. pick (k <? nodes (sheet_in s) * 5) (next_out_mark s (k / 5) (k % 5)) 0)
  short_marks = short_zeros (λ k. next_out_mark s (k / 5) (k % 5))

  pub short_cells : {cells : List ℕ} → cells ≡ tab row_words (λ k. 0)
      → cells ≡ tab row_words (λ k. pick (k <? nodes (sheet_in s) * 5) (next_out_word s (k / 5) (k % 5)) 0)
  short_cells = short_zeros (λ k. next_out_word s (k / 5) (k % 5))

  pub short_calm : false ≡ any (nodes (sheet_in s)) (λ node. any 5 (collides_in s node)) or any (nodes (sheet_in s)) (λ node. any 5 (unchosen_in s node))
  short_calm =
      or_on (any_start (λ node. any 5 (collides_in s node))) (sym (any_start (λ node. any 5 (unchosen_in s node))))
      ∙ ap (λ n. any n (λ node. any 5 (collides_in s node)) or any n (λ node. any 5 (unchosen_in s node))) (sym (no_nodes s h))

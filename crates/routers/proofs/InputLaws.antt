-- One input of the crossbar: what it asks of each output, and what becomes of the two tables, from the words that were read.
-- Assumes nothing.
use Prim.Native.Nat.{ℕ, zero, suc, ◌+◌, ◌-◌, ◌*◌, ◌/◌, ◌%◌, ◌<◌, ◌≤◌}
use mathlib.Core.Bool.{Bool, true, false}
use mathlib.Core.List.{List}
use mathlib.Core.Path.{◌≡◌, refl, sym, subst, ◌∙◌, ap}
use native.Mathlib.Omega.{arith}
use native.Mathlib.Numerals.{add-one}
use native.Mathlib.Decide.{ℕ_discrete, dec_le}
use mir.Val.{bool_byte}
use lib.Bits.{bit_or}
use lib.ListN.{length, set, length-set}
use lib.Seq.{get_or-set_same, get_or-set_other}
use Rattle.words.specs.Tests.{any, ◌and◌, ◌or◌, ◌≤?◌, ◌=?◌}
use Rattle.words.specs.Words.{word, pick}
use Rattle.words.proofs.AllLaws.{any_at, any_none}
use Rattle.words.proofs.TestLaws.{and_no, and_both, and_no_right, or_yes, or_on, is=, yes=, no=, yes≤, no≤}
use Rattle.network.specs.Registers.{reg, head_mark, head_word, choice_row, row_words}
use Rattle.routers.specs.Inner.Crossing.{asking, unchosen_at, Crossed, CrossedInputs}
use Rattle.network.proofs.ChoiceLaws.{same_pick}
use Rattle.routers.proofs.PlaceLaws.{zero_pick}
use Rattle.links.proofs.PairLaws.{or_left, or_right}

-- what becomes of an output's mark and word where nothing is asked of it
mark_stays : (mark a : ℕ) → a ≡ 0 → mark ≡ pick (mark =? 0) a mark
mark_stays mark a e = sym (ap (λ x. pick (mark =? 0) x mark) e ∙ zero_pick mark)

word_stays : (mark a w h : ℕ) → a ≡ 0 → w ≡ pick (mark =? 0) (pick (a =? 0) w h) w
word_stays mark a w h e = sym (ap (λ t. pick (mark =? 0) (pick t w h) w) (yes= e) ∙ same_pick (mark =? 0) w)

-- where a mark is there already, whatever is asked
mark_taken : (mark a : ℕ) → (mark ≡ 0 → ⊥) → mark ≡ pick (mark =? 0) a mark
mark_taken mark a ne = sym (ap (λ t. pick t a mark) (no= ne))

word_taken : (mark a w h : ℕ) → (mark ≡ 0 → ⊥) → w ≡ pick (mark =? 0) (pick (a =? 0) w h) w
word_taken mark a w h ne = sym (ap (λ t. pick t (pick (a =? 0) w h) w) (no= ne))

-- and where the output is free and something is asked
mark_first : (mark a : ℕ) → mark ≡ 0 → a ≡ pick (mark =? 0) a mark
mark_first mark a e = sym (ap (λ t. pick t a mark) (yes= e))

word_first : (mark a w h : ℕ) → mark ≡ 0 → (a ≡ 0 → ⊥) → h ≡ pick (mark =? 0) (pick (a =? 0) w h) w
word_first mark a w h e ne =
    sym (ap (λ t. pick t (pick (a =? 0) w h) w) (yes= e) ∙ ap (λ t. pick t w h) (no= ne))

module _ (s : List ℕ) (k : ℕ) where
  -- an empty register asks for nothing, nor does a choice that is no output
  pub asks_empty : (mark : ℕ) → mark ≡ reg s head_mark k → mark ≡ 0 → (p : ℕ) → asking s k p ≡ 0
  unfolding asking
  asks_empty mark e z p =
      ap (λ m. pick (p / 5 =? k / 5) (pick (reg s choice_row k =? p % 5 + 1) m 0) 0) (sym e ∙ z)
      ∙ ap (λ m. pick (p / 5 =? k / 5) m 0) (same_pick (reg s choice_row k =? p % 5 + 1) 0)
      ∙ same_pick (p / 5 =? k / 5) 0

  asks_no : (p : ℕ) → (reg s choice_row k ≡ p % 5 + 1 → ⊥) → asking s k p ≡ 0
  unfolding asking
  asks_no p ne =
      ap (λ t. pick (p / 5 =? k / 5) (pick t (reg s head_mark k) 0) 0) (no= ne) ∙ same_pick (p / 5 =? k / 5) 0

  -- a header, or nothing, needs no choice
  pub no_payload : (mark : ℕ) → mark ≡ reg s head_mark k → mark < 2 → unchosen_at s k ≡ false
  unfolding unchosen_at
  no_payload mark e l =
      let early : reg s head_mark k < 2 = omega arith in
      sym (and_no (reg s choice_row k =? 0) (no≤ early))

  module _ (choice : ℕ) (e : choice ≡ reg s choice_row k) where
    -- a payload word has a choice, or it has none
    pub chosen : 1 ≤ choice → unchosen_at s k ≡ false
    unfolding unchosen_at
    chosen l = and_no_right (2 ≤? reg s head_mark k) _ (no= (λ q. omega arith))

    pub unchosen : choice ≡ 0 → (mark : ℕ) → mark ≡ reg s head_mark k → 2 ≤ mark → unchosen_at s k ≡ true
    unfolding unchosen_at
    unchosen z mark m l =
        let late : 2 ≤ reg s head_mark k = omega arith in
        and_both (yes≤ late) (yes= (sym e ∙ z))

    pub asks_none : choice ≡ 0 → (p : ℕ) → asking s k p ≡ 0
    asks_none z p = asks_no p (λ q. omega arith)

    pub asks_past : 5 < choice → (p : ℕ) → asking s k p ≡ 0
    asks_past z p = asks_no p (λ q. omega arith)

    -- an output asks of its own place, and of no other
    module _ (low : 1 ≤ choice) (high : choice ≤ 5) where
      asks_own : asking s k (k / 5 * 5 + choice - 1) ≡ reg s head_mark k
      unfolding asking
      asks_own =
          let p : ℕ = k / 5 * 5 + choice - 1 in
          let node : p / 5 ≡ k / 5 = omega arith in
          let output : reg s choice_row k ≡ p % 5 + 1 = omega arith in
          ap (λ t. pick t (pick (reg s choice_row k =? p % 5 + 1) (reg s head_mark k) 0) 0) (yes= node)
          ∙ ap (λ t. pick t (reg s head_mark k) 0) (yes= output)

      asks_other : (p : ℕ) → (p ≡ k / 5 * 5 + choice - 1 → ⊥) → asking s k p ≡ 0
      unfolding asking
      asks_other p ne = go (p / 5 =? k / 5) refl (reg s choice_row k =? p % 5 + 1) refl
        where
          go : (a : Bool) → (p / 5 =? k / 5) ≡ a → (b : Bool) → (reg s choice_row k =? p % 5 + 1) ≡ b
              → pick a (pick b (reg s head_mark k) 0) 0 ≡ 0
          go true q true r =
              let node = is= (p / 5) (k / 5) q in
              let output = is= (reg s choice_row k) (p % 5 + 1) r in
              absurd (ne (omega arith))
          go true q false r = refl
          go false q b r = refl

module _ (s : List ℕ) (k : ℕ) (marks cells : List ℕ) (ml : length marks ≡ row_words) (cl : length cells ≡ row_words) where
  -- nothing is asked
  crossed_idle : (fault : ℕ) → fault < 2 → (1 ≤? fault) ≡ unchosen_at s k → ((p : ℕ) → asking s k p ≡ 0)
      → Crossed s k marks cells marks cells fault
  crossed_idle fault one e idle = record {
    marks_length = ml;
    cells_length = cl;
    marks_next = λ p l. mark_stays (word marks p) (asking s k p) (idle p);
    cells_next = λ p l. word_stays (word marks p) (asking s k p) (word cells p) (reg s head_word k) (idle p);
    one = one;
    found = λ n a b. or_on (untaken n) e;
  }
    where
      untaken : (n : ℕ) → any (n * 5) (λ p. 1 ≤? word marks p and 1 ≤? asking s k p) ≡ false
      untaken n =
          any_none (n * 5) _
          (λ p l. let z : asking s k p < 1 = omega (arith, idle p) in and_no_right (1 ≤? word marks p) _ (no≤ z))

  pub crossed_none : unchosen_at s k ≡ false → ((p : ℕ) → asking s k p ≡ 0) → Crossed s k marks cells marks cells 0
  crossed_none e idle =
      let none : 0 < 1 = omega arith in
      crossed_idle 0 (omega arith) (no≤ none ∙ sym e) idle

  pub crossed_unchosen : unchosen_at s k ≡ true → ((p : ℕ) → asking s k p ≡ 0) → Crossed s k marks cells marks cells 1
  crossed_unchosen e idle =
      let one : 1 ≤ 1 = omega arith in
      crossed_idle 1 (omega arith) (yes≤ one ∙ sym e) idle

  -- no output is chosen, and the mark decides
  pub crossed_choiceless : (mark : ℕ) → mark ≡ reg s head_mark k → (choice : ℕ) → choice ≡ reg s choice_row k → choice ≡ 0
      → (fault : ℕ) → fault ≡ bool_byte (2 ≤? mark) → Crossed s k marks cells marks cells fault
  crossed_choiceless mark me choice ce z fault e = go (dec_le 2 mark)
    where
      none : (p : ℕ) → asking s k p ≡ 0
      none = asks_none s k choice ce z

      go : Dec (2 ≤ mark) → Crossed s k marks cells marks cells fault
      go (yes l) =
          subst (Crossed s k marks cells marks cells) (sym (e ∙ ap bool_byte (yes≤ l))) (crossed_unchosen (unchosen s k choice ce z mark me l) none)
      go (no g) =
          let early : mark < 2 = omega (arith, g) in
          subst (Crossed s k marks cells marks cells) (sym (e ∙ ap bool_byte (no≤ early))) (crossed_none (no_payload s k mark me early) none)

  -- an output is asked for, whose place is p
  module _ (mark : ℕ) (me : mark ≡ reg s head_mark k) (some : mark ≡ 0 → ⊥) (choice : ℕ) (ce : choice ≡ reg s choice_row k)
      (low : 1 ≤ choice) (high : choice ≤ 5) (small : k < row_words) (place : ℕ) (pe : place ≡ k / 5 * 5 + choice - 1) where
    own : asking s k place ≡ mark
    own = ap (asking s k) pe ∙ asks_own s k choice ce low high ∙ sym me

    other : (p : ℕ) → (p ≡ place → ⊥) → asking s k p ≡ 0
    other p ne = asks_other s k choice ce low high p (λ q. ne (q ∙ sym pe))

    -- it has a mark already
    pub crossed_hit : (old : ℕ) → old ≡ word marks place → (old ≡ 0 → ⊥) → Crossed s k marks cells marks cells 1
    crossed_hit old oe ne = record {
      marks_length = ml;
      cells_length = cl;
      marks_next = λ p l. mark_at p (ℕ_discrete p place);
      cells_next = λ p l. word_at p (ℕ_discrete p place);
      one = omega arith;
      found = λ n a b. hit n a;
    }
      where
        full : (p : ℕ) → p ≡ place → word marks p ≡ 0 → ⊥
        full p q z = ne (oe ∙ ap (word marks) (sym q) ∙ z)

        mark_at : (p : ℕ) → Dec (p ≡ place) → word marks p ≡ pick (word marks p =? 0) (asking s k p) (word marks p)
        mark_at p (yes q) = mark_taken (word marks p) (asking s k p) (full p q)
        mark_at p (no g) = mark_stays (word marks p) (asking s k p) (other p g)

        word_at : (p : ℕ) → Dec (p ≡ place)
            → word cells p ≡ pick (word marks p =? 0) (pick (asking s k p =? 0) (word cells p) (reg s head_word k)) (word cells p)
        word_at p (yes q) = word_taken (word marks p) (asking s k p) (word cells p) (reg s head_word k) (full p q)
        word_at p (no g) = word_stays (word marks p) (asking s k p) (word cells p) (reg s head_word k) (other p g)

        hit : (n : ℕ) → k < n * 5 → (1 ≤? 1) ≡ any (n * 5) (λ p. 1 ≤? word marks p and 1 ≤? asking s k p) or unchosen_at s k
        hit n l =
            let there : 1 ≤ word marks place = omega (arith, ne) in
            let asked : 1 ≤ asking s k place = omega (arith, own, some) in
            let one : 1 ≤ 1 = omega arith in
            let inside : place < n * 5 = omega arith in
            yes≤ one ∙ or_yes (unchosen_at s k) (any_at (n * 5) _ place inside (and_both (yes≤ there) (yes≤ asked)))

    -- it is free
    stored : (old : ℕ) → old ≡ word marks place → old ≡ 0 → (h : ℕ) → h ≡ reg s head_word k
        → Crossed s k marks cells (set marks place mark) (set cells place h) 0
    stored old oe free h he = record {
      marks_length = length-set marks place mark ∙ ml;
      cells_length = length-set cells place h ∙ cl;
      marks_next = λ p l. mark_at p (ℕ_discrete p place);
      cells_next = λ p l. word_at p (ℕ_discrete p place);
      one = omega arith;
      found = λ n a b. untaken n;
    }
      where
        empty : (p : ℕ) → p ≡ place → word marks p ≡ 0
        empty p q = ap (word marks) q ∙ sym oe ∙ free

        asked : (p : ℕ) → p ≡ place → asking s k p ≡ mark
        asked p q = ap (asking s k) q ∙ own

        inside : place < row_words
        inside = omega arith

        mark_at : (p : ℕ) → Dec (p ≡ place) → word (set marks place mark) p ≡ pick (word marks p =? 0) (asking s k p) (word marks p)
        mark_at p (yes q) =
            ap (word (set marks place mark)) q ∙ get_or-set_same marks place mark 0 (omega arith) ∙ sym (asked p q)
            ∙ mark_first (word marks p) (asking s k p) (empty p q)
        mark_at p (no g) = get_or-set_other marks place p mark 0 g ∙ mark_stays (word marks p) (asking s k p) (other p g)

        word_at : (p : ℕ) → Dec (p ≡ place)
            → word (set cells place h) p
            ≡ pick (word marks p =? 0) (pick (asking s k p =? 0) (word cells p) (reg s head_word k)) (word cells p)
        word_at p (yes q) =
            ap (word (set cells place h)) q ∙ get_or-set_same cells place h 0 (omega arith) ∙ he
            ∙ word_first (word marks p) (asking s k p) (word cells p) (reg s head_word k) (empty p q) (λ z. some (sym (asked p q) ∙ z))
        word_at p (no g) =
            get_or-set_other cells place p h 0 g ∙ word_stays (word marks p) (asking s k p) (word cells p) (reg s head_word k) (other p g)

        no_test : (p : ℕ) → Dec (p ≡ place) → (1 ≤? word marks p and 1 ≤? asking s k p) ≡ false
        no_test p (yes q) =
            let z : word marks p < 1 = omega (arith, empty p q) in
            sym (and_no (1 ≤? asking s k p) (no≤ z))
        no_test p (no g) =
            let z : asking s k p < 1 = omega (arith, other p g) in
            and_no_right (1 ≤? word marks p) _ (no≤ z)

        untaken : (n : ℕ) → (1 ≤? 0) ≡ any (n * 5) (λ p. 1 ≤? word marks p and 1 ≤? asking s k p) or unchosen_at s k
        untaken n =
            let none : 0 < 1 = omega arith in
            no≤ none
            ∙ or_on (any_none (n * 5) _ (λ p l. no_test p (ℕ_discrete p place))) (sym (chosen s k choice ce low))

    pub crossed_first : (old : ℕ) → old ≡ word marks place → old ≡ 0 → (h : ℕ) → h ≡ reg s head_word k
        → (marks' cells' : List ℕ) → marks' ≡ set marks place mark → cells' ≡ set cells place h
        → Crossed s k marks cells marks' cells' 0
    crossed_first old oe free h he marks' cells' a b =
        subst (λ m. Crossed s k marks cells m cells' 0) (sym a)
        (subst (λ w. Crossed s k marks cells (set marks place mark) w 0) (sym b) (stored old oe free h he))

-- the marks of the first inputs, joined by or: each is 0 where what they make is
abbrev pub HeadsJoined : List ℕ → ℕ → ℕ → ℕ → Type 0
HeadsJoined s k input joined = joined ≡ 0 → (i : ℕ) → i < input → reg s head_mark (k + i) ≡ 0

pub heads_none : (s : List ℕ) (k : ℕ) → HeadsJoined s k 0 0
heads_none s k e i l = absurd (omega arith)

pub heads_more : (s : List ℕ) (k input joined : ℕ) → HeadsJoined s k input joined
    → HeadsJoined s k (input + 1) (bit_or joined (word s (head_mark * row_words + k + input)))
unfolding reg
heads_more s k input joined before e i l = go (ℕ_discrete i input)
  where
    here : ℕ
    here = word s (head_mark * row_words + k + input)

    go : Dec (i ≡ input) → reg s head_mark (k + i) ≡ 0
    go (yes q) =
        let at : head_mark * row_words + (k + i) ≡ head_mark * row_words + k + input = omega arith in
        ap (λ n. word s n) at ∙ or_right joined here e
    go (no ne) = before (or_left joined here e) i (omega arith)

-- inputs without a word: the tables stay
module _ (s : List ℕ) (marks cells : List ℕ) (ml : length marks ≡ row_words) (cl : length cells ≡ row_words) where
  pub crossed_empty : (k : ℕ) → reg s head_mark k ≡ 0 → Crossed s k marks cells marks cells 0
  crossed_empty k e = crossed_none s k marks cells ml cl (no_payload s k 0 (sym e) (omega arith)) (asks_empty s k 0 (sym e) refl)

  pub inputs_empty : (k n : ℕ) → ((input : ℕ) → input < n → reg s head_mark (k + input) ≡ 0) → CrossedInputs s k marks cells n marks cells 0
  unfolding CrossedInputs
  inputs_empty k zero h = (refl, refl, refl)
  inputs_empty k (suc n) h = record {
    marks = marks;
    cells = cells;
    faults = 0;
    fault = 0;
    before = inputs_empty k n (λ i l. h i (omega arith));
    last = crossed_empty (k + n) (h n (omega arith));
    sum = refl;
  }

-- so many inputs, one after the other
module _ (s : List ℕ) (k : ℕ) (marks cells : List ℕ) where
  pub inputs_none : CrossedInputs s k marks cells 0 marks cells 0
  unfolding CrossedInputs
  inputs_none = (refl, refl, refl)

  pub inputs_more : (n : ℕ) (marks₁ cells₁ marks₂ cells₂ : List ℕ) (faults fault : ℕ) → CrossedInputs s k marks cells n marks₁ cells₁ faults
      → Crossed s (k + n) marks₁ cells₁ marks₂ cells₂ fault → CrossedInputs s k marks cells (n + 1) marks₂ cells₂ (faults + fault)
  unfolding CrossedInputs
  inputs_more n marks₁ cells₁ marks₂ cells₂ faults fault g x =
      rw add-one (record { marks = marks₁; cells = cells₁; faults = faults; fault = fault; before = g; last = x; sum = refl })

  -- one fault an input at most
  pub inputs_few : (n : ℕ) (marks' cells' : List ℕ) (faults : ℕ) → CrossedInputs s k marks cells n marks' cells' faults → faults ≤ n
  unfolding CrossedInputs
  inputs_few zero marks' cells' faults g = omega (arith, g.2)
  inputs_few (suc n) marks' cells' faults g = omega (arith, g.sum, g.last.one, inputs_few n g.marks g.cells g.faults g.before)

-- The link registers: emptied, then filled side by side with what comes out of the links; those of the source inputs stay empty here.
-- Assumes nothing.
use Prim.Native.Nat.{ℕ, zero, suc, ◌+◌, ◌*◌, ◌/◌, ◌%◌, ◌<◌, ◌≤◌}
use mathlib.Core.Bool.{Bool, true, false}
use mathlib.Core.List.{List, []}
use mathlib.Core.Path.{◌≡◌, refl, sym, subst, ◌∙◌, ap, ap₂}
use native.Mathlib.Omega.{arith}
use native.Mathlib.Numerals.{add-one}
use native.Mathlib.Decide.{ℕ_discrete, dec_lt}
use lib.Bits.{bit_or}
use lib.ListN.{length, length-set}
use Rattle.words.specs.Tests.{◌=?◌, ◌<?◌}
use Rattle.words.specs.Words.{word, pick}
use Rattle.words.proofs.TestLaws.{is=, yes=, no=, yes<, no<}
use Rattle.torus.specs.Torus.{neighbour_of, opposite_of, is_vertical}
use Rattle.torus.proofs.RouteLaws.{vertical_north, vertical_south, vertical_none}
use Rattle.torus.specs.Inner.Grid.{InGrid}
use Rattle.torus.proofs.NeighbourLaws.{neighbour_inside, opposite_back, neighbour_back}
use Rattle.sheet.specs.Sheet.{columns, rows, nodes}
use Rattle.sheet.specs.Inner.Passed.{Headed}
use Rattle.network.specs.Registers.{reg, put, sheet_in, moving_words, link_mark, link_word, out_mark, out_word, extra_mark, extra_word, at, row_words}
use Rattle.network.specs.Cycle.{has_extra}
use Rattle.network.specs.View.{source_input}
use Rattle.network.specs.Inner.Machine.{end_mark, end_word, neighbour_place}
use Rattle.network.specs.Inner.Stages.{stage, link_from}
use Rattle.network.proofs.ExtraLaws.{end_low, end_high, end_behind}
use Rattle.network.proofs.ChoiceLaws.{same_pick}
use Rattle.network.proofs.FillLaws.{Wrote, wrote_nothing, Staged, stage_more, beside, off, stage_length, stage_sheet}
use Rattle.links.specs.Inner.Linking.{linked, place_by, pushed_by, NoneAt, SidesEmpty, side_row, pushed_sides}
use Rattle.links.proofs.PairLaws.{pair_wrote}
use Rattle.links.proofs.PairLaws.{or_left, or_right}

-- a link register is set, its mark and then its word
pub link_is : (s s₁ s₂ : List ℕ) (k mark w : ℕ) → s₁ ≡ put s link_mark k mark → s₂ ≡ put s₁ link_word k w → s₂ ≡ linked s k mark w
unfolding linked
link_is s s₁ s₂ k mark w p q = q ∙ ap (λ x. put x link_word k w) p

-- the row of a side's marks, by whether the side is a vertical one
module _ (vertical side : ℕ) where
  pub row_vertical : is_vertical side ≡ true → vertical ≡ side_row vertical side
  unfolding side_row
  row_vertical e = sym (ap (λ (t : Bool). pick t vertical out_mark) e)

  pub row_level : is_vertical side ≡ false → out_mark ≡ side_row vertical side
  unfolding side_row
  row_level e = sym (ap (λ (t : Bool). pick t vertical out_mark) e)

  pub row_small : vertical ≤ extra_mark → side_row vertical side ≤ extra_mark
  row_small l = go (is_vertical side) refl
    where
      go : (b : Bool) → is_vertical side ≡ b → side_row vertical side ≤ extra_mark
      go true e = omega (arith, row_vertical e)
      go false e = omega (arith, row_level e)

-- nothing comes out of the sides before one
abbrev pub NoneTo : List ℕ → ℕ → ℕ → ℕ → Type 0
NoneTo s node vertical end = (side : ℕ) → side < end → NoneAt s (side_row vertical side) (at node side)

-- a side's mark and word, joined to those of the sides before it, are 0
pub none_more : (s : List ℕ) (node vertical side joined from : ℕ) → (joined ≡ 0 → NoneTo s node vertical side)
    → from ≡ side_row vertical side * row_words + (node * 5 + side) → bit_or joined (bit_or (word s from) (word s (from + row_words))) ≡ 0
    → NoneTo s node vertical (side + 1)
unfolding reg
none_more s node vertical side joined from before f e other l = go (ℕ_discrete other side)
  where
    both : bit_or (word s from) (word s (from + row_words)) ≡ 0
    both = or_right joined _ e

    behind : from + row_words ≡ (side_row vertical side + 1) * row_words + (node * 5 + side)
    behind = omega arith

    here : NoneAt s (side_row vertical side) (at node side)
    here = record {
      no_mark = sym (ap (word s) f) ∙ or_left (word s from) (word s (from + row_words)) both;
      no_word = sym (ap (word s) behind) ∙ or_right (word s from) (word s (from + row_words)) both;
    }

    go : Dec (other ≡ side) → NoneAt s (side_row vertical other) (at node other)
    go (yes q) = subst (λ (i : ℕ). NoneAt s (side_row vertical i) (at node i)) (sym q) here
    go (no ne) = before (or_left joined _ e) other (omega (arith, ne))

-- all four sides, by their names
pub sides_named : (s : List ℕ) (node vertical end : ℕ) → 4 ≤ end → NoneTo s node vertical end → SidesEmpty s node vertical
sides_named s node vertical end all none = record {
  north = subst (λ (row : ℕ). NoneAt s row (at node 0)) (sym (row_vertical vertical 0 (vertical_north 0 refl))) (none 0 (omega arith));
  east = subst (λ (row : ℕ). NoneAt s row (at node 1)) (sym (row_level vertical 1 (vertical_none 1 (λ q. omega arith) (λ q. omega arith)))) (none 1 (omega arith));
  south = subst (λ (row : ℕ). NoneAt s row (at node 2)) (sym (row_vertical vertical 2 (vertical_south 2 refl))) (none 2 (omega arith));
  west = subst (λ (row : ℕ). NoneAt s row (at node 3)) (sym (row_level vertical 3 (vertical_none 3 (λ q. omega arith) (λ q. omega arith)))) (none 3 (omega arith));
}

sides_each : (s : List ℕ) (node vertical : ℕ) → SidesEmpty s node vertical → NoneTo s node vertical 4
sides_each s node vertical g zero l = subst (λ (row : ℕ). NoneAt s row (at node 0)) (row_vertical vertical 0 (vertical_north 0 refl)) g.north
sides_each s node vertical g (suc zero) l =
    subst (λ (row : ℕ). NoneAt s row (at node 1)) (row_level vertical 1 (vertical_none 1 (λ q. omega arith) (λ q. omega arith))) g.east
sides_each s node vertical g (suc (suc zero)) l = subst (λ (row : ℕ). NoneAt s row (at node 2)) (row_vertical vertical 2 (vertical_south 2 refl)) g.south
sides_each s node vertical g (suc (suc (suc zero))) l =
    subst (λ (row : ℕ). NoneAt s row (at node 3)) (row_level vertical 3 (vertical_none 3 (λ q. omega arith) (λ q. omega arith))) g.west
sides_each s node vertical g (suc (suc (suc (suc side)))) l = absurd (omega arith)

-- what comes out of one link
module _ (s : List ℕ) (cols count node side row : ℕ) where
  -- by the words that were read
  module _ (mark w : ℕ) (a : mark ≡ reg s row (node * 5 + side)) (b : w ≡ reg s (row + 1) (node * 5 + side)) where
    pub push_none : bit_or mark w ≡ 0 → s ≡ pushed_by s cols count node side row
    unfolding pushed_by
    push_none e = sym (rw (yes= (sym (ap₂ bit_or a b) ∙ e)))

    pub push_some : (bit_or mark w ≡ 0 → ⊥) → (s' : List ℕ) (next place : ℕ) → next ≡ neighbour_of cols count node side
        → place ≡ next * 5 + (side + 2) % 4 → s' ≡ linked s place mark w → s' ≡ pushed_by s cols count node side row
    unfolding pushed_by
    push_some ne s' next place n p q =
        let there : place ≡ place_by cols count node side = p ∙ ap (λ i. i * 5 + (side + 2) % 4) n in
        rw (no= (λ e. ne (ap₂ bit_or a b ∙ e))) (q ∙ (λ i. linked s (there i) (a i) (b i)))

  -- nothing
  push_idle : NoneAt s row (at node side) → s ≡ pushed_by s cols count node side row
  push_idle g = push_none 0 0 (sym g.no_mark) (sym g.no_word) refl

-- nothing comes out of a node's links
pub pushed_none : (s : List ℕ) (cols count node vertical : ℕ) → SidesEmpty s node vertical → s ≡ pushed_sides 4 s cols count node vertical
unfolding pushed_sides
pushed_none s cols count node vertical g = go 4 (omega arith)
  where
    go : (n : ℕ) → n ≤ 4 → s ≡ pushed_sides n s cols count node vertical
    go zero l = refl
    go (suc n) l =
        push_idle s cols count node n (side_row vertical n) (sides_each s node vertical g n (omega arith))
        ∙ ap (λ (x : List ℕ). pushed_by x cols count node n (side_row vertical n)) (go n (omega arith))

-- a link that is pushed, or none, leaves the state as long as it is
pushed_by_length : (s : List ℕ) (cols count node side row : ℕ) → length (pushed_by s cols count node side row) ≡ length s
unfolding pushed_by linked
pushed_by_length s cols count node side row = go (bit_or (reg s row (at node side)) (reg s (row + 1) (at node side)) =? 0)
  where
    k : ℕ
    k = place_by cols count node side

    mark : ℕ
    mark = reg s row (at node side)

    w : ℕ
    w = reg s (row + 1) (at node side)

    go : (b : Bool) → length (pick b s (put (put s link_mark k mark) link_word k w)) ≡ length s
    go true = refl
    go false = length-set (put s link_mark k mark) (link_word * row_words + k) w ∙ length-set s (link_mark * row_words + k) mark

pub pushed_length : (n : ℕ) (s : List ℕ) (cols count node vertical : ℕ) → length (pushed_sides n s cols count node vertical) ≡ length s
unfolding pushed_sides
pushed_length zero s cols count node vertical = refl
pushed_length (suc n) s cols count node vertical =
    pushed_by_length (pushed_sides n s cols count node vertical) cols count node n (side_row vertical n) ∙ pushed_length n s cols count node vertical

-- one link more
module _ (s : List ℕ) (cols count node vertical : ℕ) where
  pub pushed_start : s ≡ pushed_sides 0 s cols count node vertical
  unfolding pushed_sides
  pushed_start = refl

  pub pushed_on : (n row : ℕ) (now next : List ℕ) → now ≡ pushed_sides n s cols count node vertical → row ≡ side_row vertical n
      → next ≡ pushed_by now cols count node n row → next ≡ pushed_sides (n + 1) s cols count node vertical
  unfolding pushed_sides
  pushed_on n row now next a b e = rw add-one (e ∙ ap₂ (λ (x : List ℕ) (r : ℕ). pushed_by x cols count node n r) a b)

-- nothing comes out of them where the outputs and the extra registers are as they were
none_kept : (s t : List ℕ) (row k : ℕ) → out_mark ≤ row → row ≤ extra_mark → k < row_words
    → ((row k : ℕ) → out_mark ≤ row → row ≤ extra_word → k < row_words → reg t row k ≡ reg s row k) → NoneAt s row k → NoneAt t row k
none_kept s t row k a b kl same g = record {
  no_mark = same row k a (omega arith) kl ∙ g.no_mark;
  no_word = same (row + 1) k (omega arith) (omega arith) kl ∙ g.no_word;
}

pub sides_kept : (s t : List ℕ) (node vertical : ℕ) → node < 16 → out_mark ≤ vertical → vertical ≤ extra_mark
    → ((row k : ℕ) → out_mark ≤ row → row ≤ extra_word → k < row_words → reg t row k ≡ reg s row k) → SidesEmpty s node vertical → SidesEmpty t node vertical
sides_kept s t node vertical l a b same g = record {
  north = none_kept s t vertical (at node 0) a b (omega arith) same g.north;
  east = none_kept s t out_mark (at node 1) (omega arith) (omega arith) (omega arith) same g.east;
  south = none_kept s t vertical (at node 2) a b (omega arith) same g.south;
  west = none_kept s t out_mark (at node 3) (omega arith) (omega arith) (omega arith) same g.west;
}

-- the link registers as the sides alone fill them: on the source wires is nothing
abbrev pub from_sides : List ℕ → ℕ → ℕ → ℕ
from_sides s = link_from [] [] s

-- what the definition has at a side's place and at a source's
module _ (s : List ℕ) (n node : ℕ) where
  by_tests : (row : ℕ) (source first : Bool) → (n % 5 =? source_input) ≡ source → (row =? link_mark) ≡ first
      → pick source (pick first 0 0)
      (pick first (reg s (end_mark s (opposite_of (n % 5))) (neighbour_place s (n / 5) (n % 5)))
      (reg s (end_word s (opposite_of (n % 5))) (neighbour_place s (n / 5) (n % 5))))
      ≡ from_sides s row n
  unfolding link_from
  by_tests row source first a b =
      sym (ap₂ (λ (t u : Bool). pick t (pick u 0 0)
      (pick u (reg s (end_mark s (opposite_of (n % 5))) (neighbour_place s (n / 5) (n % 5)))
      (reg s (end_word s (opposite_of (n % 5))) (neighbour_place s (n / 5) (n % 5))))) a b)

  later : (link_word =? link_mark) ≡ false
  later = no= (λ q. omega arith)

  module _ (side : ℕ) (e : n ≡ at node side) (l : side < 4) where
    no_source : (n % 5 =? source_input) ≡ false
    no_source =
        let other : n % 5 ≡ source_input → ⊥ = λ q. (let z : ⊥ = omega (arith, q) in z) in
        no= other

    own_side : node ≡ n / 5
    own_side = omega arith

    own_input : side ≡ n % 5
    own_input = omega arith

    side_mark : reg s (end_mark s (opposite_of side)) (neighbour_place s node side) ≡ from_sides s link_mark n
    side_mark =
        ap₂ (λ (a b : ℕ). reg s (end_mark s (opposite_of b)) (neighbour_place s a b)) own_side own_input
        ∙ by_tests link_mark false true no_source (yes= refl)

    side_word : reg s (end_word s (opposite_of side)) (neighbour_place s node side) ≡ from_sides s link_word n
    side_word =
        ap₂ (λ (a b : ℕ). reg s (end_word s (opposite_of b)) (neighbour_place s a b)) own_side own_input
        ∙ by_tests link_word false false no_source later

  module _ (e : n ≡ at node source_input) where
    is_source_is : (n % 5 =? source_input) ≡ true
    is_source_is =
        let input : n % 5 ≡ source_input = omega arith in
        yes= input

    pub source_none : (row : ℕ) → 0 ≡ from_sides s row n
    source_none row = sym (same_pick (row =? link_mark) 0) ∙ by_tests row true (row =? link_mark) is_source_is refl

-- the place from which an input is filled: its neighbour's output, or, of a source, its own
unfoldable pub origin : List ℕ → ℕ → ℕ
origin s p = pick (p % 5 =? source_input) p (neighbour_place s (p / 5) (p % 5))

-- the link registers when the places before place have been pushed: the others are empty still
abbrev pub pushed_to : List ℕ → ℕ → ℕ → ℕ → ℕ
pushed_to s place row p = pick (origin s p <? place) (from_sides s row p) 0

module _ (s : List ℕ) where
  origin_side : (node side : ℕ) → side < 4 → origin s (at node side) ≡ neighbour_place s node side
  unfolding origin
  origin_side node side l =
      let other : at node side % 5 ≡ source_input → ⊥ = λ e. (let z : ⊥ = omega (arith, e) in z) in
      let own : at node side / 5 ≡ node = omega arith in
      let input : at node side % 5 ≡ side = omega arith in
      ap (λ (t : Bool). pick t (at node side) (neighbour_place s (at node side / 5) (at node side % 5))) (no= other)
      ∙ ap₂ (neighbour_place s) own input

  origin_source : (node : ℕ) → origin s (at node source_input) ≡ at node source_input
  unfolding origin
  origin_source node =
      let input : at node source_input % 5 ≡ source_input = omega arith in
      ap (λ (t : Bool). pick t (at node source_input) (neighbour_place s (at node source_input / 5) (at node source_input % 5))) (yes= input)

  module _ (h : Headed (sheet_in s)) where
    pub in_grid : (node : ℕ) → node < nodes (sheet_in s) → InGrid (columns (sheet_in s)) (rows (sheet_in s)) node
    in_grid node l = record {
      cols_low = h.columns_low;
      cols_high = h.columns_high;
      rows_low = h.rows_low;
      rows_high = h.rows_high;
      inside = l;
    }

    -- the neighbour's neighbour by the opposite side
    place_back : (node side : ℕ) → node < nodes (sheet_in s) → side < 4
        → neighbour_place s (neighbour_of (columns (sheet_in s)) (rows (sheet_in s)) node side) (opposite_of side) ≡ at node side
    place_back node side l sl = ap₂ at (neighbour_back (in_grid node l) side sl) (opposite_back side sl)

    module _ (p : ℕ) (l : p < nodes (sheet_in s) * 5) where
      apart : p ≡ at (p / 5) (p % 5)
      apart = omega arith

      pub origin_inside : origin s p < nodes (sheet_in s) * 5
      origin_inside = go (ℕ_discrete (p % 5) source_input)
        where
          go : Dec (p % 5 ≡ source_input) → origin s p < nodes (sheet_in s) * 5
          go (yes e) =
              let same : origin s p ≡ p =
              ap (origin s) (apart ∙ ap (at (p / 5)) e) ∙ origin_source (p / 5) ∙ sym (apart ∙ ap (at (p / 5)) e) in
              omega (arith, same)
          go (no ne) =
              let there : origin s p ≡ neighbour_place s (p / 5) (p % 5) =
              ap (origin s) apart ∙ origin_side (p / 5) (p % 5) (omega (arith, ne)) in
              omega (arith, there, neighbour_inside (in_grid (p / 5) (omega arith)) (p % 5))

      origin_back : origin s (origin s p) ≡ p
      origin_back = go (ℕ_discrete (p % 5) source_input)
        where
          go : Dec (p % 5 ≡ source_input) → origin s (origin s p) ≡ p
          go (yes e) =
              let same : origin s p ≡ p =
              ap (origin s) (apart ∙ ap (at (p / 5)) e) ∙ origin_source (p / 5) ∙ sym (apart ∙ ap (at (p / 5)) e) in
              ap (origin s) same ∙ same
          go (no ne) =
              let side : p % 5 < 4 = omega (arith, ne) in
              ap (origin s) (ap (origin s) apart ∙ origin_side (p / 5) (p % 5) side)
              ∙ origin_side (neighbour_of (columns (sheet_in s)) (rows (sheet_in s)) (p / 5) (p % 5)) (opposite_of (p % 5)) (omega arith)
              ∙ place_back (p / 5) (p % 5) (omega arith) side ∙ sym apart

-- what comes out of the links is what it was before the registers were emptied
module _ (s s₁ : List ℕ) (n : ℕ) (few : n ≤ 16) (c : s₁ ≡ stage link_mark link_word (n * 5) (λ row k. 0) s) where
  pub cleared_sheet : sheet_in s₁ ≡ sheet_in s
  cleared_sheet = ap sheet_in c ∙ stage_sheet link_mark link_word (n * 5) (λ row k. 0) s

  pub cleared_length : moving_words ≤ length s → length s₁ ≡ length s
  cleared_length long = ap length c ∙ stage_length link_mark link_word (n * 5) (λ row k. 0) s long

  pub cleared_link : Headed (sheet_in s₁) → n ≡ nodes (sheet_in s₁) → (row k : ℕ) → k < n * 5 → from_sides s₁ row k ≡ from_sides s row k
  unfolding link_from
  cleared_link h own row k l =
      let o : ℕ = opposite_of (k % 5) in
      let place : ℕ = neighbour_place s₁ (k / 5) (k % 5) in
      let inside : place < row_words = omega (arith, own, few, neighbour_inside (in_grid s₁ h (k / 5) (omega (arith, own))) (k % 5)) in
      let same : place ≡ neighbour_place s (k / 5) (k % 5) = ap (λ z. place_by (columns z) (rows z) (k / 5) (k % 5)) cleared_sheet in
      let low = end_low s₁ o in
      let high = end_high s₁ o in
      let behind = end_behind s₁ o in
      let mark : reg s₁ (end_mark s₁ o) place ≡ reg s (end_mark s o) (neighbour_place s (k / 5) (k % 5)) =
      off link_mark link_word (n * 5) (λ row k. 0) s s₁ c (end_mark s₁ o) place (omega arith) inside (λ x y z. omega arith)
      ∙ ap₂ (reg s) (ap (λ z. pick (has_extra z o) extra_mark out_mark) cleared_sheet) same in
      let cell : reg s₁ (end_word s₁ o) place ≡ reg s (end_word s o) (neighbour_place s (k / 5) (k % 5)) =
      off link_mark link_word (n * 5) (λ row k. 0) s s₁ c (end_word s₁ o) place (omega arith) inside (λ x y z. omega arith)
      ∙ ap₂ (reg s) (ap (λ z. pick (has_extra z o) extra_word out_word) cleared_sheet) same in
      ap₂ (λ (a b : ℕ). pick (k % 5 =? source_input) (pick (row =? link_mark) 0 0) (pick (row =? link_mark) a b)) mark cell

-- the loop that empties the registers
pub clear_more : (s now : List ℕ) (k : ℕ) → k < row_words → moving_words ≤ length s → Staged link_mark link_word k (λ row k. 0) s now
    → Staged link_mark link_word (k + 1) (λ row k. 0) s (put (put now link_mark k 0) link_word k 0)
clear_more s now k kl long g =
    stage_more link_mark link_word k (λ row k. 0) s now _ (omega arith) kl g
    (pair_wrote link_mark k 0 0 (λ row. 0) now (put now link_mark k 0) _ (omega arith) kl (omega (arith, g.same_length)) refl refl refl refl)

-- one place more is pushed: what it fills is written, or is 0 and was empty
module _ (s now next : List ℕ) (n k k' : ℕ) (h : Headed (sheet_in s)) (own : n ≡ nodes (sheet_in s)) (few : n ≤ 16) (kl : k < n * 5)
    (more : k' ≡ k + 1) (long : moving_words ≤ length s) (g : Staged link_mark link_word (n * 5) (pushed_to s k) s now) where
  inside_of : (p : ℕ) → p < n * 5 → p < nodes (sheet_in s) * 5
  inside_of p l = omega (arith, own)

  target_small : origin s k < n * 5
  target_small = omega (arith, own, origin_inside s h k (inside_of k kl))

  long_now : moving_words ≤ length now
  long_now = omega (arith, g.same_length)

  same_test : (p : ℕ) → (origin s p ≡ k → ⊥) → (origin s p <? k) ≡ (origin s p <? k')
  same_test p ne = go (dec_lt (origin s p) k)
    where
      go : Dec (origin s p < k) → (origin s p <? k) ≡ (origin s p <? k')
      go (yes l) =
          let l' : origin s p < k' = omega arith in
          yes< l ∙ sym (yes< l')
      go (no nl) =
          let a : k ≤ origin s p = omega (arith, nl) in
          let b : k' ≤ origin s p = omega (arith, nl, ne) in
          no< a ∙ sym (no< b)

  push_more : Wrote link_mark link_word (origin s k) (λ row. from_sides s row (origin s k)) now next
      → Staged link_mark link_word (n * 5) (pushed_to s k') s next
  push_more w = record {
    same_length = w.same_length ∙ g.same_length;
    same_rest = w.same_rest ∙ g.same_rest;
    done = λ row p a b l. go row p a b l (ℕ_discrete p (origin s k));
    kept = λ row p rl pl no.
        w.elsewhere row p rl pl (λ a b e. no a b (omega (arith, target_small, e))) ∙ g.kept row p rl pl no;
  }
    where
      go : (row p : ℕ) → link_mark ≤ row → row ≤ link_word → p < n * 5 → Dec (p ≡ origin s k) → reg next row p ≡ pushed_to s k' row p
      go row p a b l (yes e) =
          let came : origin s p ≡ k = ap (origin s) e ∙ origin_back s h k (inside_of k kl) in
          let before : origin s p < k' = omega (arith, came) in
          ap (reg next row) e ∙ w.written row a b ∙ ap (from_sides s row) (sym e)
          ∙ sym (ap (λ (t : Bool). pick t (from_sides s row p) 0) (yes< before))
      go row p a b l (no ne) =
          w.elsewhere row p (omega arith) (omega arith) (λ x y e. ne e) ∙ g.done row p a b l
          ∙ ap (λ (t : Bool). pick t (from_sides s row p) 0)
          (same_test p (λ e. ne (sym (origin_back s h p (inside_of p l)) ∙ ap (origin s) e)))

  -- the register is filled, mark and word
  filled_more : (mark w : ℕ) → mark ≡ from_sides s link_mark (origin s k) → w ≡ from_sides s link_word (origin s k)
      → next ≡ linked now (origin s k) mark w → Staged link_mark link_word (n * 5) (pushed_to s k') s next
  unfolding linked
  filled_more mark w a b e =
      push_more
      (pair_wrote link_mark (origin s k) mark w (λ row. from_sides s row (origin s k)) now (put now link_mark (origin s k) mark) next
      (omega arith) (omega (arith, target_small)) long_now a b refl e)

  -- it stays empty
  still_empty : (row : ℕ) → link_mark ≤ row → row ≤ link_word → reg now row (origin s k) ≡ 0
  still_empty row a b =
      let not_yet : k ≤ origin s (origin s k) = omega (arith, origin_back s h k (inside_of k kl)) in
      g.done row (origin s k) a b target_small
      ∙ ap (λ (t : Bool). pick t (from_sides s row (origin s k)) 0) (no< not_yet)

  empty_more : (mark w : ℕ) → mark ≡ from_sides s link_mark (origin s k) → w ≡ from_sides s link_word (origin s k)
      → mark ≡ 0 → w ≡ 0 → next ≡ now → Staged link_mark link_word (n * 5) (pushed_to s k') s next
  empty_more mark w a b m z e =
      push_more
      (subst (Wrote link_mark link_word (origin s k) (λ row. from_sides s row (origin s k)) now) (sym e)
      (wrote_nothing link_mark link_word (origin s k) (λ row. from_sides s row (origin s k)) now
      (λ row c d. go row c d (ℕ_discrete row link_mark) ∙ sym (still_empty row c d))))
    where
      go : (row : ℕ) → link_mark ≤ row → row ≤ link_word → Dec (row ≡ link_mark) → from_sides s row (origin s k) ≡ 0
      go row c d (yes q) = ap (λ r. from_sides s r (origin s k)) q ∙ sym a ∙ m
      go row c d (no nq) =
          let second : row ≡ link_word = omega (arith, nq) in
          ap (λ r. from_sides s r (origin s k)) second ∙ sym b ∙ z

  -- from a side's link: neither its outputs nor its extra registers are written here
  pub side_more : (cols count node side : ℕ) → k ≡ at node side → side < 4 → cols ≡ columns (sheet_in s) → count ≡ rows (sheet_in s)
      → (row : ℕ) → row ≡ end_mark s side → next ≡ pushed_by now cols count node side row
      → Staged link_mark link_word (n * 5) (pushed_to s k') s next
  unfolding pushed_by
  side_more cols count node side e l own_cols own_rows row r q = go (bit_or (reg now row (at node side)) (reg now (row + 1) (at node side)) =? 0) refl q
    where
      mark : ℕ
      mark = reg now row (at node side)

      cell : ℕ
      cell = reg now (row + 1) (at node side)

      next_node : ℕ
      next_node = neighbour_of (columns (sheet_in s)) (rows (sheet_in s)) node side

      inside : node < nodes (sheet_in s)
      inside = omega (arith, own)

      low : out_mark ≤ row
      low = omega (arith, r, end_low s side)

      high : row ≤ extra_mark
      high = omega (arith, r, end_high s side)

      target : origin s k ≡ neighbour_place s node side
      target = ap (origin s) e ∙ origin_side s node side l

      back : opposite_of (opposite_of side) ≡ side
      back = opposite_back side l

      from : neighbour_place s next_node (opposite_of side) ≡ at node side
      from = place_back s h node side inside l

      behind : row + 1 ≡ end_word s side
      behind = ap (λ (i : ℕ). i + 1) r ∙ end_behind s side

      mark_is : mark ≡ from_sides s link_mark (origin s k)
      mark_is =
          beside link_mark link_word (n * 5) (pushed_to s k) s now g row (at node side) (omega (arith, high)) (omega arith) (λ a b. omega (arith, low))
          ∙ ap (λ i. reg s i (at node side)) r
          ∙ sym (ap₂ (λ (a b : ℕ). reg s (end_mark s a) b) back from)
          ∙ side_mark s (origin s k) next_node (opposite_of side) target (omega arith)

      cell_is : cell ≡ from_sides s link_word (origin s k)
      cell_is =
          beside link_mark link_word (n * 5) (pushed_to s k) s now g (row + 1) (at node side) (omega (arith, high)) (omega arith) (λ a b. omega (arith, low))
          ∙ ap (λ i. reg s i (at node side)) behind
          ∙ sym (ap₂ (λ (a b : ℕ). reg s (end_word s a) b) back from)
          ∙ side_word s (origin s k) next_node (opposite_of side) target (omega arith)

      go : (b : Bool) → (bit_or mark cell =? 0) ≡ b → next ≡ pick b now (linked now (place_by cols count node side) mark cell)
          → Staged link_mark link_word (n * 5) (pushed_to s k') s next
      go true t q =
          let none = is= (bit_or mark cell) 0 t in
          empty_more mark cell mark_is cell_is (or_left mark cell none) (or_right mark cell none) q
      go false t q =
          let place : place_by cols count node side ≡ origin s k = ap₂ (λ (a b : ℕ). place_by a b node side) own_cols own_rows ∙ sym target in
          filled_more mark cell mark_is cell_is (q ∙ ap (λ i. linked now i mark cell) place)

  -- from the source wire nothing comes yet
  pub source_more : (node : ℕ) → k ≡ at node source_input → next ≡ now → Staged link_mark link_word (n * 5) (pushed_to s k') s next
  source_more node e q =
      let target : origin s k ≡ at node source_input = ap (origin s) e ∙ origin_source s node in
      empty_more 0 0 (source_none s (origin s k) node target link_mark) (source_none s (origin s k) node target link_word) refl refl q

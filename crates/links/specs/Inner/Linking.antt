-- What one link and one extra register are written. Nobody has to believe these: the contracts of the whole stages say what the rows hold
-- in the end.
use Rattle.std.specs.Prelude.{ℕ, zero, suc, ◌+◌, ◌/◌, ◌%◌, ◌<◌, List, ◌≡◌}
use Rattle.std.specs.Int.Bits.{bit_or}
use Rattle.words.specs.Tests.{◌=?◌}
use Rattle.words.specs.Words.{word, pick}
use Rattle.occupancy.specs.Inner.Occupancy.{bit_at}
use Rattle.torus.specs.Torus.{neighbour_of, opposite_of, is_vertical}
use Rattle.network.specs.Registers.{reg, put, link_mark, link_word, out_mark, out_word, extra_mark, extra_word, at, row_count, row_words}
use Rattle.network.specs.View.{source_input}
use Rattle.network.specs.Inner.Live.{Stays}

-- a mark and a word in link register k
unfoldable pub linked : List ℕ → ℕ → ℕ → ℕ → List ℕ
linked s k mark w = put (put s link_mark k mark) link_word k w

-- the place of the neighbour's input by a side, which is of the opposite side
abbrev pub place_by : ℕ → ℕ → ℕ → ℕ → ℕ
place_by cols rows node side = at (neighbour_of cols rows node side) (opposite_of side)

-- what comes out of a side's link, the mark from a row and the word from the row behind it, in the neighbour's link register, unless both are 0
unfoldable pub pushed_by : List ℕ → ℕ → ℕ → ℕ → ℕ → ℕ → List ℕ
pushed_by s cols rows node side row =
    pick (bit_or (reg s row (at node side)) (reg s (row + 1) (at node side)) =? 0) s
    (linked s (place_by cols rows node side) (reg s row (at node side)) (reg s (row + 1) (at node side)))

-- nothing comes out of a link, by its output's place
pub record NoneAt (s : List ℕ) (row k : ℕ) : Type 0 where
  pub no_mark : reg s row k ≡ 0
  pub no_word : reg s (row + 1) k ≡ 0

-- nothing comes out of a node's links; the marks of the vertical ones are in a row that is given
pub record SidesEmpty (s : List ℕ) (node vertical : ℕ) : Type 0 where
  pub north : NoneAt s vertical (at node 0)
  pub east : NoneAt s out_mark (at node 1)
  pub south : NoneAt s vertical (at node 2)
  pub west : NoneAt s out_mark (at node 3)

-- the row of the marks that come out of a side's link, of which that of the vertical sides is given
unfoldable pub side_row : ℕ → ℕ → ℕ
side_row vertical side = pick (is_vertical side) vertical out_mark

-- what comes out of so many links of a node, one after the other
unfoldable pub pushed_sides : ℕ → List ℕ → ℕ → ℕ → ℕ → ℕ → List ℕ
pushed_sides zero s cols rows node vertical = s
pushed_sides (suc n) s cols rows node vertical = pushed_by (pushed_sides n s cols rows node vertical) cols rows node n (side_row vertical n)

-- the extra register of output k
unfoldable pub extended : List ℕ → ℕ → List ℕ
extended s k = put (put s extra_mark k (reg s out_mark k)) extra_word k (reg s out_word k)

-- the registers of the nodes that a mask has not are as they were
pub record KeptBeside (mask : ℕ) (s after : List ℕ) : Type 0 where
  pub kept : (row k : ℕ) → row < row_count → k < row_words → bit_at mask (k / 5) ≡ 0 → reg after row k ≡ reg s row k

-- the link registers with what is on the source wires in those of the source inputs
unfoldable pub sourced : List ℕ → List ℕ → List ℕ → ℕ → ℕ → ℕ
sourced marks cells s row k =
    pick (k % 5 =? source_input) (pick (row =? link_mark) (word marks (k / 5)) (word cells (k / 5))) (reg s row k)

-- the source inputs of the nodes that a mask has not have already what is on their source wires
pub record SourcesBeside (count mask : ℕ) (marks cells s : List ℕ) : Type 0 where
  pub stays : (node : ℕ) → node < count → bit_at mask node ≡ 0 → Stays link_mark link_word (sourced marks cells s) s (at node source_input)

-- A cycle in the order in which code carries it out in place, stage by stage. Nobody has to believe these: that the stages together are
-- next_state and next_memory is proved where they are joined.
use Rattle.std.specs.Prelude.{ℕ, ◌/◌, ◌%◌, List, ◌++◌, drop}
use Rattle.words.specs.Tests.{◌and◌, ◌≤?◌, ◌<?◌, ◌=?◌}
use Rattle.words.specs.Words.{word, pick, tab}
use Rattle.torus.specs.Torus.{opposite_of}
use Rattle.network.specs.Registers.{reg, row_words, moving_words, out_mark, link_mark}
use Rattle.network.specs.View.{source_input}
use Rattle.network.specs.Inner.Machine.{end_mark, end_word, neighbour_place}

-- words whose register k of each row is f row k; what lies behind the rows stays
unfoldable pub restate : (ℕ → ℕ → ℕ) → List ℕ → List ℕ
restate f s = tab moving_words (λ k. f (k / row_words) (k % row_words)) ++ drop moving_words s

-- the first n registers of the rows from low to high as f says, all others as they were
unfoldable pub stage : ℕ → ℕ → ℕ → (ℕ → ℕ → ℕ) → List ℕ → List ℕ
stage low high n f s = restate (λ row k. pick (low ≤? row and row ≤? high and k <? n) (f row k) (reg s row k)) s

-- the link registers, given the marks and the words on the source wires
unfoldable pub link_from : List ℕ → List ℕ → List ℕ → ℕ → ℕ → ℕ
link_from marks words s row k =
    pick (k % 5 =? source_input)
    (pick (row =? link_mark) (word marks (k / 5)) (word words (k / 5)))
    (pick (row =? link_mark) (reg s (end_mark s (opposite_of (k % 5))) (neighbour_place s (k / 5) (k % 5)))
    (reg s (end_word s (opposite_of (k % 5))) (neighbour_place s (k / 5) (k % 5))))

-- the out registers, given what goes on each output
unfoldable pub out_from : List ℕ → List ℕ → ℕ → ℕ → ℕ
out_from marks words row k = pick (row =? out_mark) (word marks k) (word words k)

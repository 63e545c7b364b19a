-- Where something may be, by masks of nodes and of circuits, for code that passes over the others. Nobody has to believe these: what a cycle
-- leaves is stated without them.
use Rattle.std.specs.Prelude.{ℕ, ◌*◌, ◌/◌, ◌%◌, ◌<◌, ◌≤◌, true, List, ◌≡◌}
use Rattle.sheet.specs.Sheet.{nodes, circuits}
use Rattle.occupancy.specs.Inner.Occupancy.{bit_at}
use Rattle.network.specs.declared.Live.{Live}
use Rattle.network.specs.Cycle.{has_extra}
use Rattle.network.specs.Registers.{reg, sheet_in, link_mark, link_word, head_mark, head_word, choice_row, out_mark, out_word, landing_mark, to_go_row, extra_mark, extra_word}

-- at the nodes that a mask has not, the five registers of a row are 0
abbrev pub EmptyBeside : List ℕ → ℕ → ℕ → Type 0
EmptyBeside s mask row = (k : ℕ) → k < nodes (sheet_in s) * 5 → bit_at mask (k / 5) ≡ 0 → reg s row k ≡ 0

-- the same where a register is that of a long link
abbrev pub ExtraEmptyBeside : List ℕ → ℕ → ℕ → Type 0
ExtraEmptyBeside s mask row =
    (k : ℕ) → k < nodes (sheet_in s) * 5 → has_extra (sheet_in s) (k % 5) ≡ true → bit_at mask (k / 5) ≡ 0 → reg s row k ≡ 0

-- place k of the rows from low to high has what f says already
abbrev pub Stays : ℕ → ℕ → (ℕ → ℕ → ℕ) → List ℕ → ℕ → Type 0
Stays low high f s k = (row : ℕ) → low ≤ row → row ≤ high → f row k ≡ reg s row k

-- the masks have every node and every circuit at which something is
pub record Covered (s : List ℕ) (live : Live) : Type 0 where
  pub link_mark_is : EmptyBeside s live.links link_mark
  pub link_word_is : EmptyBeside s live.links link_word
  pub head_mark_is : EmptyBeside s live.heads head_mark
  pub head_word_is : EmptyBeside s live.heads head_word
  pub choice : EmptyBeside s live.heads choice_row
  pub out_mark_is : EmptyBeside s live.outs out_mark
  pub out_word_is : EmptyBeside s live.outs out_word
  pub extra_mark_at : ExtraEmptyBeside s live.extras extra_mark
  pub extra_word_at : ExtraEmptyBeside s live.extras extra_word
  pub landing : (node : ℕ) → node < nodes (sheet_in s) → bit_at live.landed node ≡ 0 → reg s landing_mark node ≡ 0
  pub to_go_at : (c : ℕ) → c < circuits (sheet_in s) → bit_at live.sending c ≡ 0 → reg s to_go_row c ≡ 0

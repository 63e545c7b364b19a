-- What one input does to the two tables of the outputs' marks and words. Nobody has to believe this: the crossbar's own contract says
-- what the tables hold in the end.
use Rattle.std.specs.Prelude.{ℕ, zero, suc, ◌+◌, ◌*◌, ◌/◌, ◌%◌, ◌<◌, Bool, ◌≡◌, List, length}
use Rattle.words.specs.Tests.{any, ◌and◌, ◌or◌, ◌≤?◌, ◌=?◌}
use Rattle.words.specs.Words.{word, pick}
use Rattle.network.specs.Registers.{reg, head_mark, head_word, choice_row, row_words}

-- the mark that input k asks of the output at a place; 0 where it asks for another, or nothing
unfoldable pub asking : List ℕ → ℕ → ℕ → ℕ
asking s k place = pick (place / 5 =? k / 5) (pick (reg s choice_row k =? place % 5 + 1) (reg s head_mark k) 0) 0

-- its word is payload and has no choice
unfoldable pub unchosen_at : List ℕ → ℕ → Bool
unchosen_at s k = 2 ≤? reg s head_mark k and reg s choice_row k =? 0

-- the tables before and after input k; fault is 1 where the output that it asks for was taken or a payload word has no choice, else 0
pub record Crossed (s : List ℕ) (k : ℕ) (marks cells marks' cells' : List ℕ) (fault : ℕ) : Type 0 where
  pub marks_length : length marks' ≡ row_words
  pub cells_length : length cells' ≡ row_words
  pub marks_next : (p : ℕ) → p < row_words → word marks' p ≡ pick (word marks p =? 0) (asking s k p) (word marks p)
  pub cells_next : (p : ℕ) → p < row_words
      → word cells' p ≡ pick (word marks p =? 0) (pick (asking s k p =? 0) (word cells p) (reg s head_word k)) (word cells p)
  pub one : fault < 2
  pub found : (n : ℕ) → k < n * 5 → n * 5 < 81
      → (1 ≤? fault) ≡ any (n * 5) (λ p. 1 ≤? word marks p and 1 ≤? asking s k p) or unchosen_at s k

-- nothing is in the header stages of the five inputs from input k on
abbrev pub HeadsEmpty : List ℕ → ℕ → Type 0
HeadsEmpty s k = (input : ℕ) → input < 5 → reg s head_mark (k + input) ≡ 0

-- input k behind others, with the tables and the faults that they left
pub record CrossedMore (Before : List ℕ → List ℕ → ℕ → Type 0) (s : List ℕ) (k : ℕ) (marks' cells' : List ℕ) (faults' : ℕ) : Type 0 where
  pub marks : List ℕ
  pub cells : List ℕ
  pub faults : ℕ
  pub fault : ℕ
  pub before : Before marks cells faults
  pub last : Crossed s k marks cells marks' cells' fault
  pub sum : faults' ≡ faults + fault

-- the tables before so many inputs from input k on, one after the other, and behind them; faults is how many of the inputs have a fault
unfoldable pub CrossedInputs : List ℕ → ℕ → List ℕ → List ℕ → ℕ → List ℕ → List ℕ → ℕ → Type 0
CrossedInputs s k marks cells zero marks' cells' faults = (marks' ≡ marks) × (cells' ≡ cells) × (faults ≡ 0)
CrossedInputs s k marks cells (suc n) marks' cells' faults = CrossedMore (CrossedInputs s k marks cells n) s (k + n) marks' cells' faults

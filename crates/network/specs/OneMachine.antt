-- The machine in lent words is the machine of the article: the claim, which proofs/OneMachineProved proves. What the calls do is said with
-- next_state, next_memory and faulty_in; whoever believes this claim need not read how those are made (Inner/Machine).
use Rattle.std.specs.Prelude.{ℕ, ◌*◌, ◌%◌, ◌≤◌, ◌<◌, false, not, List, ◌≡◌, length, drop}
use Rattle.words.specs.Numbers.{unless}
use Rattle.sheet.specs.Sheet.{circuits, nodes}
use Rattle.sheet.specs.Rules.{verdict}
use Rattle.network.specs.View.{ports}
use Rattle.network.specs.Cycle.{has_extra, tick, faulty}
use Rattle.network.specs.Registers.{reg, sheet_in, room, row_words, moving_words, state_words, clock_row, clock_words, link_mark, out_word, receive_mark, landing_word, left_row, to_go_row, extra_mark, extra_word}
use Rattle.network.specs.Seen.{view, Agree}
use Rattle.network.specs.Inner.Machine.{faulty_in, next_state, next_memory}

-- number 20: the number by which a cycle upon words that passed 12 to 14 is refused, or 0
unfoldable pub cycle_fault : List ℕ → ℕ
cycle_fault s = unless 20 (not (faulty_in s))

-- of a state s and memories m that passed 12 to 14: s has the published length, its sheet passes 1 to 11, and m is C × R × M words
pub record Accepted (s m : List ℕ) : Type 0 where
  pub long : state_words ≤ length s
  pub passes : verdict (sheet_in s) ≡ 0
  pub whole : length m ≡ nodes (sheet_in s) * room s

-- one cycle of such words
pub record OneCycle (s m : List ℕ) : Type 0 where
  -- the words after it, read as registers, are one tick of the registers before it; all words of the memories are among them
  pub ticks : Agree (sheet_in s) (view (next_state s m) (next_memory s m)) (tick (sheet_in s) (view s m))
  -- number 20 stands in the words where it stands in the registers
  pub faults : faulty_in s ≡ faulty (sheet_in s) (view s m)
  -- words from which no register is read stay (a word beside an empty mark is read with it, and free): both lengths; the sheet, its
  -- length and all that lies behind them
  pub state_length : length (next_state s m) ≡ length s
  pub memory_length : length (next_memory s m) ≡ length m
  pub behind : drop moving_words (next_state s m) ≡ drop moving_words s
  -- and in the rows what lies behind the clock's registers, and each place for which the sheet has no node or circuit
  pub clock_rest : (k : ℕ) → clock_words ≤ k → k < row_words → reg (next_state s m) clock_row k ≡ reg s clock_row k
  pub router_rest : (row k : ℕ) → link_mark ≤ row → row ≤ out_word → nodes (sheet_in s) * ports ≤ k → k < row_words
      → reg (next_state s m) row k ≡ reg s row k
  pub node_rest : (row k : ℕ) → receive_mark ≤ row → row ≤ landing_word → nodes (sheet_in s) ≤ k → k < row_words
      → reg (next_state s m) row k ≡ reg s row k
  pub extra_rest : (row k : ℕ) → extra_mark ≤ row → row ≤ extra_word → nodes (sheet_in s) * ports ≤ k → k < row_words
      → reg (next_state s m) row k ≡ reg s row k
  -- also where an output's link has no extra register
  pub extra_none : (row k : ℕ) → extra_mark ≤ row → row ≤ extra_word → k < row_words → has_extra (sheet_in s) (k % ports) ≡ false
      → reg (next_state s m) row k ≡ reg s row k
  pub circuit_rest : (row k : ℕ) → left_row ≤ row → row ≤ to_go_row → circuits (sheet_in s) ≤ k → k < row_words
      → reg (next_state s m) row k ≡ reg s row k

pub record OneMachine : Type 0 where
  pub every_cycle : (s m : List ℕ) → Accepted s m → OneCycle s m

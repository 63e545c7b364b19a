-- What the code lends its parts, and how it cuts the listing into pages, each written by one call. Nobody has to believe this: the output
-- does not depend on it.
use Rattle.std.specs.Prelude.{ℕ, ◌+◌, ◌≤◌, ◌<◌, List, ◌≡◌, length, replicate}
use Rattle.sheet.specs.Sheet.{meant, nodes}
use Rattle.network.specs.Registers.{state_words}
use Rattle.session.specs.Calls.{Lent, lend, cycle, number}
use Rattle.landings.specs.Input.{sheet_of, memory_size, cycles_asked}
use Rattle.landings.specs.Messages.{Runs, input_message, message}
use Rattle.landings.specs.Lines.{cycles_on}
use Rattle.landings.specs.Output.{before_cycles}

-- the sheet, a state of zeros and room for the memories, lent for an input whose words are all there
pub record Lendable (bytes sheet s m : List ℕ) : Type 0 where
  pub runs : input_message bytes ≡ Runs
  pub own_sheet : sheet ≡ sheet_of bytes
  pub zeros : s ≡ replicate state_words 0
  pub enough : length m ≡ memory_size bytes

-- the words, nodes and cycles of an input that runs, before its first cycle
pub record ReadyToList (bytes s m : List ℕ) (count last : ℕ) : Type 0 where
  pub runs : message bytes ≡ Runs
  pub words : lend s m ≡ before_cycles bytes
  pub all_nodes : count ≡ nodes (meant (sheet_of bytes))
  pub all_cycles : last ≡ cycles_asked bytes

-- a page of so many cycles, of which none is refused; where it is not ended by the refusal of the next, it has at least one
pub record Paged (first last : ℕ) (w : Lent) (cycles refusal : ℕ) : Type 0 where
  pub in_time : first + cycles ≤ last
  pub is_carried_out : (j : ℕ) → j < cycles → number cycle (cycles_on j w) ≡ 0
  pub some : refusal ≡ 0 → first < last → 0 < cycles
  pub stopped : (refusal ≡ 0 → ⊥) → (first + cycles < last) × (refusal ≡ number cycle (cycles_on cycles w))

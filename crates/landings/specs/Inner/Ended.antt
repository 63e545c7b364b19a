-- The lent words at the end of the program, which no caller sees.
use Rattle.std.specs.Prelude.{◌≡◌, ℕ, ◌≤◌, List, length}
use Rattle.session.specs.Calls.{Lent}
use Rattle.landings.specs.Input.{cycles_asked}
use Rattle.landings.specs.Messages.{Message, TooLarge, InputEnds, Refused, Runs, calls, refusal_of, message}
use Rattle.landings.specs.Lines.{cycles_on, carried_out}
use Rattle.landings.specs.Output.{before_cycles, printout}

-- the message of the calls before the cycles
abbrev pub calls_message : List ℕ → Message
calls_message bytes = refusal_of (calls bytes).refusal

-- the cycles of an input that are carried out
abbrev pub cycles_listed : List ℕ → ℕ
cycles_listed bytes = carried_out (cycles_asked bytes) (before_cycles bytes)

-- how many cycles are carried out: none where a message is printed instead of the listing
abbrev pub cycles_run : Message → ℕ → ℕ
cycles_run TooLarge n = 0
cycles_run InputEnds n = 0
cycles_run (Refused number) n = 0
cycles_run Runs n = n

-- the lent words at the end of the program
unfoldable pub at_end : List ℕ → Lent
at_end bytes = cycles_on (cycles_run (message bytes) (cycles_listed bytes)) (before_cycles bytes)

-- where writing fails: the place that was reached lies within the output, and the lent words are those after some of its cycles
pub record Halted (bytes : List ℕ) (place : ℕ) (w : Lent) : Type 0 where
  pub within : place ≤ length (printout bytes)
  pub cycles : ℕ
  pub few : cycles ≤ cycles_listed bytes
  pub words : w ≡ cycles_on cycles (before_cycles bytes)

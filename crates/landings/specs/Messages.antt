-- The one line that `landings` prints instead of a listing, as a function of its input: the first of these that applies. `Runs` means that
-- the listing is printed.
use Rattle.std.specs.Prelude.{ℕ, zero, suc, ◌+◌, List, replicate, Result, Ok, Err}
use Rattle.words.specs.Tests.{◌<?◌, ◌=?◌}
use Rattle.words.specs.Words.{pick}
use Rattle.sheet.specs.Sheet.{sheet_words}
use Rattle.sheet.specs.Rules.{check_number}
use Rattle.octets.specs.Octets.{word_in}
use Rattle.network.specs.Registers.{state_words}
use Rattle.session.specs.Calls.{Lent, lend, lend_state, Call, load, start, number, after}
use Rattle.refusal.specs.Numbers.{refusal_number}
use Rattle.listing.specs.declared.complaint.Complaint.{Complaint}
use Rattle.listing.specs.declared.complaint.Complaint.TheVariants.{TooLarge as TooLargeComplaint, InputEnds as InputEndsComplaint, Refused as RefusedComplaint}
use Rattle.landings.specs.Input.{most_memory, most_transfers, most_cycles, ends, stated_length, sheet_of, memory_place, memory_size, memory_of}
use Rattle.landings.specs.Input.{transfers_place, transfers, transfer_place, cycles_place, cycles_asked}

-- the line to print instead of a listing, or that the listing is printed
pub data Message : Type 0 where
  TooLarge : Message
  InputEnds : Message
  Refused : ℕ → Message
  Runs : Message

-- the message that a complaint is, or that there is none
abbrev pub said : {A : Type 0} → Result A Complaint → Message
said (Ok x) = Runs
said (Err TooLargeComplaint) = TooLarge
said (Err InputEndsComplaint) = InputEnds
said (Err (RefusedComplaint e)) = Refused (refusal_number e)

unfoldable pub cycles_message : List ℕ → Message
cycles_message bytes = pick (ends bytes (cycles_place bytes + 1)) InputEnds (pick (most_cycles <? cycles_asked bytes) TooLarge Runs)

unfoldable pub transfers_message : List ℕ → Message
transfers_message bytes =
    pick (ends bytes (transfers_place bytes + 1)) InputEnds (pick (most_transfers <? transfers bytes) TooLarge (cycles_message bytes))

-- the memories' size is worked out before a word of them is read
unfoldable pub memory_message : List ℕ → Message
memory_message bytes = pick (most_memory <? memory_size bytes) TooLarge (transfers_message bytes)

-- the checker, at once and whatever follows the sheet
unfoldable pub checked_message : List ℕ → Message
checked_message bytes = pick (check_number (sheet_of bytes) =? 0) (memory_message bytes) (Refused (check_number (sheet_of bytes)))

unfoldable pub input_message : List ℕ → Message
input_message bytes =
    pick (ends bytes 1) InputEnds
    (pick (sheet_words <? stated_length bytes) TooLarge
    (pick (ends bytes (memory_place bytes)) InputEnds (checked_message bytes)))

-- the calls before the cycles, up to the first refusal: its number, or 0, and the state afterwards
pub record Called : Type 0 where
  pub refusal : ℕ
  pub state : List ℕ

-- what a call upon lent words gives of both
abbrev pub called : Call → Lent → Called
called x w = record { refusal = number x w; state = (after x w).state }

-- the start whose five words stand at a place
unfoldable pub start_at : List ℕ → ℕ → Call
start_at bytes at =
    start (word_in bytes at) (word_in bytes (at + 1)) (word_in bytes (at + 2)) (word_in bytes (at + 3)) (word_in bytes (at + 4))

-- the first k starts
unfoldable pub starts_on : List ℕ → List ℕ → ℕ → Called
starts_on bytes s zero = record { refusal = 0; state = s }
starts_on bytes s (suc k) =
    pick ((starts_on bytes s k).refusal =? 0)
    (called (start_at bytes (transfer_place bytes k)) (lend_state (starts_on bytes s k).state))
    (starts_on bytes s k)

-- the load, and all starts where it is carried out
unfoldable pub calls_on : List ℕ → List ℕ → List ℕ → Called
calls_on bytes s m =
    pick (number (load (sheet_of bytes)) (lend s m) =? 0)
    (starts_on bytes (after (load (sheet_of bytes)) (lend s m)).state (transfers bytes))
    (called (load (sheet_of bytes)) (lend s m))

-- the calls upon a state of zeros and the memories of the input
unfoldable pub calls : List ℕ → Called
calls bytes = calls_on bytes (replicate state_words 0) (memory_of bytes)

abbrev pub refusal_of : ℕ → Message
refusal_of zero = Runs
refusal_of (suc n) = Refused (suc n)

abbrev pub behind : Message → Message → Message
behind TooLarge later = TooLarge
behind InputEnds later = InputEnds
behind (Refused n) later = Refused n
behind Runs later = later

-- the message of an input
unfoldable pub message : List ℕ → Message
message bytes = behind (input_message bytes) (refusal_of (calls bytes).refusal)

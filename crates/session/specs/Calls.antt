-- The calls of a session on any lent words: the number that each answers (document 01, "Refusals, in checking order"), its value, and the
-- words afterwards.
use Rattle.std.specs.Prelude.{◌≡◌, ℕ, ◌+◌, ◌-◌, ◌*◌, ◌%◌, ◌<◌, Bool, true, false, not, List, [], ◌∷◌, ◌++◌, map, length, take, drop, slice_index, slice_index_or, slice_set}
use Rattle.words.specs.Tests.{◌and◌, ◌or◌, ◌≤?◌, ◌<?◌, ◌=?◌}
use Rattle.words.specs.Words.{word, pick, tab}
use Rattle.words.specs.Numbers.{unless, ◌then◌}
use Rattle.packet.specs.Header.{data_kind}
use Rattle.sheet.specs.Sheet.{meant, memory_words, circuits, schedules, nodes, circuit_at}
use Rattle.sheet.specs.Rules.{first_broken, check_rules}
use Rattle.network.specs.View.{Landing}
use Rattle.network.specs.Registers.{reg, put, sheet_in, room, moving_words, state_words, clock_row, number_place, order_mark_place, order_schedule_place}
use Rattle.network.specs.Registers.{order_period_place, landing_mark, landing_kind, landing_address, landing_word, left_row, read_row, write_row, kind_row}
use Rattle.network.specs.Inner.Machine.{next_state, next_memory}
use Rattle.network.specs.OneMachine.{cycle_fault}
use Rattle.network.specs.Seen.{seen_landing}
use Rattle.network.specs.Inbound.{is_inbound}
use Rattle.soundness.specs.Sound.{sound, kind_travels, lies_in}
use Rattle.session.specs.declared.Transfer.{Transfer}

-- 12 and 13, which every call but load tests first; with 14 where memory is lent
unfoldable pub state_number : List ℕ → ℕ
state_number s = unless 12 (state_words ≤? length s) then unless 13 (sound s)

unfoldable pub memory_number : List ℕ → List ℕ → ℕ
memory_number s m = state_number s then unless 14 (length m =? nodes (sheet_in s) * room s)

-- load: 1 to 11, 26, 12 and 14, of a sheet's words as they stand
unfoldable pub load_words_number : List ℕ → List ℕ → List ℕ → ℕ
load_words_number z s m =
    first_broken check_rules z then unless 12 (state_words ≤? length s) then unless 14 (length m =? nodes z * memory_words z)

-- and of the words that are handed over
abbrev pub load_number : List ℕ → List ℕ → List ℕ → ℕ
load_number z s m = load_words_number (meant z) s m

-- start: the circuit, both addresses and the kind exist (15); the count and the regions fit (16); the circuit is not busy (17)
unfoldable pub start_named : List ℕ → ℕ → ℕ → ℕ → ℕ → Bool
start_named s circuit read_address write_address kind =
    circuit <? circuits (sheet_in s) and read_address <? room s and write_address <? room s and kind_travels kind

unfoldable pub start_fits : List ℕ → ℕ → ℕ → ℕ → ℕ → ℕ → Bool
start_fits s circuit read_address write_address count kind =
    1 ≤? count
    and (kind =? data_kind or count =? 1)
    and lies_in (circuit_at (sheet_in s) circuit).read read_address count
    and lies_in (circuit_at (sheet_in s) circuit).receive write_address count

-- document 02, L3: a circuit is busy until its last word has landed; the words not yet sent are left, those sent and not landed are on
-- their way
unfoldable pub is_busy : List ℕ → ℕ → Bool
is_busy s circuit = 1 ≤? reg s left_row circuit or is_inbound s circuit

unfoldable pub start_number : List ℕ → ℕ → ℕ → ℕ → ℕ → ℕ → ℕ
start_number s circuit read_address write_address count kind =
    state_number s
    then unless 15 (start_named s circuit read_address write_address kind)
    then unless 16 (start_fits s circuit read_address write_address count kind)
    then unless 17 (not (is_busy s circuit))

-- a transfer of a list: the number that a single start of it answers
abbrev pub transfer_number : List ℕ → Transfer → ℕ
transfer_number s t = start_number s t.circuit t.read t.write t.count t.kind

-- a list of transfers: at most 64, and an answer word for each (21)
unfoldable pub start_all_number : List ℕ → ℕ → ℕ → ℕ
start_all_number s transfers answer_words = state_number s then unless 21 (transfers ≤? 64 and transfers ≤? answer_words)

-- store and fetch: the node and the address exist (15)
unfoldable pub place_number : List ℕ → List ℕ → ℕ → ℕ → ℕ
place_number s m node address = memory_number s m then unless 15 (node <? nodes (sheet_in s) and address <? room s)

-- words left, and what landed: the circuit, or the node, exists (15)
unfoldable pub left_number : List ℕ → ℕ → ℕ
left_number s circuit = state_number s then unless 15 (circuit <? circuits (sheet_in s))

unfoldable pub landed_number : List ℕ → ℕ → ℕ
landed_number s node = state_number s then unless 15 (node <? nodes (sheet_in s))

-- order: the schedule exists (15), none is pending (18), and the period is 3 to 2^31 − 1 ahead, modulo 2^32 (19)
unfoldable pub is_pending : List ℕ → Bool
is_pending s = 1 ≤? reg s clock_row order_mark_place

unfoldable pub ahead : List ℕ → ℕ → ℕ
ahead s period = (period + 4294967296 - reg s clock_row number_place) % 4294967296

unfoldable pub order_number : List ℕ → ℕ → ℕ → ℕ
order_number s schedule period =
    state_number s
    then unless 15 (schedule <? schedules (sheet_in s))
    then unless 18 (not (is_pending s))
    then unless 19 (3 ≤? ahead s period and ahead s period <? 2147483648)

-- cycle: no fault (20)
unfoldable pub cycle_number : List ℕ → List ℕ → ℕ
cycle_number s m = memory_number s m then cycle_fault s

-- the state after a load: every moving word is 0, then the sheet with its length; what lies behind stays
unfoldable pub loaded : List ℕ → List ℕ → List ℕ
loaded z s = tab moving_words (λ k. 0) ++ ((length z ∷ z) ++ drop (moving_words + 1 + length z) s)

unfoldable pub started : List ℕ → ℕ → ℕ → ℕ → ℕ → ℕ → List ℕ
started s circuit read_address write_address count kind =
    put (put (put (put s left_row circuit count) read_row circuit read_address) write_row circuit write_address) kind_row circuit kind

-- a transfer of a list: the state after a single start of it that is carried out, and after one that may be refused
abbrev pub started_by : List ℕ → Transfer → List ℕ
started_by s t = started s t.circuit t.read t.write t.count t.kind

unfoldable pub started_next : List ℕ → Transfer → List ℕ
started_next s t = pick (transfer_number s t =? 0) (started_by s t) s

-- a list of transfers, each on the state that those before it left: the state after all, an answer to each, and those that are carried out
unfoldable pub started_all : List ℕ → List Transfer → List ℕ
started_all s [] = s
started_all s (t ∷ ts) = started_all (started_next s t) ts

unfoldable pub answers_all : List ℕ → List Transfer → List ℕ
answers_all s [] = []
answers_all s (t ∷ ts) = transfer_number s t ∷ answers_all (started_next s t) ts

unfoldable pub carried_out : List ℕ → List Transfer → List Transfer
carried_out s [] = []
carried_out s (t ∷ ts) = pick (transfer_number s t =? 0) (t ∷ []) [] ++ carried_out (started_next s t) ts

-- the answer words after a list of transfers: those behind the list stay, and all where it is refused
unfoldable pub answers_after : List ℕ → List Transfer → List ℕ → List ℕ
answers_after s ts answers =
    pick (start_all_number s (length ts) (length answers) =? 0) (answers_all s ts ++ drop (length ts) answers) answers

unfoldable pub ordered : List ℕ → ℕ → ℕ → List ℕ
ordered s schedule period =
    put (put (put s clock_row order_mark_place 1) clock_row order_schedule_place schedule) clock_row order_period_place period

unfoldable pub stored : List ℕ → List ℕ → ℕ → ℕ → ℕ → List ℕ
stored s m node address w = slice_set m (node * room s + address) w

-- the values of fetch, words left, the period number and what landed
unfoldable pub fetched : List ℕ → List ℕ → ℕ → ℕ → ℕ
fetched s m node address = word m (node * room s + address)

unfoldable pub words_left : List ℕ → ℕ → ℕ
words_left s circuit = reg s left_row circuit

unfoldable pub period_number_in : List ℕ → ℕ
period_number_in s = reg s clock_row number_place

unfoldable pub last_landing : List ℕ → ℕ → Landing
last_landing s node =
    seen_landing (reg s landing_mark node) (reg s landing_kind node) (reg s landing_address node) (reg s landing_word node)

-- what is lent to a session's calls; those that are lent the state alone do not depend on a memory (proofs/AloneLaws)
pub record Lent : Type 0 where
  pub state : List ℕ
  pub memory : List ℕ

abbrev pub lend : List ℕ → List ℕ → Lent
lend s m = record { state = s; memory = m }

abbrev pub lend_state : List ℕ → Lent
lend_state s = lend s []

-- a call that only asks: the word at a node's address, words left of a circuit, the period number, what landed at a node
pub data Question : Type 0 where
  fetch : ℕ → ℕ → Question
  left : ℕ → Question
  period_number : Question
  what_landed : ℕ → Question

-- the number that a question answers
abbrev pub question_number : Question → Lent → ℕ
question_number (fetch node address) w = place_number w.state w.memory node address
question_number (left circuit) w = left_number w.state circuit
question_number period_number w = state_number w.state
question_number (what_landed node) w = landed_number w.state node

pub data Call : Type 0 where
  load : List ℕ → Call
  start : ℕ → ℕ → ℕ → ℕ → ℕ → Call
  -- a list of transfers, and how many answer words are lent
  start_all : List Transfer → ℕ → Call
  store : ℕ → ℕ → ℕ → Call
  order : ℕ → ℕ → Call
  cycle : Call
  ask : Question → Call

-- a load gives the session another sheet; no other call does
abbrev pub is_load : Call → Bool
is_load (load z) = true
is_load (start circuit read_address write_address count kind) = false
is_load (start_all ts answer_words) = false
is_load (store node address new) = false
is_load (order schedule period) = false
is_load cycle = false
is_load (ask question) = false

-- the number that a call answers: 0 where it is carried out
abbrev pub number : Call → Lent → ℕ
number (load z) w = load_number z w.state w.memory
number (start circuit read_address write_address count kind) w = start_number w.state circuit read_address write_address count kind
number (start_all ts answer_words) w = start_all_number w.state (length ts) answer_words
number (store node address new) w = place_number w.state w.memory node address
number (order schedule period) w = order_number w.state schedule period
number cycle w = cycle_number w.state w.memory
number (ask question) w = question_number question w

-- the lent words after a call that is carried out
abbrev pub does : Call → Lent → Lent
does (load z) w = record { state = loaded (meant z) w.state; memory = w.memory }
does (start circuit read_address write_address count kind) w =
    record { state = started w.state circuit read_address write_address count kind; memory = w.memory }
does (start_all ts answer_words) w = record { state = started_all w.state ts; memory = w.memory }
does (store node address new) w = record { state = w.state; memory = stored w.state w.memory node address new }
does (order schedule period) w = record { state = ordered w.state schedule period; memory = w.memory }
does cycle w = record { state = next_state w.state w.memory; memory = next_memory w.state w.memory }
does (ask question) w = w

-- the lent words after a call: a refusal changes nothing
unfoldable pub after : Call → Lent → Lent
after x w = pick (number x w =? 0) (does x w) w

-- the lent words after some calls
abbrev pub after_all : List Call → Lent → Lent
after_all [] w = w
after_all (x ∷ calls) w = after_all calls (after x w)

-- a transfer of a list as the single start that it stands for
abbrev pub as_start : Transfer → Call
as_start t = start t.circuit t.read t.write t.count t.kind

-- document 02, L1: a list that is taken is its single starts, one after another
pub record AsSingles : Type 0 where
  -- it leaves what they leave
  pub words : (ts : List Transfer) (answer_words : ℕ) (w : Lent) → number (start_all ts answer_words) w ≡ 0
      → after (start_all ts answer_words) w ≡ after_all (map as_start ts) w
  -- and answers each as that start answers; there are as many answers as transfers
  pub answers : (ts : List Transfer) (w : Lent) (i : ℕ) → i < length ts
      → slice_index (answers_all w.state ts) i ≡ number (slice_index_or (map as_start ts) i cycle) (after_all (take i (map as_start ts)) w)
  pub as_many : (ts : List Transfer) (s : List ℕ) → length (answers_all s ts) ≡ length ts
  -- so that one which passes 15 and 16 gets 17 when an earlier one started its circuit, whatever stands between the two
  pub busy : (ts us : List Transfer) (t u : Transfer) (s : List ℕ) → transfer_number (started_all s ts) t ≡ 0 → u.circuit ≡ t.circuit
      → start_named s u.circuit u.read u.write u.kind ≡ true
      → start_fits s u.circuit u.read u.write u.count u.kind ≡ true
      → transfer_number (started_all s (ts ++ (t ∷ us))) u ≡ 17

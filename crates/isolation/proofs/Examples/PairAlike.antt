-- Two sessions on one grid that differ in all that demand 3 leaves free, and are alike for a circuit: what they differ in is the sheet, the
-- memory's size, the circuit's number and routes, schedules' numbers and orders, other circuits' transfers, other stores, questions and
-- refused calls.
-- Assumes nothing.
use Prim.Native.Nat.{ℕ, zero, suc, ◌+◌, ◌-◌, ◌*◌, ◌≤◌, ◌<◌}
use mathlib.Core.Bool.{Bool, true, false}
use mathlib.Core.List.{List, [], ◌∷◌, ◌++◌, flat_map}
use mathlib.Core.Path.{◌≡◌, refl, sym, ◌∙◌, ap}
use native.Mathlib.Omega.{arith}
use lib.ListN.{length, take, replicate, get_or}
use Rattle.words.specs.Words.{least_from, last_of, pick, word}
use Rattle.words.specs.Numbers.{unless, ◌then◌}
use Rattle.words.specs.Tests.{all, any, between, ◌and◌, ◌or◌, ◌≤?◌, ◌<?◌, ◌=?◌, ◌≠?◌}
use Rattle.torus.specs.Torus.{neighbour_of, walks, distance_of, is_vertical}
use Rattle.torus.specs.Route.{output_of, follow, route_from, link_cycles, hop_cycles}
use Rattle.sheet.specs.declared.circuits.Circuit.{Circuit}
use Rattle.sheet.specs.Sheet.{meant, rows, is_long, memory_words, nodes, schedule_place, circuit_at, period, entries_of, entry_at}
use Rattle.sheet.specs.Slots.{begins_at, entry_beginning, slot_length, source_of, destination_of}
use Rattle.sheet.specs.Wires.{same_wire, same, during, occupied, member, meet}
use Rattle.sheet.specs.Rules.{rule1, rule2, schedule_fits, rule3, first_broken, check_rules}
use Rattle.sheet.specs.Rules.{region_fits, circuit_fits, rule4, precedes, circuit_precedes, rule5, apart, receive_apart, rule6}
use Rattle.sheet.specs.Rules.{each_entry, entry_fits, rule7_at, rule7, entry_precedes, rule8_at, rule8}
use Rattle.sheet.specs.Rules.{entry_route, entry_leads, rule9, entry_ends, rule10, entry_occupied, rule11_at, rule11, serves, is_served, rule26}
use Rattle.network.specs.Registers.{state_words}
use Rattle.soundness.specs.Sound.{kind_travels, lies_in}
use Rattle.session.specs.Answers.{found_of, fetch_answer}
use Rattle.session.specs.declared.Transfer.{Transfer}
use Rattle.session.specs.Calls.{Call, load, start, start_all, answers_all, store, fetch, left, period_number, what_landed, order, cycle, ask}
use Rattle.sheet.proofs.MeantLaws.{itself}
use Rattle.isolation.specs.Sessions.{Session, after_load, standing, Event, store_done, order_done, cycle_done}
use Rattle.isolation.specs.Calendar.{calendar_after, cycles_done, schedule_in}
use Rattle.isolation.specs.Reckoning.{reckoned_landing, leaves_in}
use Rattle.isolation.specs.Demand.{in_region, its_record, under_way, Alike}
use Rattle.isolation.proofs.Reckoning.Regions.{in_high}
use Rattle.isolation.proofs.Reckoning.Points.{up_to, events_of}
use Rattle.isolation.proofs.Reckoning.EventsDecided.{decided, events_decided, list_answers, list_here}
use Rattle.isolation.proofs.Reckoning.Reckons.{as_reckoned}
use Rattle.isolation.proofs.Reckoning.Alike.{acts_in, acts_are}
use Rattle.isolation.proofs.Reckoning.Undisturbed.{schedule_before}
use Rattle.isolation.proofs.Examples.Witness.{bad_loads, bad_loads_refused, load_zero, start_event, events_are, cycles_by, table, table_at}
use Rattle.sheet.specs.Flight.{vertical_of}

-- the first sheet: 8 memory words a node, and one circuit, 0, from node 0 to node 1; its slots go by route 13 (east), at offset 0 for two
-- words in schedule 0 of period 10, at offset 2 for one word in schedule 1 of period 12
abbrev pub one_sheet : List ℕ
one_sheet =
    (2 ∷ 2 ∷ 8 ∷ 1 ∷ 2 ∷ []) ++ (0 ∷ 1 ∷ 0 ∷ 4 ∷ 0 ∷ 4 ∷ [])
    ++ (10 ∷ 1 ∷ []) ++ (0 ∷ 3 ∷ 0 ∷ 13 ∷ [])
    ++ (12 ∷ 1 ∷ []) ++ (2 ∷ 2 ∷ 0 ∷ 13 ∷ [])

-- the other: 9 memory words a node, a circuit 0 from node 3 to node 0, and that circuit as number 1; its slots go by route 7 (west) in
-- schedule 0 and by route 13 in schedule 2, which has the lengths and slots of the first sheet's schedule 1
abbrev pub other_sheet : List ℕ
other_sheet =
    (2 ∷ 2 ∷ 9 ∷ 2 ∷ 3 ∷ []) ++ (3 ∷ 0 ∷ 0 ∷ 4 ∷ 4 ∷ 2 ∷ []) ++ (0 ∷ 1 ∷ 0 ∷ 4 ∷ 0 ∷ 4 ∷ [])
    ++ (10 ∷ 2 ∷ []) ++ (0 ∷ 3 ∷ 0 ∷ 28 ∷ []) ++ (0 ∷ 3 ∷ 1 ∷ 7 ∷ [])
    ++ (11 ∷ 0 ∷ [])
    ++ (12 ∷ 2 ∷ []) ++ (1 ∷ 3 ∷ 0 ∷ 28 ∷ []) ++ (2 ∷ 2 ∷ 1 ∷ 13 ∷ [])

-- both sheets pass
abbrev pass_table : List ℕ
pass_table = first_broken check_rules one_sheet ∷ first_broken check_rules other_sheet ∷ []

pub sheets_pass : pass_table ≡ 0 ∷ 0 ∷ []
unfolding first_broken
    rule1 rule2 schedule_fits rule3
    region_fits circuit_fits rule4 precedes circuit_precedes rule5 apart receive_apart rule6
    each_entry entry_fits rule7_at rule7 entry_precedes rule8_at rule8
    entry_route entry_leads rule9 entry_ends rule10 entry_occupied rule11_at rule11
    serves is_served rule26
    rows is_long schedule_place circuit_at entries_of entry_at
    same_wire same during occupied member meet
    neighbour_of walks distance_of output_of is_vertical link_cycles hop_cycles follow route_from
    least_from all any between ◌and◌ ◌or◌ ◌≤?◌ ◌<?◌ ◌=?◌ ◌≠?◌
sheets_pass = refl

-- the memories: the same in the first four words of nodes 0 and 1, and different elsewhere
abbrev pub one_memory : List ℕ
one_memory = 11 ∷ 22 ∷ 33 ∷ 44 ∷ replicate 28 0

abbrev pub other_memory : List ℕ
other_memory = 11 ∷ 22 ∷ 33 ∷ 44 ∷ replicate 5 7 ++ (replicate 4 0 ++ replicate 23 5)

-- the first session's calls, 40 cycles among them: four words are started; after three cycles schedule 1 is ordered for period 3, two
-- stores go into the read region, and a load is refused; after eight a start is refused (the circuit is busy), and a store goes into the
-- receive region; after 25 an interrupt is started
abbrev pub one_calls : List Call
one_calls =
    (start 0 0 0 4 0 ∷ replicate 3 cycle)
    ++ (order 1 3 ∷ store 0 3 76 ∷ store 0 3 77 ∷ load (2 ∷ 2 ∷ 1 ∷ 0 ∷ []) ∷ replicate 5 cycle)
    ++ (start 0 0 0 1 0 ∷ store 1 3 55 ∷ replicate 17 cycle)
    ++ (start 0 1 2 1 2 ∷ replicate 15 cycle)

-- a list of transfers: one on each circuit of the other sheet, and a second one on circuit 1, which an earlier one of the list has started
abbrev pub both_started : List Transfer
both_started =
    record { circuit = 0; read = 0; write = 4; count = 2; kind = 0 }
    ∷ record { circuit = 1; read = 0; write = 0; count = 4; kind = 0 }
    ∷ record { circuit = 1; read = 1; write = 1; count = 1; kind = 0 }
    ∷ []

-- the other's: the same starts and stores on circuit 1, each after as many cycles, the first by the list; between them transfers of circuit
-- 0, stores elsewhere, questions, another load and another start that are refused, and schedule 2 ordered for period 3 after nine cycles
abbrev pub other_calls : List Call
other_calls =
    (store 3 5 99 ∷ start_all both_started 3 ∷ ask (fetch 0 5) ∷ replicate 3 cycle)
    ++ (store 0 3 76 ∷ ask (what_landed 0) ∷ store 0 3 77 ∷ replicate 5 cycle)
    ++ (store 1 3 55 ∷ store 0 6 12 ∷ load (2 ∷ []) ∷ start 7 0 0 1 0 ∷ ask (left 1) ∷ cycle ∷ [])
    ++ (order 2 3 ∷ ask period_number ∷ replicate 16 cycle)
    ++ (start 1 1 2 1 2 ∷ start 0 0 4 1 2 ∷ replicate 15 cycle)

-- the loads among them are refused: their sheets have fewer than five words
pub loads_bad : (bad_loads one_calls ∷ bad_loads other_calls ∷ []) ≡ true ∷ true ∷ []
unfolding meant first_broken rule1 ◌≤?◌ ◌=?◌
loads_bad = refl

-- the memories have the sheets' lengths, and the grids as many rows
pub one_whole : length one_memory ≡ nodes one_sheet * memory_words one_sheet
unfolding rows is_long ◌≤?◌
one_whole = refl

pub other_whole : length other_memory ≡ nodes other_sheet * memory_words other_sheet
unfolding rows is_long ◌≤?◌
other_whole = refl

rows_alike : rows one_sheet ≡ rows other_sheet
unfolding rows is_long ◌≤?◌
rows_alike = refl

kind_alike : is_long one_sheet ≡ is_long other_sheet
unfolding is_long ◌≤?◌
kind_alike = refl

-- both sessions, on any lent state
abbrev pub one_on : (s : List ℕ) → state_words ≤ length s → Session
one_on s long = record {
  lent = record { state = s; memory = one_memory };
  given = one_sheet;
  sheet = one_sheet;
  sheet_is = itself _ _;
  calls = one_calls;
  is_carried_out = load_zero one_sheet one_sheet s one_memory (itself _ _) (ap (λ (l : List ℕ). word l 0) sheets_pass) long one_whole;
  loads_refused = bad_loads_refused one_calls _ (ap (λ (l : List Bool). get_or l 0 false) loads_bad);
}

abbrev pub other_on : (s : List ℕ) → state_words ≤ length s → Session
other_on s long = record {
  lent = record { state = s; memory = other_memory };
  given = other_sheet;
  sheet = other_sheet;
  sheet_is = itself _ _;
  calls = other_calls;
  is_carried_out = load_zero other_sheet other_sheet s other_memory (itself _ _) (ap (λ (l : List ℕ). word l 1) sheets_pass) long other_whole;
  loads_refused = bad_loads_refused other_calls _ (ap (λ (l : List Bool). get_or l 1 false) loads_bad);
}

-- the events of both: the refused calls and the questions have none
abbrev pub one_events : List Event
one_events =
    (start_event 0 0 0 4 0 ∷ replicate 3 cycle_done)
    ++ (order_done 1 3 ∷ store_done 0 3 76 ∷ store_done 0 3 77 ∷ replicate 5 cycle_done)
    ++ (store_done 1 3 55 ∷ replicate 17 cycle_done)
    ++ (start_event 0 1 2 1 2 ∷ replicate 15 cycle_done)

abbrev pub other_events : List Event
other_events =
    (store_done 3 5 99 ∷ start_event 0 0 4 2 0 ∷ start_event 1 0 0 4 0 ∷ replicate 3 cycle_done)
    ++ (store_done 0 3 76 ∷ store_done 0 3 77 ∷ replicate 5 cycle_done)
    ++ (store_done 1 3 55 ∷ store_done 0 6 12 ∷ cycle_done ∷ [])
    ++ (order_done 2 3 ∷ replicate 16 cycle_done)
    ++ (start_event 1 1 2 1 2 ∷ start_event 0 0 4 1 2 ∷ replicate 15 cycle_done)

one_decided : decided one_sheet one_memory one_calls [] ≡ one_events
unfolding rows is_long vertical_of reckoned_landing leaves_in slot_length entry_beginning begins_at schedule_place circuit_at entries_of entry_at last_of any ◌and◌ ◌or◌ ◌≤?◌ ◌<?◌ ◌=?◌
    kind_travels lies_in unless ◌then◌ under_way distance_of least_from walks neighbour_of
one_decided = refl

other_decided : decided other_sheet other_memory other_calls [] ≡ other_events
unfolding rows is_long vertical_of reckoned_landing leaves_in slot_length entry_beginning begins_at schedule_place circuit_at entries_of entry_at last_of any ◌and◌ ◌or◌ ◌≤?◌ ◌<?◌ ◌=?◌
    kind_travels lies_in unless ◌then◌ under_way distance_of least_from walks neighbour_of
other_decided = refl

first_decided : decided other_sheet other_memory (take 1 other_calls) [] ≡ store_done 3 5 99 ∷ []
unfolding rows is_long ◌and◌ ◌<?◌ ◌≤?◌
first_decided = refl

-- in the list the third transfer is refused with 17
list_decided : list_answers other_sheet other_memory both_started (store_done 3 5 99 ∷ []) ≡ 0 ∷ 0 ∷ 17 ∷ []
unfolding rows is_long vertical_of schedule_place circuit_at any ◌and◌ ◌or◌ ◌≤?◌ ◌<?◌ ◌=?◌ kind_travels lies_in unless ◌then◌ under_way
list_decided = refl

pub one_events_is : (s : List ℕ) (long : state_words ≤ length s) → events_of (one_on s long) ≡ one_events
one_events_is s long = events_are (one_on s long) ∙ one_decided

pub other_events_is : (s : List ℕ) (long : state_words ≤ length s) → events_of (other_on s long) ≡ other_events
other_events_is s long = events_are (other_on s long) ∙ other_decided

pub list_answers_is : (s : List ℕ) (long : state_words ≤ length s) → answers_all (standing (other_on s long) 1).state both_started ≡ 0 ∷ 0 ∷ 17 ∷ []
list_answers_is s long =
    (list_here (other_on s long) 1 both_started).answers
    ∙ ap (list_answers other_sheet other_memory both_started) (events_decided (other_on s long) 1 (omega arith) ∙ first_decided)
    ∙ list_decided

-- both carry out 40 cycles
pub one_cycles : (s : List ℕ) (long : state_words ≤ length s) → cycles_done (one_on s long) (length one_calls) ≡ 40
one_cycles s long = cycles_by (one_on s long) one_events (one_events_is s long)

pub other_cycles : (s : List ℕ) (long : state_words ≤ length s) → cycles_done (other_on s long) (length other_calls) ≡ 40
other_cycles s long = cycles_by (other_on s long) other_events (other_events_is s long)

-- the schedules in force: 0 in both up to cycle 29, then 1 in the first session and 2 in the other
abbrev schedules_in : ℕ → List ℕ
schedules_in t = (calendar_after one_sheet (up_to one_events t)).schedule ∷ (calendar_after other_sheet (up_to other_events t)).schedule ∷ []

abbrev schedules_wanted : ℕ → List ℕ
schedules_wanted t = pick (t <? 30) (0 ∷ 0 ∷ []) (1 ∷ 2 ∷ [])

schedules_are : table 40 schedules_in ≡ table 40 schedules_wanted
unfolding schedule_place ◌and◌ ◌<?◌ ◌=?◌
schedules_are = refl

pub one_schedule : (s : List ℕ) (long : state_words ≤ length s) (t : ℕ) → t < 40 → schedule_in (one_on s long) t ≡ pick (t <? 30) 0 1
one_schedule s long t l =
    schedule_before (one_on s long) t (omega (arith, one_cycles s long))
    ∙ ap (λ (es : List Event). (calendar_after one_sheet (up_to es t)).schedule) (one_events_is s long)
    ∙ ap (λ (p : List ℕ). word p 0) (table_at 40 schedules_in schedules_wanted schedules_are t l)
    ∙ go (t <? 30)
  where
    go : (b : Bool) → word (pick b (0 ∷ 0 ∷ []) (1 ∷ 2 ∷ [])) 0 ≡ pick b 0 1
    go true = refl
    go false = refl

pub other_schedule : (s : List ℕ) (long : state_words ≤ length s) (t : ℕ) → t < 40 → schedule_in (other_on s long) t ≡ pick (t <? 30) 0 2
other_schedule s long t l =
    schedule_before (other_on s long) t (omega (arith, other_cycles s long))
    ∙ ap (λ (es : List Event). (calendar_after other_sheet (up_to es t)).schedule) (other_events_is s long)
    ∙ ap (λ (p : List ℕ). word p 1) (table_at 40 schedules_in schedules_wanted schedules_are t l)
    ∙ go (t <? 30)
  where
    go : (b : Bool) → word (pick b (0 ∷ 0 ∷ []) (1 ∷ 2 ∷ [])) 1 ≡ pick b 0 2
    go true = refl
    go false = refl

-- the circuit's slots in these schedules
one_first : (offset : ℕ) → slot_length one_sheet 0 offset 0 ≡ pick (0 =? offset) 3 0
unfolding slot_length entry_beginning begins_at last_of entries_of entry_at schedule_place ◌and◌ ◌=?◌
one_first offset = go (0 =? offset)
  where
    go : (b : Bool) → (let i : ℕ = pick (b and true) 1 0 in pick (i =? 0) 0 (entry_at (entries_of one_sheet 0) (i - 1)).size) ≡ pick b 3 0
    go true = refl
    go false = refl

one_second : (offset : ℕ) → slot_length one_sheet 1 offset 0 ≡ pick (2 =? offset) 2 0
unfolding slot_length entry_beginning begins_at last_of entries_of entry_at schedule_place ◌and◌ ◌=?◌
one_second offset = go (2 =? offset)
  where
    go : (b : Bool) → (let i : ℕ = pick (b and true) 1 0 in pick (i =? 0) 0 (entry_at (entries_of one_sheet 1) (i - 1)).size) ≡ pick b 2 0
    go true = refl
    go false = refl

other_first : (offset : ℕ) → slot_length other_sheet 0 offset 1 ≡ pick (0 =? offset) 3 0
unfolding slot_length entry_beginning begins_at last_of entries_of entry_at schedule_place ◌and◌ ◌=?◌
other_first offset = go (0 =? offset)
  where
    go : (b : Bool) → (let i : ℕ = pick (b and true) 2 (pick (b and false) 1 0) in
        pick (i =? 0) 0 (entry_at (entries_of other_sheet 0) (i - 1)).size) ≡ pick b 3 0
    go true = refl
    go false = refl

other_third : (offset : ℕ) → slot_length other_sheet 2 offset 1 ≡ pick (2 =? offset) 2 0
unfolding slot_length entry_beginning begins_at last_of entries_of entry_at schedule_place ◌and◌ ◌=?◌
other_third offset = go (1 =? offset) (2 =? offset)
  where
    go : (a b : Bool) → (let i : ℕ = pick (b and true) 2 (pick (a and false) 1 0) in
        pick (i =? 0) 0 (entry_at (entries_of other_sheet 2) (i - 1)).size) ≡ pick b 2 0
    go true true = refl
    go true false = refl
    go false true = refl
    go false false = refl

slots_alike : (b : Bool) (offset : ℕ) → slot_length one_sheet (pick b 0 1) offset 0 ≡ slot_length other_sheet (pick b 0 2) offset 1
slots_alike true offset = one_first offset ∙ sym (other_first offset)
slots_alike false offset = one_second offset ∙ sym (other_third offset)

lengths_alike : (b : Bool) → period one_sheet (pick b 0 1) ≡ period other_sheet (pick b 0 2)
unfolding schedule_place
lengths_alike true = refl
lengths_alike false = refl

-- the words of both memories in the circuit's regions
read_words : (address : ℕ) → address < 4 → word one_memory (0 + address) ≡ word other_memory (0 + address)
read_words zero l = refl
read_words (suc zero) l = refl
read_words (suc (suc zero)) l = refl
read_words (suc (suc (suc zero))) l = refl
read_words (suc (suc (suc (suc address)))) l = absurd (let z : ⊥ = omega arith in z)

receive_words : (address : ℕ) → address < 4 → word one_memory (8 + address) ≡ word other_memory (9 + address)
receive_words zero l = refl
receive_words (suc zero) l = refl
receive_words (suc (suc zero)) l = refl
receive_words (suc (suc (suc zero))) l = refl
receive_words (suc (suc (suc (suc address)))) l = absurd (let z : ⊥ = omega arith in z)

-- the circuit's acts in both, after each number of cycles
acts_alike : table 40 (acts_in one_sheet 0 one_events) ≡ table 40 (acts_in other_sheet 1 other_events)
unfolding flat_map circuit_at ◌and◌ ◌≤?◌ ◌<?◌ ◌=?◌
acts_alike = refl

-- its record in both
abbrev its_words : Circuit
its_words = record {
  read = record { node = 0; offset = 0; size = 4 };
  receive = record { node = 1; offset = 0; size = 4 };
}

record_one : circuit_at one_sheet 0 ≡ its_words
unfolding circuit_at
record_one = refl

record_other : circuit_at other_sheet 1 ≡ its_words
unfolding circuit_at
record_other = refl

module _ (s s' : List ℕ) (long : state_words ≤ length s) (long' : state_words ≤ length s') where
  abbrev first : Session
  first = one_on s long

  abbrev second : Session
  second = other_on s' long'

  -- its regions' words at load are the same
  alike_read : (address : ℕ) → in_region (its_record first 0).read address ≡ true
      → fetch_answer (after_load first) (source_of one_sheet 0) address ≡ fetch_answer (after_load second) (source_of other_sheet 1) address
  unfolding circuit_at
  alike_read address i =
      (as_reckoned first 0 (omega arith)).read_region 0 address (omega arith) i
      ∙ ap (found_of 0) (read_words address (in_high (its_record first 0).read address i))
      ∙ sym ((as_reckoned second 1 (omega arith)).read_region 0 address (omega arith) i)

  alike_receive : (address : ℕ) → in_region (its_record first 0).receive address ≡ true
      → fetch_answer (after_load first) (destination_of one_sheet 0) address ≡ fetch_answer (after_load second) (destination_of other_sheet 1) address
  unfolding circuit_at
  alike_receive address i =
      (as_reckoned first 0 (omega arith)).receive_region 0 address (omega arith) i
      ∙ ap (found_of 0) (receive_words address (in_high (its_record first 0).receive address i))
      ∙ sym ((as_reckoned second 1 (omega arith)).receive_region 0 address (omega arith) i)

  -- the two sessions, on any lent states, are alike for the circuit up to 40 cycles
  pub alike_on : (n : ℕ) → n ≤ 40 → Alike first second 0 1 n
  alike_on n most = record {
    same_columns = refl;
    same_rows = rows_alike;
    same_kind = kind_alike;
    same_record = record_one ∙ sym record_other;
    same_regions = record { read = alike_read; receive = alike_receive };
    same_acts = λ t l.
        acts_are first 0 t ∙ ap (λ (es : List Event). acts_in one_sheet 0 es t) (one_events_is s long)
        ∙ table_at 40 (acts_in one_sheet 0 one_events) (acts_in other_sheet 1 other_events) acts_alike t (omega arith)
        ∙ sym (acts_are second 1 t ∙ ap (λ (es : List Event). acts_in other_sheet 1 es t) (other_events_is s' long'));
    same_lengths = λ t l.
        ap (period one_sheet) (one_schedule s long t (omega arith)) ∙ lengths_alike (t <? 30)
        ∙ sym (ap (period other_sheet) (other_schedule s' long' t (omega arith)));
    same_slots = λ t offset l.
        ap (λ (j : ℕ). slot_length one_sheet j offset 0) (one_schedule s long t (omega arith)) ∙ slots_alike (t <? 30) offset
        ∙ sym (ap (λ (j : ℕ). slot_length other_sheet j offset 1) (other_schedule s' long' t (omega arith)));
  }

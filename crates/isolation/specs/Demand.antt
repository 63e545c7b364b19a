-- Demand 3: nothing that other circuits, routes or switch orders do can shift or alter one word that a circuit delivers, while its slots
-- and the period lengths stay the same. Stated over what the calls answer (session/specs/Calls.antt) and the reckoning: the machine's
-- cycle stands in it only as what the call `cycle` does.
use Rattle.std.specs.Prelude.{ℕ, suc, ◌+◌, ◌≤◌, ◌<◌, Bool, true, false, ◌≡◌, length, get_or, Result, Option}
use Rattle.std.specs.declared.option.Option.TheVariants.{None, Some}
use Rattle.std.specs.declared.result.Result.TheVariants.{Ok, Err}
use mathlib.Core.List.{List, [], ◌∷◌, ◌++◌, flat_map}
use Rattle.words.specs.Tests.{any, ◌and◌, ◌or◌, ◌≤?◌, ◌=?◌}
use Rattle.words.specs.Words.{pick}
use Rattle.sheet.specs.declared.circuits.Region.{Region}
use Rattle.sheet.specs.declared.circuits.Circuit.{Circuit}
use Rattle.sheet.specs.Sheet.{columns, rows, is_long, circuits, schedules, nodes, circuit_at, period, entries_of, entry_count, entry_at}
use Rattle.sheet.specs.Slots.{slot_length, source_of, destination_of}
use Rattle.sheet.specs.Rules.{entry_route, route_hops, route_vertical}
pub use Rattle.network.specs.Inbound.{in_region}
use Rattle.session.specs.declared.Landed.{Landed}
use Rattle.session.specs.Answers.{left_answer, fetch_answer, period_answer, landed_answer}
use Rattle.session.specs.Calls.{what_landed, start, cycle, number, ask}
use Rattle.isolation.specs.Sessions.{Session, after_load, standing, Event, start_done, store_done, order_done, cycle_done, events_before, events, Transfer}
use Rattle.isolation.specs.Calendar.{Calendar, calendar_at_load, calendar_event, calendar_at, cycles_done, point_after, schedule_in}
use Rattle.isolation.specs.Reckoning.{Item, none, item, Reckoned, owed, hops_of, vertical_of, flight_cycles, last_reckoned, reckon}

-- what landed, as far as it falls into a region
abbrev pub item_within : Region → Result (Option Landed) ℕ → Item
item_within r (Ok None) = none
item_within r (Ok (Some x)) = pick (in_region r x.address) (item x.kind x.address x.word) none
item_within r (Err n) = none

-- the circuit of a session, and its reckoning after the first k calls
abbrev pub its_record : Session → ℕ → Circuit
its_record l circuit = circuit_at l.sheet circuit

abbrev pub reckoned_at : Session → ℕ → ℕ → Reckoned
reckoned_at l circuit k = reckon l.sheet circuit l.lent.memory (events_before l k)

-- a word is there
abbrev pub is_item : Item → Bool
is_item none = false
is_item (item kind address w) = true

-- after so many cycles words of a circuit are under way: one left in a cycle t of them, and cycle t + 3 × (hops + 1) + v, in which it lands,
-- is still to come
unfoldable pub under_way : List ℕ → ℕ → Reckoned → ℕ → Bool
under_way z circuit r cycles = any cycles (λ t. is_item (r.sent.leaving t) and cycles ≤? t + flight_cycles z circuit)

-- document 02, L3: so a circuit is busy while words of it are owed or under way
abbrev pub reckoned_busy : List ℕ → ℕ → Reckoned → ℕ → Bool
reckoned_busy z circuit r cycles = 1 ≤? owed r or under_way z circuit r cycles

-- call k of the session is a cycle that is carried out
abbrev pub CycleAt : Session → ℕ → Type 0
CycleAt l k = (k < length l.calls) × (get_or l.calls k cycle ≡ cycle) × (number cycle (standing l k) ≡ 0)

-- what landed at the circuit's destination, as the session answers after its first k calls
abbrev pub answer_at_destination : Session → ℕ → ℕ → Result (Option Landed) ℕ
answer_at_destination l circuit k = landed_answer (standing l k) (destination_of l.sheet circuit)

-- and of it what is the circuit's
abbrev pub circuit_landing : Session → ℕ → ℕ → Item
circuit_landing l circuit k = item_within (its_record l circuit).receive (answer_at_destination l circuit k)

-- in every session, for every circuit of its sheet: what the session answers is what is reckoned
pub record AsReckoned (l : Session) (circuit : ℕ) : Type 0 where
  -- each of its entries has so many side outputs as hops are reckoned, and so many of them over long links
  pub side_outputs : (j i : ℕ) → j < schedules l.sheet → i < entry_count (entries_of l.sheet j)
      → (entry_at (entries_of l.sheet j) i).circuit ≡ circuit
      → route_hops (entry_route l.sheet (entry_at (entries_of l.sheet j) i)) ≡ hops_of l.sheet circuit
  pub long_links : (j i : ℕ) → j < schedules l.sheet → i < entry_count (entries_of l.sheet j)
      → (entry_at (entries_of l.sheet j) i).circuit ≡ circuit
      → route_vertical (entry_route l.sheet (entry_at (entries_of l.sheet j) i)) ≡ vertical_of l.sheet circuit
  -- at every point words left answers the owed words
  pub words_left : (k : ℕ) → k ≤ length l.calls → left_answer (standing l k) circuit ≡ Ok (owed (reckoned_at l circuit k))
  -- what is reckoned to leave in cycle t, with kind, address and word, is what the session answers as landed at the destination directly
  -- after cycle t + 3 × (hops + 1) + v, which is call k
  pub lands : (k t kind address w : ℕ) → CycleAt l k → cycles_done l k ≡ t + flight_cycles l.sheet circuit
      → (reckoned_at l circuit k).sent.leaving t ≡ item kind address w → answer_at_destination l circuit (suc k) ≡ Ok (Some (record { kind = kind; address = address; word = w }))
  -- at every point what landed last in its receive region is what left so many cycles before, or nothing
  pub landings : (k : ℕ) → k ≤ length l.calls
      → circuit_landing l circuit k ≡ last_reckoned l.sheet circuit (reckoned_at l circuit k) (cycles_done l k)
  -- at every point a start on it that answers 17 means that words of it are owed or under way, and one that answers 0 that none are
  pub busy : (k read_address write_address count kind : ℕ) → k ≤ length l.calls
      → number (start circuit read_address write_address count kind) (standing l k) ≡ 17
      → reckoned_busy l.sheet circuit (reckoned_at l circuit k) (cycles_done l k) ≡ true
  pub free : (k read_address write_address count kind : ℕ) → k ≤ length l.calls
      → number (start circuit read_address write_address count kind) (standing l k) ≡ 0
      → reckoned_busy l.sheet circuit (reckoned_at l circuit k) (cycles_done l k) ≡ false
  -- its regions' words are those at load, changed only by stores and these landings
  pub read_region : (k address : ℕ) → k ≤ length l.calls → in_region (its_record l circuit).read address ≡ true
      → fetch_answer (standing l k) (source_of l.sheet circuit) address ≡ Ok ((reckoned_at l circuit k).words.read address)
  pub receive_region : (k address : ℕ) → k ≤ length l.calls → in_region (its_record l circuit).receive address ≡ true
      → fetch_answer (standing l k) (destination_of l.sheet circuit) address ≡ Ok ((reckoned_at l circuit k).words.receive address)

-- what of a session's events concerns a circuit: its starts, and stores into its regions
pub data Act : Type 0 where
  began : Transfer → Act
  read_stored : ℕ → ℕ → Act
  receive_stored : ℕ → ℕ → Act

abbrev pub act_of : List ℕ → ℕ → Event → List Act
act_of z circuit (start_done c transfer) = pick (c =? circuit) (began transfer ∷ []) []
act_of z circuit (store_done node address new) =
    pick (node =? source_of z circuit and in_region (circuit_at z circuit).read address) (read_stored address new ∷ []) []
    ++ pick (node =? destination_of z circuit and in_region (circuit_at z circuit).receive address) (receive_stored address new ∷ []) []
act_of z circuit (order_done schedule period_number) = []
act_of z circuit cycle_done = []

-- of some events, before which the calendar was k, those after t cycles and before the next (with that cycle, which is no act)
abbrev pub events_after : List ℕ → List Event → Calendar → ℕ → List Event
events_after z [] k t = []
events_after z (e ∷ es) k t = pick (k.cycles =? t) (e ∷ []) [] ++ events_after z es (calendar_event z e k) t

-- a circuit's acts after t cycles and before the next
abbrev pub acts_after : Session → ℕ → ℕ → List Act
acts_after l circuit t = flat_map (act_of l.sheet circuit) (events_after l.sheet (events l.calls (after_load l)) calendar_at_load t)

-- after i calls of one session and j of another, fetch answers the same words in the regions of a circuit of each
pub record SameRegions (a b : Session) (c d i j : ℕ) : Type 0 where
  pub read : (address : ℕ) → in_region (its_record a c).read address ≡ true
      → fetch_answer (standing a i) (source_of a.sheet c) address ≡ fetch_answer (standing b j) (source_of b.sheet d) address
  pub receive : (address : ℕ) → in_region (its_record a c).receive address ≡ true
      → fetch_answer (standing a i) (destination_of a.sheet c) address ≡ fetch_answer (standing b j) (destination_of b.sheet d) address

-- what two sessions have in common for a circuit of each, up to n cycles
pub record Alike (a b : Session) (c d n : ℕ) : Type 0 where
  pub same_columns : columns a.sheet ≡ columns b.sheet
  pub same_rows : rows a.sheet ≡ rows b.sheet
  -- both have long vertical links, or neither has
  pub same_kind : is_long a.sheet ≡ is_long b.sheet
  -- the six words of the circuit; its number may differ
  pub same_record : its_record a c ≡ its_record b d
  -- its regions' words at load
  pub same_regions : SameRegions a b c d 0 0
  -- its starts and the stores into its regions, in order, each after the same number of cycles, before the last of the n
  pub same_acts : (t : ℕ) → t < n → acts_after a c t ≡ acts_after b d t
  -- in the periods in which the n cycles lie: the same lengths, and its slots (offsets and lengths; routes may differ)
  pub same_lengths : (t : ℕ) → t < n → period a.sheet (schedule_in a t) ≡ period b.sheet (schedule_in b t)
  pub same_slots : (t offset : ℕ) → t < n
      → slot_length a.sheet (schedule_in a t) offset c ≡ slot_length b.sheet (schedule_in b t) offset d

-- then nobody can tell the two apart by what the circuit delivers
pub record Undisturbed (a b : Session) (c d n : ℕ) : Type 0 where
  -- its landings so far, by cycle
  pub landings : (t : ℕ) → t < n → circuit_landing a c (point_after a (suc t)) ≡ circuit_landing b d (point_after b (suc t))
  -- directly after the n cycles, its words left and its regions' words
  pub words_left : left_answer (standing a (point_after a n)) c ≡ left_answer (standing b (point_after b n)) d
  pub regions : SameRegions a b c d (point_after a n) (point_after b n)
  -- and the same start on it answers 17 in both or in neither, and 0 in both or in neither
  pub same_busy : (read_address write_address count kind : ℕ)
      → (number (start c read_address write_address count kind) (standing a (point_after a n)) =? 17)
      ≡ (number (start d read_address write_address count kind) (standing b (point_after b n)) =? 17)
  pub same_free : (read_address write_address count kind : ℕ)
      → (number (start c read_address write_address count kind) (standing a (point_after a n)) =? 0)
      ≡ (number (start d read_address write_address count kind) (standing b (point_after b n)) =? 0)

-- demand 3, one claim over lists of calls
pub record Demand3 : Type 0 where
  -- in every session, whether its sheet has circuits or none: no cycle is refused
  pub cycles_carried_out : (l : Session) (k : ℕ) → k < length l.calls → get_or l.calls k cycle ≡ cycle
      → number cycle (standing l k) ≡ 0
  -- the period number answered is the reckoned one
  pub period_number_is : (l : Session) (k : ℕ) → k ≤ length l.calls → period_answer (standing l k) ≡ Ok (calendar_at l k).number
  -- at every node and point what landed is answered; nothing has at load, and only a cycle that is carried out changes the answer
  pub landed_answered : (l : Session) (k node : ℕ) → k ≤ length l.calls → node < nodes l.sheet
      → number (ask (what_landed node)) (standing l k) ≡ 0
  pub landed_at_load : (l : Session) (node : ℕ) → node < nodes l.sheet → landed_answer (after_load l) node ≡ Ok None
  pub landed_kept : (l : Session) (k node : ℕ) → k < length l.calls → node < nodes l.sheet
      → (CycleAt l k → ⊥) → landed_answer (standing l (suc k)) node ≡ landed_answer (standing l k) node
  -- for every circuit what is answered is what is reckoned
  pub as_reckoned : (l : Session) (circuit : ℕ) → circuit < circuits l.sheet → AsReckoned l circuit
  -- and what the others do, in two sessions alike for a circuit of each, does not show in it
  pub undisturbed : (a b : Session) (c d n : ℕ) → c < circuits a.sheet → d < circuits b.sheet
      → n ≤ cycles_done a (length a.calls) → n ≤ cycles_done b (length b.calls) → Alike a b c d n → Undisturbed a b c d n

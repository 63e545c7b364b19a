-- Grids of both kinds (document 02, L7): the same sheet with and without long vertical links, its numbers, and its sessions, in which each word
-- lands one cycle later over the one long link.
-- Assumes nothing.
use Prim.Native.Nat.{ℕ, ◌*◌, ◌≤◌}
use mathlib.Core.List.{List, [], ◌∷◌, ◌++◌, map}
use mathlib.Core.Path.{◌≡◌, refl, ◌∙◌, ap}
use native.Mathlib.Omega.{arith}
use lib.ListN.{length, take, replicate, get_or}
use Rattle.words.specs.Words.{least_from, last_of}
use Rattle.words.specs.Numbers.{unless, ◌then◌}
use Rattle.words.specs.Tests.{all, any, between, ◌and◌, ◌or◌, ◌≤?◌, ◌<?◌, ◌=?◌, ◌≠?◌}
use Rattle.torus.specs.Torus.{neighbour_of, walks, distance_of, shorter_way, is_vertical}
use Rattle.torus.specs.Route.{output_of, follow, route_from, link_cycles, hop_cycles}
use Rattle.sheet.specs.Sheet.{meant, rows, memory_words, nodes, schedule_place, circuit_at, entries_of, entry_at, is_long}
use Rattle.sheet.specs.Slots.{begins_at, entry_beginning, slot_length}
use Rattle.sheet.specs.Wires.{same_wire, same, during, occupied, member, meet}
use Rattle.sheet.specs.Rules.{rule1, rule2, schedule_fits, rule3, first_broken, check_rules, check_number}
use Rattle.sheet.specs.Rules.{region_fits, circuit_fits, rule4, precedes, circuit_precedes, rule5, apart, receive_apart, rule6}
use Rattle.sheet.specs.Rules.{each_entry, entry_fits, rule7_at, rule7, entry_precedes, rule8_at, rule8}
use Rattle.sheet.specs.Rules.{entry_route, entry_leads, rule9, entry_ends, rule10, entry_occupied, rule11_at, rule11, serves, is_served, rule26}
use Rattle.soundness.specs.Sound.{kind_travels, lies_in}
use Rattle.session.specs.Calls.{Call, start, cycle}
use Rattle.sheet.proofs.MeantLaws.{itself}
use Rattle.isolation.specs.Sessions.{Session}
use Rattle.isolation.specs.Reckoning.{Item, none, item, reckoned_landing, leaves_in}
use Rattle.isolation.specs.Demand.{under_way, circuit_landing}
use Rattle.isolation.proofs.Reckoning.EventsDecided.{decided, events_decided}
use Rattle.isolation.proofs.Reckoning.Reckons.{as_reckoned}
use Rattle.isolation.proofs.Examples.Witness.{bad_loads_refused, load_zero, zeros, zeros_long, last_landed}
use Rattle.sheet.specs.Flight.{vertical_of}

-- a 2 by 2 grid with 8 words of memory a node and one schedule of period 9; its second word, and the offset of the one entry, by which
-- circuit 0 goes south from node 0 to node 2 in packets of two payload words
abbrev pub southward : ℕ → ℕ → List ℕ
southward second offset =
    2 ∷ second ∷ 8 ∷ 1 ∷ 1 ∷ 0 ∷ 2 ∷ 0 ∷ 4 ∷ 0 ∷ 4 ∷ 9 ∷ 1 ∷ offset ∷ 3 ∷ 0 ∷ 2 ∷ []

-- the checker's numbers: of second words; of the last offsets without long links and with them, where number 10 comes one cycle sooner
abbrev pub numbers : List ℕ
numbers =
    map (λ second. check_number (southward second 0)) (258 ∷ 256 ∷ 257 ∷ 261 ∷ 512 ∷ 514 ∷ [])
    ++ map (λ offset. check_number (southward 2 offset)) (5 ∷ 6 ∷ 7 ∷ [])
    ++ map (λ offset. check_number (southward 258 offset)) (5 ∷ 6 ∷ 7 ∷ [])

pub numbers_are : numbers ≡ 0 ∷ 2 ∷ 2 ∷ 2 ∷ 2 ∷ 2 ∷ 0 ∷ 0 ∷ 10 ∷ 0 ∷ 10 ∷ 10 ∷ []
unfolding meant first_broken
    rule1 rule2 schedule_fits rule3
    region_fits circuit_fits rule4 precedes circuit_precedes rule5 apart receive_apart rule6
    each_entry entry_fits rule7_at rule7 entry_precedes rule8_at rule8
    entry_route entry_leads rule9 entry_ends rule10 entry_occupied rule11_at rule11
    serves is_served rule26
    rows is_long schedule_place circuit_at entries_of entry_at
    same_wire same during occupied member meet
    neighbour_of walks distance_of output_of is_vertical link_cycles hop_cycles follow route_from
    least_from all any between ◌and◌ ◌or◌ ◌≤?◌ ◌<?◌ ◌=?◌ ◌≠?◌
numbers_are = refl

-- both kinds, the packet leaving from cycle 0 on; and the memories at load
abbrev pub short_sheet : List ℕ
short_sheet = southward 2 0

abbrev pub long_sheet : List ℕ
long_sheet = southward 258 0

abbrev pub memories : List ℕ
memories = 11 ∷ 22 ∷ 33 ∷ replicate 29 0

pub both_pass : first_broken check_rules short_sheet ∷ first_broken check_rules long_sheet ∷ [] ≡ 0 ∷ 0 ∷ []
unfolding first_broken
    rule1 rule2 schedule_fits rule3
    region_fits circuit_fits rule4 precedes circuit_precedes rule5 apart receive_apart rule6
    each_entry entry_fits rule7_at rule7 entry_precedes rule8_at rule8
    entry_route entry_leads rule9 entry_ends rule10 entry_occupied rule11_at rule11
    serves is_served rule26
    rows is_long schedule_place circuit_at entries_of entry_at
    same_wire same during occupied member meet
    neighbour_of walks distance_of output_of is_vertical link_cycles hop_cycles follow route_from
    least_from all any between ◌and◌ ◌or◌ ◌≤?◌ ◌<?◌ ◌=?◌ ◌≠?◌
both_pass = refl

pub short_memories : length memories ≡ nodes short_sheet * memory_words short_sheet
unfolding rows is_long ◌≤?◌
short_memories = refl

pub long_memories : length memories ≡ nodes long_sheet * memory_words long_sheet
unfolding rows is_long ◌≤?◌
long_memories = refl

-- the start of three words, then 20 cycles, on a state of zeros
abbrev pub calls : List Call
calls = start 0 0 0 3 0 ∷ replicate 20 cycle

abbrev pub session_on : (z : List ℕ) → z ≡ meant z → first_broken check_rules z ≡ 0 → length memories ≡ nodes z * memory_words z → Session
session_on z same passes whole = record {
  lent = record { state = zeros; memory = memories };
  given = z;
  sheet = z;
  sheet_is = same;
  calls = calls;
  is_carried_out = load_zero z z zeros memories same passes zeros_long whole;
  loads_refused = bad_loads_refused calls _ refl;
}

abbrev pub on_short : Session
on_short = session_on short_sheet (itself _ _) (ap (λ (ns : List ℕ). get_or ns 0 0) both_pass) short_memories

abbrev pub on_long : Session
on_long = session_on long_sheet (itself _ _) (ap (λ (ns : List ℕ). get_or ns 1 0) both_pass) long_memories

-- what is reckoned to have landed last after the first k calls
abbrev pub lands_after : List ℕ → ℕ → Item
lands_after z k = last_landed z 0 memories (decided z memories (take k calls) [])

-- at every point, what landed at node 2 as each session answers is what is reckoned
pub short_landings : (k : ℕ) → k ≤ 21 → circuit_landing on_short 0 k ≡ lands_after short_sheet k
short_landings k l =
    (as_reckoned on_short 0 (omega arith)).landings k l ∙ ap (last_landed short_sheet 0 memories) (events_decided on_short k l)

pub long_landings : (k : ℕ) → k ≤ 21 → circuit_landing on_long 0 k ≡ lands_after long_sheet k
long_landings k l =
    (as_reckoned on_long 0 (omega arith)).landings k l ∙ ap (last_landed long_sheet 0 memories) (events_decided on_long k l)

-- points 8 to 11 and 17 to 20, which are after cycles 6 to 9 and 15 to 18
abbrev pub points : List ℕ
points = 8 ∷ 9 ∷ 10 ∷ 11 ∷ 17 ∷ 18 ∷ 19 ∷ 20 ∷ []

-- without long links the words land in cycles 7, 8 and 16, and with them in cycles 8, 9 and 17
pub one_later : map (lands_after short_sheet) points ++ map (lands_after long_sheet) points
    ≡ none ∷ item 0 0 11 ∷ item 0 1 22 ∷ none ∷ none ∷ item 0 2 33 ∷ none ∷ none
    ∷ none ∷ none ∷ item 0 0 11 ∷ item 0 1 22 ∷ none ∷ none ∷ item 0 2 33 ∷ none ∷ []
unfolding rows is_long vertical_of shorter_way reckoned_landing leaves_in slot_length entry_beginning begins_at schedule_place circuit_at entries_of entry_at last_of any ◌and◌ ◌or◌ ◌≤?◌ ◌<?◌ ◌=?◌
    distance_of least_from walks neighbour_of kind_travels lies_in unless ◌then◌ under_way
one_later = refl

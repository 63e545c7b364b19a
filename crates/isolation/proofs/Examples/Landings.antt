-- Sheet A as a session: document 01's key example with its three landings, in cycles 7, 8 and 16, and what is answered at every other point.
-- Assumes nothing.
use Prim.Native.Nat.{ℕ, ◌*◌, ◌≤◌}
use mathlib.Core.List.{List, [], ◌∷◌, map}
use mathlib.Core.Path.{◌≡◌, refl, ◌∙◌, ap}
use native.Mathlib.Omega.{arith}
use lib.ListN.{length, take, replicate}
use Rattle.words.specs.Words.{least_from, last_of}
use Rattle.words.specs.Numbers.{unless, ◌then◌}
use Rattle.words.specs.Tests.{all, any, between, ◌and◌, ◌or◌, ◌≤?◌, ◌<?◌, ◌=?◌, ◌≠?◌}
use Rattle.torus.specs.Torus.{neighbour_of, walks, distance_of, is_vertical}
use Rattle.torus.specs.Route.{output_of, follow, route_from, link_cycles, hop_cycles}
use Rattle.sheet.specs.Sheet.{rows, memory_words, nodes, schedule_place, circuit_at, entries_of, entry_at, is_long}
use Rattle.sheet.specs.Slots.{begins_at, entry_beginning, slot_length}
use Rattle.sheet.specs.Wires.{same_wire, same, during, occupied, member, meet}
use Rattle.sheet.specs.Rules.{rule1, rule2, schedule_fits, rule3, first_broken, check_rules}
use Rattle.sheet.specs.Rules.{region_fits, circuit_fits, rule4, precedes, circuit_precedes, rule5, apart, receive_apart, rule6}
use Rattle.sheet.specs.Rules.{each_entry, entry_fits, rule7_at, rule7, entry_precedes, rule8_at, rule8}
use Rattle.sheet.specs.Rules.{entry_route, entry_leads, rule9, entry_ends, rule10, entry_occupied, rule11_at, rule11, serves, is_served, rule26}
use Rattle.soundness.specs.Sound.{kind_travels, lies_in}
use Rattle.session.specs.Calls.{Call, start, cycle}
use Rattle.sheet.proofs.MeantLaws.{itself}
use Rattle.isolation.specs.Sessions.{Session}
use Rattle.isolation.specs.Reckoning.{Item, none, item, reckoned_landing, leaves_in}
use Rattle.isolation.specs.Demand.{under_way, circuit_landing}
use Rattle.isolation.specs.Examples.{sheet_a}
use Rattle.isolation.proofs.Reckoning.EventsDecided.{decided, events_decided}
use Rattle.isolation.proofs.Reckoning.Reckons.{as_reckoned}
use Rattle.isolation.proofs.Examples.Witness.{bad_loads_refused, load_zero, zeros, zeros_long, last_landed}
use Rattle.sheet.specs.Flight.{vertical_of}

-- sheet A's words, and the memories at load
abbrev pub sheet : List ℕ
sheet = sheet_a 0 13 []

abbrev pub memories : List ℕ
memories = 11 ∷ 22 ∷ 33 ∷ replicate 29 0

pub sheet_passes : first_broken check_rules sheet ≡ 0
unfolding first_broken
    rule1 rule2 schedule_fits rule3
    region_fits circuit_fits rule4 precedes circuit_precedes rule5 apart receive_apart rule6
    each_entry entry_fits rule7_at rule7 entry_precedes rule8_at rule8
    entry_route entry_leads rule9 entry_ends rule10 entry_occupied rule11_at rule11
    serves is_served rule26
    rows is_long schedule_place circuit_at entries_of entry_at
    same_wire same during occupied member meet
    neighbour_of walks distance_of output_of is_vertical link_cycles hop_cycles follow route_from
    least_from all any between ◌and◌ ◌or◌ ◌≤?◌ ◌<?◌ ◌=?◌ ◌≠?◌
sheet_passes = refl

pub memories_long : length memories ≡ nodes sheet * memory_words sheet
unfolding rows is_long ◌≤?◌
memories_long = refl

-- the start of three words, then 20 cycles, on a state of zeros
abbrev pub calls_a : List Call
calls_a = start 0 0 0 3 0 ∷ replicate 20 cycle

abbrev pub session_a : Session
session_a = record {
  lent = record { state = zeros; memory = memories };
  given = sheet;
  sheet = sheet;
  sheet_is = itself _ _;
  calls = calls_a;
  is_carried_out = load_zero sheet sheet zeros memories (itself _ _) sheet_passes zeros_long memories_long;
  loads_refused = bad_loads_refused calls_a _ refl;
}

-- what is reckoned to have landed last after the first k calls
abbrev pub lands_after : ℕ → Item
lands_after k = last_landed sheet 0 memories (decided sheet memories (take k calls_a) [])

-- at every point, what landed at node 1 as the session answers is what is reckoned
pub landings : (k : ℕ) → k ≤ 21 → circuit_landing session_a 0 k ≡ lands_after k
landings k l =
    (as_reckoned session_a 0 (omega arith)).landings k l ∙ ap (last_landed sheet 0 memories) (events_decided session_a k l)

-- and that is: nothing after the load and the start, which are points 0 and 1; 11 at address 0 after cycle 7, which is point 9, 22 at
-- address 1 after cycle 8, 33 at address 2 after cycle 16, nothing after the other cycles
pub wanted : map lands_after (0 ∷ 1 ∷ 2 ∷ 3 ∷ 4 ∷ 5 ∷ 6 ∷ 7 ∷ 8 ∷ 9 ∷ 10 ∷ 11 ∷ 12 ∷ 13 ∷ 14 ∷ 15 ∷ 16 ∷ 17 ∷ 18 ∷ 19 ∷ 20 ∷ 21 ∷ [])
    ≡ none ∷ none ∷ none ∷ none ∷ none ∷ none ∷ none ∷ none ∷ none ∷ item 0 0 11 ∷ item 0 1 22
    ∷ none ∷ none ∷ none ∷ none ∷ none ∷ none ∷ none ∷ item 0 2 33 ∷ none ∷ none ∷ none ∷ []
unfolding rows is_long vertical_of reckoned_landing leaves_in slot_length entry_beginning begins_at schedule_place circuit_at entries_of entry_at last_of any ◌and◌ ◌or◌ ◌≤?◌ ◌<?◌ ◌=?◌
    distance_of least_from walks neighbour_of kind_travels lies_in unless ◌then◌ under_way
wanted = refl

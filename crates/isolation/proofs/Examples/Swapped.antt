-- The order of a circuit's stores matters: two sessions that differ in nothing but the order of two stores into the read region can be told
-- apart by what lands. So a likeness that did not see that order would be too weak for demand 3.
-- Assumes nothing.
use Prim.Native.Nat.{ℕ}
use mathlib.Core.List.{List, [], ◌∷◌, ◌++◌}
use mathlib.Core.Path.{◌≡◌, refl, sym, ◌∙◌, ap}
use native.Mathlib.Omega.{arith}
use lib.ListN.{replicate}
use Rattle.words.specs.Words.{least_from, last_of}
use Rattle.words.specs.Numbers.{unless, ◌then◌}
use Rattle.words.specs.Tests.{any, ◌and◌, ◌or◌, ◌≤?◌, ◌<?◌, ◌=?◌}
use Rattle.torus.specs.Torus.{neighbour_of, walks, distance_of}
use Rattle.sheet.specs.Sheet.{rows, schedule_place, circuit_at, entries_of, entry_at, is_long}
use Rattle.sheet.specs.Slots.{begins_at, entry_beginning, slot_length}
use Rattle.soundness.specs.Sound.{kind_travels, lies_in}
use Rattle.session.specs.Calls.{Call, start, store, cycle}
use Rattle.sheet.proofs.MeantLaws.{itself}
use Rattle.isolation.specs.Sessions.{Session, Event, store_done, cycle_done}
use Rattle.isolation.specs.Reckoning.{Item, none, item, reckoned_landing, leaves_in}
use Rattle.isolation.specs.Calendar.{point_after}
use Rattle.isolation.specs.Demand.{under_way, Undisturbed, circuit_landing}
use Rattle.isolation.proofs.Reckoning.Points.{up_to}
use Rattle.isolation.proofs.Reckoning.EventsDecided.{decided}
use Rattle.isolation.proofs.Examples.Witness.{bad_loads_refused, load_zero, zeros, zeros_long, events_are, last_landed, landed_by, start_event}
use Rattle.isolation.proofs.Examples.Landings.{sheet, memories, sheet_passes, memories_long}
use Rattle.sheet.specs.Flight.{vertical_of}

-- sheet A with a transfer of three words; before the first cycle two words are stored at address 1 of the read region, one after the other
abbrev stores_then : ℕ → ℕ → List Call
stores_then a b = start 0 0 0 3 0 ∷ store 0 1 a ∷ store 0 1 b ∷ replicate 9 cycle

abbrev pub storing : ℕ → ℕ → Session
storing a b = record {
  lent = record { state = zeros; memory = memories };
  given = sheet;
  sheet = sheet;
  sheet_is = itself _ _;
  calls = stores_then a b;
  is_carried_out = load_zero sheet sheet zeros memories (itself _ _) sheet_passes zeros_long memories_long;
  loads_refused = bad_loads_refused (stores_then a b) _ refl;
}

abbrev events_then : ℕ → ℕ → List Event
events_then a b = start_event 0 0 0 3 0 ∷ store_done 0 1 a ∷ store_done 0 1 b ∷ replicate 9 cycle_done

events_decided_so : (a b : ℕ) → decided sheet memories (stores_then a b) [] ≡ events_then a b
unfolding rows is_long vertical_of reckoned_landing leaves_in slot_length entry_beginning begins_at schedule_place circuit_at entries_of entry_at last_of any ◌and◌ ◌or◌ ◌≤?◌ ◌<?◌ ◌=?◌
    kind_travels lies_in unless ◌then◌ under_way
events_decided_so a b = refl

-- the word stored last lands in cycle 8
reckoned_so : (a b : ℕ) → last_landed sheet 0 memories (up_to (events_then a b) 8 ++ (cycle_done ∷ [])) ≡ item 0 1 b
unfolding rows is_long vertical_of reckoned_landing leaves_in slot_length entry_beginning begins_at last_of entries_of entry_at schedule_place circuit_at
    neighbour_of walks distance_of least_from any ◌and◌ ◌or◌ ◌≤?◌ ◌<?◌ ◌=?◌
reckoned_so a b = refl

pub last_lands : (a b : ℕ) → circuit_landing (storing a b) 0 (point_after (storing a b) 9) ≡ item 0 1 b
last_lands a b =
    landed_by (storing a b) 0 (events_then a b) (omega arith) (events_are (storing a b) ∙ events_decided_so a b) 8 (omega arith)
    ∙ reckoned_so a b

abbrev item_word : Item → ℕ
item_word none = 0
item_word (item kind address w) = w

-- so the two orders are told apart
pub order_shows : Undisturbed (storing 76 77) (storing 77 76) 0 0 9 → ⊥
order_shows u =
    let same : ◌≡◌ {A = ℕ} 77 76 = ap item_word (sym (last_lands 76 77) ∙ u.landings 8 (omega arith) ∙ last_lands 77 76) in
    omega (arith, same)

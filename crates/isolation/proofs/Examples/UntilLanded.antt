-- Document 02, L3, on sheet A: two words started before cycle 0 leave in cycles 1 and 2 and land in cycles 7 and 8. A start is refused with 17
-- up to the point after cycle 7, though no words are left to send after cycle 2, and is taken from the point after cycle 8 on.
-- Assumes nothing.
use Prim.Native.Nat.{ℕ, ◌≤◌}
use mathlib.Core.List.{List, [], ◌∷◌, ◌++◌, map}
use mathlib.Core.Path.{◌≡◌, refl, ◌∙◌, ap}
use native.Mathlib.Omega.{arith}
use lib.ListN.{take, replicate}
use Rattle.words.specs.Words.{least_from, last_of}
use Rattle.words.specs.Numbers.{unless, ◌then◌}
use Rattle.words.specs.Tests.{any, ◌and◌, ◌or◌, ◌≤?◌, ◌<?◌, ◌=?◌}
use Rattle.torus.specs.Torus.{neighbour_of, walks, distance_of}
use Rattle.sheet.specs.Sheet.{rows, schedule_place, circuit_at, entries_of, entry_at, is_long}
use Rattle.sheet.specs.Slots.{begins_at, entry_beginning, slot_length}
use Rattle.soundness.specs.Sound.{kind_travels, lies_in}
use Rattle.std.specs.declared.result.Result.TheVariants.{Ok}
use Rattle.session.specs.Answers.{found_of, left_answer}
use Rattle.session.specs.Calls.{Call, start, cycle, number}
use Rattle.sheet.proofs.MeantLaws.{itself}
use Rattle.isolation.specs.Sessions.{Session, standing, Event}
use Rattle.isolation.specs.Reckoning.{owed, reckoned_landing, leaves_in, reckon}
use Rattle.isolation.specs.Demand.{under_way}
use Rattle.isolation.proofs.Reckoning.EventsDecided.{start_answer, start_here, decided, events_decided}
use Rattle.isolation.proofs.Reckoning.Reckons.{as_reckoned}
use Rattle.isolation.proofs.Examples.Witness.{bad_loads_refused, load_zero, zeros, zeros_long}
use Rattle.isolation.proofs.Examples.Landings.{sheet, sheet_passes, memories, memories_long}
use Rattle.sheet.specs.Flight.{vertical_of}

-- the start of two words, eight cycles, a start that is refused, a cycle, and a start that is taken
abbrev pub calls : List Call
calls = start 0 0 0 2 0 ∷ replicate 8 cycle ++ (start 0 2 2 1 0 ∷ cycle ∷ start 0 2 2 1 0 ∷ [])

abbrev pub session : Session
session = record {
  lent = record { state = zeros; memory = memories };
  given = sheet;
  sheet = sheet;
  sheet_is = itself _ _;
  calls = calls;
  is_carried_out = load_zero sheet sheet zeros memories (itself _ _) sheet_passes zeros_long memories_long;
  loads_refused = bad_loads_refused calls _ refl;
}

-- what that start answers after the first k calls
abbrev pub answer_after : ℕ → ℕ
answer_after k = start_answer sheet memories (decided sheet memories (take k calls) []) 0 2 2 1 0

pub answers : (k : ℕ) → k ≤ 12 → number (start 0 2 2 1 0) (standing session k) ≡ answer_after k
answers k l =
    start_here session k 0 2 2 1 0 ∙ ap (λ (es : List Event). start_answer sheet memories es 0 2 2 1 0) (events_decided session k l)

-- at every point: 0 before the start, 17 from it on to the point after cycle 7, which is point 9, and once more behind the refused start;
-- 0 after cycle 8, and 17 where the last start was taken
pub wanted : map answer_after (0 ∷ 1 ∷ 2 ∷ 3 ∷ 4 ∷ 5 ∷ 6 ∷ 7 ∷ 8 ∷ 9 ∷ 10 ∷ 11 ∷ 12 ∷ [])
    ≡ 0 ∷ 17 ∷ 17 ∷ 17 ∷ 17 ∷ 17 ∷ 17 ∷ 17 ∷ 17 ∷ 17 ∷ 17 ∷ 0 ∷ 17 ∷ []
unfolding rows is_long vertical_of reckoned_landing leaves_in slot_length entry_beginning begins_at schedule_place circuit_at entries_of entry_at last_of any ◌and◌ ◌or◌ ◌≤?◌ ◌<?◌ ◌=?◌
    distance_of least_from walks neighbour_of kind_travels lies_in unless ◌then◌ under_way
wanted = refl

-- no words are left to send after three cycles, which is point 4
none_owed : owed (reckon sheet 0 memories (decided sheet memories (take 4 calls) [])) ≡ 0
unfolding rows is_long vertical_of reckoned_landing leaves_in slot_length entry_beginning begins_at schedule_place circuit_at entries_of entry_at last_of any ◌and◌ ◌or◌ ◌≤?◌ ◌<?◌ ◌=?◌
    distance_of least_from walks neighbour_of kind_travels lies_in unless ◌then◌ under_way
none_owed = refl

pub none_left : left_answer (standing session 4) 0 ≡ Ok 0
none_left =
    (as_reckoned session 0 (omega arith)).words_left 4 (omega arith)
    ∙ ap (λ (es : List Event). found_of 0 (owed (reckon sheet 0 memories es))) (events_decided session 4 (omega arith)) ∙ ap (found_of 0) none_owed

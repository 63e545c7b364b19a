-- Demand 3 applied to the two sessions of PairAlike.
-- Assumes nothing.
use Prim.Native.Nat.{ℕ, suc, ◌≤◌, ◌<◌}
use mathlib.Core.List.{List, [], ◌∷◌, ◌++◌}
use mathlib.Core.Path.{◌≡◌, refl, sym, ◌∙◌}
use native.Mathlib.Omega.{arith}
use lib.ListN.{length}
use Rattle.words.specs.Words.{least_from, last_of}
use Rattle.words.specs.Numbers.{unless, ◌then◌}
use Rattle.words.specs.Tests.{any, ◌and◌, ◌or◌, ◌≤?◌, ◌<?◌, ◌=?◌}
use Rattle.torus.specs.Torus.{neighbour_of, walks, distance_of}
use Rattle.sheet.specs.Sheet.{rows, is_long, schedule_place, circuit_at, entries_of, entry_at}
use Rattle.sheet.specs.Slots.{begins_at, entry_beginning, slot_length}
use Rattle.network.specs.Registers.{state_words}
use Rattle.soundness.specs.Sound.{kind_travels, lies_in}
use Rattle.words.proofs.TestLaws.{is=, yes=}
use Rattle.session.specs.Calls.{start, number}
use Rattle.isolation.specs.Sessions.{Session, standing, cycle_done}
use Rattle.isolation.specs.Calendar.{point_after}
use Rattle.isolation.specs.Reckoning.{Item, item, reckoned_landing, leaves_in}
use Rattle.isolation.specs.Demand.{under_way, circuit_landing, Undisturbed}
use Rattle.isolation.proofs.Reckoning.Points.{up_to}
use Rattle.isolation.proofs.Reckoning.EventsDecided.{start_answer}
use Rattle.isolation.proofs.DemandProved.{demand3}
use Rattle.isolation.proofs.Examples.Witness.{zeros, zeros_long, last_landed, landed_by, started_by_is}
use Rattle.sheet.specs.Flight.{vertical_of}
use Rattle.isolation.proofs.Examples.PairAlike.{one_sheet, one_memory, one_on, other_on, one_events, one_events_is, one_cycles, other_cycles, alike_on}

module _ (s s' : List ℕ) (long : state_words ≤ length s) (long' : state_words ≤ length s') where
  abbrev first : Session
  first = one_on s long

  abbrev second : Session
  second = other_on s' long'

  -- so the circuit is undisturbed
  pub undisturbed_on : (n : ℕ) → n ≤ 40 → Undisturbed first second 0 1 n
  undisturbed_on n most =
      demand3.undisturbed first second 0 1 n (omega arith) (omega arith) (omega (arith, one_cycles s long))
      (omega (arith, other_cycles s' long')) (alike_on s s' long long' n most)

-- the two sessions on zeros, and demand 3 applied to them
abbrev pub one : Session
one = one_on zeros zeros_long

abbrev pub other : Session
other = other_on zeros zeros_long

pub pair : Undisturbed one other 0 1 40
pair = undisturbed_on zeros zeros zeros_long zeros_long 40 (omega arith)

-- what lands of a circuit in cycle t, as the session answers directly after it
abbrev pub lands_at : Session → ℕ → ℕ → Item
lands_at l circuit t = circuit_landing l circuit (point_after l (suc t))

-- the circuit's words: two in each of the first slots, the last of them as stored after three cycles; the interrupt in the slot of the
-- schedule that the order put in force
pub record Delivered (l : Session) (circuit : ℕ) : Type 0 where
  pub first_word : lands_at l circuit 7 ≡ item 0 0 11
  pub second_word : lands_at l circuit 8 ≡ item 0 1 22
  pub third_word : lands_at l circuit 17 ≡ item 0 2 33
  pub stored_word : lands_at l circuit 18 ≡ item 0 3 77
  pub interrupt : lands_at l circuit 39 ≡ item 2 2 22

-- what is reckoned to land in cycle t of the first session
abbrev lands_in : ℕ → Item
lands_in t = last_landed one_sheet 0 one_memory (up_to one_events t ++ (cycle_done ∷ []))

lands_first : lands_in 7 ≡ item 0 0 11
unfolding rows is_long vertical_of reckoned_landing leaves_in slot_length entry_beginning begins_at last_of entries_of entry_at schedule_place circuit_at
    neighbour_of walks distance_of least_from any ◌and◌ ◌or◌ ◌≤?◌ ◌<?◌ ◌=?◌
lands_first = refl

lands_second : lands_in 8 ≡ item 0 1 22
unfolding rows is_long vertical_of reckoned_landing leaves_in slot_length entry_beginning begins_at last_of entries_of entry_at schedule_place circuit_at
    neighbour_of walks distance_of least_from any ◌and◌ ◌or◌ ◌≤?◌ ◌<?◌ ◌=?◌
lands_second = refl

lands_third : lands_in 17 ≡ item 0 2 33
unfolding rows is_long vertical_of reckoned_landing leaves_in slot_length entry_beginning begins_at last_of entries_of entry_at schedule_place circuit_at
    neighbour_of walks distance_of least_from any ◌and◌ ◌or◌ ◌≤?◌ ◌<?◌ ◌=?◌
lands_third = refl

lands_stored : lands_in 18 ≡ item 0 3 77
unfolding rows is_long vertical_of reckoned_landing leaves_in slot_length entry_beginning begins_at last_of entries_of entry_at schedule_place circuit_at
    neighbour_of walks distance_of least_from any ◌and◌ ◌or◌ ◌≤?◌ ◌<?◌ ◌=?◌
lands_stored = refl

lands_interrupt : lands_in 39 ≡ item 2 2 22
unfolding rows is_long vertical_of reckoned_landing leaves_in slot_length entry_beginning begins_at last_of entries_of entry_at schedule_place circuit_at
    neighbour_of walks distance_of least_from any ◌and◌ ◌or◌ ◌≤?◌ ◌<?◌ ◌=?◌
lands_interrupt = refl

one_lands : (t : ℕ) → t < 40 → lands_at one 0 t ≡ lands_in t
one_lands t l = landed_by one 0 one_events (omega arith) (one_events_is zeros zeros_long) t l

-- they land in the first session, and so, by demand 3, in the other
pub one_delivers : Delivered one 0
one_delivers = record {
  first_word = one_lands 7 (omega arith) ∙ lands_first;
  second_word = one_lands 8 (omega arith) ∙ lands_second;
  third_word = one_lands 17 (omega arith) ∙ lands_third;
  stored_word = one_lands 18 (omega arith) ∙ lands_stored;
  interrupt = one_lands 39 (omega arith) ∙ lands_interrupt;
}

pub other_delivers : Delivered other 1
other_delivers = record {
  first_word = sym (pair.landings 7 (omega arith)) ∙ one_delivers.first_word;
  second_word = sym (pair.landings 8 (omega arith)) ∙ one_delivers.second_word;
  third_word = sym (pair.landings 17 (omega arith)) ∙ one_delivers.third_word;
  stored_word = sym (pair.landings 18 (omega arith)) ∙ one_delivers.stored_word;
  interrupt = sym (pair.landings 39 (omega arith)) ∙ one_delivers.interrupt;
}

-- directly after 18 cycles all four words have left, and the last lands in the next cycle: a start on the circuit is refused with 17 in the
-- first session; directly after 19 it is taken. What it answers directly after cycle t
abbrev answers_in : ℕ → ℕ
answers_in t = start_answer one_sheet one_memory (up_to one_events t ++ (cycle_done ∷ [])) 0 0 0 1 0

one_answers : (t : ℕ) → t < 40 → number (start 0 0 0 1 0) (standing one (point_after one (suc t))) ≡ answers_in t
one_answers t l = started_by_is one one_events (one_events_is zeros zeros_long) t l 0 0 0 1 0

before_landing : answers_in 17 ≡ 17
unfolding rows is_long vertical_of reckoned_landing leaves_in slot_length entry_beginning begins_at last_of entries_of entry_at schedule_place circuit_at
    neighbour_of walks distance_of least_from any ◌and◌ ◌or◌ ◌≤?◌ ◌<?◌ ◌=?◌ kind_travels lies_in unless ◌then◌ under_way
before_landing = refl

after_landing : answers_in 18 ≡ 0
unfolding rows is_long vertical_of reckoned_landing leaves_in slot_length entry_beginning begins_at last_of entries_of entry_at schedule_place circuit_at
    neighbour_of walks distance_of least_from any ◌and◌ ◌or◌ ◌≤?◌ ◌<?◌ ◌=?◌ kind_travels lies_in unless ◌then◌ under_way
after_landing = refl

-- and so, by demand 3, in the other
pub other_busy : number (start 1 0 0 1 0) (standing other (point_after other 18)) ≡ 17
other_busy =
    is= _ _ (sym ((undisturbed_on zeros zeros zeros_long zeros_long 18 (omega arith)).same_busy 0 0 1 0)
    ∙ yes= (one_answers 17 (omega arith) ∙ before_landing))

pub other_free : number (start 1 0 0 1 0) (standing other (point_after other 19)) ≡ 0
other_free =
    is= _ _ (sym ((undisturbed_on zeros zeros zeros_long zeros_long 19 (omega arith)).same_free 0 0 1 0)
    ∙ yes= (one_answers 18 (omega arith) ∙ after_landing))

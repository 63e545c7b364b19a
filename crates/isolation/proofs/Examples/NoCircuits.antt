-- A session whose sheet has no circuit, loaded by no words or by the seven that they stand for: demand 3's claims about every session hold
-- of it too.
-- Assumes nothing.
use Prim.Native.Nat.{ℕ, ◌*◌, ◌<◌}
use mathlib.Core.List.{List, []}
use mathlib.Core.Path.{◌≡◌, refl, sym, ◌∙◌, ap}
use native.Mathlib.Omega.{arith}
use lib.ListN.{length, replicate, take}
use Rattle.words.specs.Tests.{◌and◌, ◌=?◌, ◌≤?◌}
use Rattle.sheet.specs.Sheet.{blank_sheet, meant, rows, memory_words, circuits, nodes, schedule_place, is_long}
use Rattle.sheet.specs.Rules.{first_broken, check_rules}
use Rattle.sheet.proofs.MeantLaws.{itself, meant_none}
use Rattle.sheet.proofs.CheckLaws.{idle_passes}
use Rattle.std.specs.declared.result.Result.TheVariants.{Ok}
use Rattle.session.specs.Answers.{found_of, period_answer}
use Rattle.session.specs.Calls.{Call, cycle, number, loaded, lend, after_all}
use Rattle.isolation.specs.Sessions.{Session, standing, Event, cycle_done}
use Rattle.isolation.specs.Calendar.{calendar_after}
use Rattle.isolation.proofs.Reckoning.EventsDecided.{events_decided}
use Rattle.isolation.proofs.DemandProved.{demand3}
use Rattle.isolation.proofs.Examples.Witness.{bad_loads_refused, load_zero, zeros, zeros_long}

abbrev pub idle_memory : List ℕ
idle_memory = replicate 4 0

pub memory_long : length idle_memory ≡ nodes blank_sheet * memory_words blank_sheet
unfolding rows is_long ◌≤?◌
memory_long = refl

pub blank_passes : first_broken check_rules blank_sheet ≡ 0
blank_passes = ap (first_broken check_rules) (sym (meant_none [] refl)) ∙ idle_passes

abbrev pub idle_calls : List Call
idle_calls = replicate 9 cycle

-- nine cycles after a load of words that stand for the idle network
abbrev pub idle_on : (given : List ℕ) → blank_sheet ≡ meant given → Session
idle_on given same = record {
  lent = record { state = zeros; memory = idle_memory };
  given = given;
  sheet = blank_sheet;
  sheet_is = same;
  calls = idle_calls;
  is_carried_out = load_zero given blank_sheet zeros idle_memory same blank_passes zeros_long memory_long;
  loads_refused = bad_loads_refused idle_calls _ refl;
}

abbrev pub idle_by_none : Session
idle_by_none = idle_on [] (sym (meant_none [] refl))

abbrev pub idle_by_seven : Session
idle_by_seven = idle_on blank_sheet (itself _ _)

-- at every point the two have the same words
pub same_words : (k : ℕ) → standing idle_by_none k ≡ standing idle_by_seven k
same_words k =
    ap (λ (z : List ℕ). after_all (take k idle_calls) (lend (loaded z zeros) idle_memory)) (meant_none [] refl ∙ itself _ _)

-- it has no circuit
pub none_inside : (circuit : ℕ) → circuit < circuits idle_by_none.sheet → ⊥
none_inside circuit l = omega arith

-- its first cycle is carried out, and after nine cycles the period number answered is 1
pub first_cycle : number cycle (standing idle_by_none 0) ≡ 0
first_cycle = demand3.cycles_carried_out idle_by_none 0 (omega arith) refl

reckoned_number : (calendar_after blank_sheet (replicate 9 cycle_done)).number ≡ 1
unfolding schedule_place ◌and◌ ◌=?◌
reckoned_number = refl

pub second_period : period_answer (standing idle_by_none 9) ≡ Ok 1
second_period =
    demand3.period_number_is idle_by_none 9 (omega arith)
    ∙ ap (λ (es : List Event). found_of 0 (calendar_after blank_sheet es).number) (events_decided idle_by_none 9 (omega arith))
    ∙ ap (found_of 0) reckoned_number

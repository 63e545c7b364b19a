-- What a call that is carried out has passed: the tests of its number, as records with named fields.
-- Assumes nothing.
use Rattle.std.proofs.Common.{◌≡◌, ℕ, ◌*◌, ◌<◌, ◌≤◌, Bool, true, false, not, List, length, sym, refl, ap, ◌∙◌, arith}
use mathlib.Core.Bool.{false≢true}
use native.Mathlib.Decide.{ℕ_discrete}
use Rattle.words.specs.Tests.{◌or◌, ◌≤?◌, ◌=?◌}
use Rattle.words.proofs.TestLaws.{and_left, and_right, is≤, is<, is=, yes=, yes≤}
use Rattle.packet.specs.Header.{data_kind}
use Rattle.sheet.specs.Sheet.{memory_words, circuits, schedules, nodes, circuit_at}
use Rattle.sheet.specs.Rules.{verdict}
use Rattle.sheet.proofs.CheckLaws.{rules_pass}
use Rattle.network.specs.Registers.{reg, sheet_in, room, state_words, clock_row, order_mark_place, left_row}
use Rattle.network.specs.Inner.Machine.{faulty_in}
use Rattle.network.specs.OneMachine.{cycle_fault}
use Rattle.network.specs.Inbound.{is_inbound}
use Rattle.soundness.specs.Sound.{sound, kind_travels}
use Rattle.soundness.proofs.SoundLaws.{Lies, lies}
use Rattle.words.proofs.NumberLaws.{then_zero, unless_zero, zero_then, zero_unless}
use Rattle.session.specs.Calls.{state_number, memory_number, load_words_number, start_named, start_fits, is_busy, start_number, place_number, left_number}
use Rattle.session.specs.Calls.{landed_number, is_pending, ahead, order_number, cycle_number, start_all_number}

-- a test that must not hold
pub not_holds : (b : Bool) → not b ≡ true → b ≡ false
not_holds true e = absurd (false≢true e)
not_holds false e = refl

-- 12 and 13: the state is long enough and sound
pub record StatePassed (s : List ℕ) : Type 0 where
  pub long : state_words ≤ length s
  pub is_sound : sound s ≡ true

pub state_passed : (s : List ℕ) → state_number s ≡ 0 → StatePassed s
unfolding state_number
state_passed s e =
    let p = then_zero _ _ e in
    record { long = is≤ _ _ (unless_zero 12 _ (omega arith) p.0); is_sound = unless_zero 13 _ (omega arith) p.1 }

-- 14 too: the memory has the sheet's length
pub record MemoryPassed (s m : List ℕ) : Type 0 where
  pub state : StatePassed s
  pub whole : length m ≡ nodes (sheet_in s) * room s

pub memory_passed : (s m : List ℕ) → memory_number s m ≡ 0 → MemoryPassed s m
unfolding memory_number
memory_passed s m e =
    let p = then_zero _ _ e in
    record { state = state_passed s p.0; whole = is= _ _ (unless_zero 14 _ (omega arith) p.1) }

-- a load that is carried out
pub record LoadPassed (z s m : List ℕ) : Type 0 where
  pub passes : verdict z ≡ 0
  pub long : state_words ≤ length s
  pub whole : length m ≡ nodes z * memory_words z

pub load_passed : (z s m : List ℕ) → load_words_number z s m ≡ 0 → LoadPassed z s m
unfolding load_words_number
load_passed z s m e =
    let p = then_zero _ _ e in
    let q = then_zero _ _ p.1 in
    record {
      passes = rules_pass z p.0;
      long = is≤ _ _ (unless_zero 12 _ (omega arith) q.0);
      whole = is= _ _ (unless_zero 14 _ (omega arith) q.1);
    }

-- a start that is carried out
pub record StartPassed (s : List ℕ) (circuit read_address write_address count kind : ℕ) : Type 0 where
  pub state : StatePassed s
  pub circuit_inside : circuit < circuits (sheet_in s)
  pub read_inside : read_address < room s
  pub write_inside : write_address < room s
  pub travels : kind_travels kind ≡ true
  pub some : 1 ≤ count
  pub single : kind =? data_kind or count =? 1 ≡ true
  pub reads : Lies (circuit_at (sheet_in s) circuit).read read_address count
  pub writes : Lies (circuit_at (sheet_in s) circuit).receive write_address count
  pub free : reg s left_row circuit ≡ 0
  pub not_inbound : is_inbound s circuit ≡ false

-- a register that is not at least 1
zero_left : (x : ℕ) → not (1 ≤? x) ≡ true → x ≡ 0
zero_left x e = go (ℕ_discrete x 0)
  where
    go : Dec (x ≡ 0) → x ≡ 0
    go (yes q) = q
    go (no q) = absurd (false≢true (sym (not_holds _ e) ∙ yes≤ (omega (arith, q))))

-- neither of two tests holds
neither : (a b : Bool) → not (a or b) ≡ true → (not a ≡ true) × (b ≡ false)
unfolding ◌or◌
neither true b e = absurd (false≢true e)
neither false b e = (refl, not_holds b e)

pub start_passed : (s : List ℕ) (circuit read_address write_address count kind : ℕ)
    → start_number s circuit read_address write_address count kind ≡ 0
    → StartPassed s circuit read_address write_address count kind
unfolding start_number start_named start_fits is_busy
start_passed s circuit read_address write_address count kind e =
    let p = then_zero _ _ e in
    let q = then_zero _ _ p.1 in
    let r = then_zero _ _ q.1 in
    let named = unless_zero 15 _ (omega arith) q.0 in
    let named₁ = and_right _ _ named in
    let named₂ = and_right _ _ named₁ in
    let fits = unless_zero 16 _ (omega arith) r.0 in
    let fits₁ = and_right _ _ fits in
    let fits₂ = and_right _ _ fits₁ in
    let idle = neither _ _ (unless_zero 17 _ (omega arith) r.1) in
    record {
      state = state_passed s p.0;
      circuit_inside = is< _ _ (and_left _ _ named);
      read_inside = is< _ _ (and_left _ _ named₁);
      write_inside = is< _ _ (and_left _ _ named₂);
      travels = and_right _ _ named₂;
      some = is≤ _ _ (and_left _ _ fits);
      single = and_left _ _ fits₁;
      reads = lies _ _ _ (and_left _ _ fits₂);
      writes = lies _ _ _ (and_right _ _ fits₂);
      free = zero_left _ idle.0;
      not_inbound = idle.1;
    }

-- a list of transfers that is taken
pub record ListPassed (s : List ℕ) (transfers answer_words : ℕ) : Type 0 where
  pub state : StatePassed s
  pub few : transfers ≤ 64
  pub answered : transfers ≤ answer_words

pub list_passed : (s : List ℕ) (transfers answer_words : ℕ) → start_all_number s transfers answer_words ≡ 0 → ListPassed s transfers answer_words
unfolding start_all_number
list_passed s transfers answer_words e =
    let p = then_zero _ _ e in
    let both = unless_zero 21 _ (omega arith) p.1 in
    record { state = state_passed s p.0; few = is≤ _ _ (and_left _ _ both); answered = is≤ _ _ (and_right _ _ both) }

-- a store or a fetch that is carried out
pub record PlacePassed (s m : List ℕ) (node address : ℕ) : Type 0 where
  pub memory : MemoryPassed s m
  pub node_inside : node < nodes (sheet_in s)
  pub address_inside : address < room s

pub place_passed : (s m : List ℕ) (node address : ℕ) → place_number s m node address ≡ 0 → PlacePassed s m node address
unfolding place_number
place_passed s m node address e =
    let p = then_zero _ _ e in
    let q = unless_zero 15 _ (omega arith) p.1 in
    record {
      memory = memory_passed s m p.0;
      node_inside = is< _ _ (and_left _ _ q);
      address_inside = is< _ _ (and_right _ _ q);
    }

-- words left, and what landed
pub record LeftPassed (s : List ℕ) (circuit : ℕ) : Type 0 where
  pub state : StatePassed s
  pub circuit_inside : circuit < circuits (sheet_in s)

pub left_passed : (s : List ℕ) (circuit : ℕ) → left_number s circuit ≡ 0 → LeftPassed s circuit
unfolding left_number
left_passed s circuit e =
    let p = then_zero _ _ e in
    record { state = state_passed s p.0; circuit_inside = is< _ _ (unless_zero 15 _ (omega arith) p.1) }

pub record LandedPassed (s : List ℕ) (node : ℕ) : Type 0 where
  pub state : StatePassed s
  pub node_inside : node < nodes (sheet_in s)

pub landed_passed : (s : List ℕ) (node : ℕ) → landed_number s node ≡ 0 → LandedPassed s node
unfolding landed_number
landed_passed s node e =
    let p = then_zero _ _ e in
    record { state = state_passed s p.0; node_inside = is< _ _ (unless_zero 15 _ (omega arith) p.1) }

-- an order that is carried out
pub record OrderPassed (s : List ℕ) (schedule period : ℕ) : Type 0 where
  pub state : StatePassed s
  pub schedule_inside : schedule < schedules (sheet_in s)
  pub free : reg s clock_row order_mark_place ≡ 0
  pub ahead_low : 3 ≤ ahead s period
  pub ahead_high : ahead s period < 2147483648

pub order_passed : (s : List ℕ) (schedule period : ℕ) → order_number s schedule period ≡ 0 → OrderPassed s schedule period
unfolding order_number is_pending
order_passed s schedule period e =
    let p = then_zero _ _ e in
    let q = then_zero _ _ p.1 in
    let r = then_zero _ _ q.1 in
    let far = unless_zero 19 _ (omega arith) r.1 in
    record {
      state = state_passed s p.0;
      schedule_inside = is< _ _ (unless_zero 15 _ (omega arith) q.0);
      free = zero_left _ (unless_zero 18 _ (omega arith) r.0);
      ahead_low = is≤ _ _ (and_left _ _ far);
      ahead_high = is< _ _ (and_right _ _ far);
    }

-- a cycle that is carried out
pub record CyclePassed (s m : List ℕ) : Type 0 where
  pub memory : MemoryPassed s m
  pub calm : faulty_in s ≡ false

pub cycle_passed : (s m : List ℕ) → cycle_number s m ≡ 0 → CyclePassed s m
unfolding cycle_number cycle_fault
cycle_passed s m e =
    let p = then_zero _ _ e in
    record { memory = memory_passed s m p.0; calm = not_holds _ (unless_zero 20 _ (omega arith) p.1) }

-- and back
pub cycle_zero : (s m : List ℕ) → CyclePassed s m → cycle_number s m ≡ 0
unfolding cycle_number memory_number state_number cycle_fault
cycle_zero s m p =
    zero_then
    (zero_then (zero_then (zero_unless 12 (yes≤ p.memory.state.long)) (zero_unless 13 p.memory.state.is_sound))
    (zero_unless 14 (yes= p.memory.whole)))
    (zero_unless 20 (ap not p.calm))

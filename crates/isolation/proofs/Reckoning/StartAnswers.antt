-- What a start answers on a session's words: its tests read the sheet, the start's own numbers, and whether the circuit is busy.
-- Assumes nothing.
use Prim.Native.Nat.{ℕ, ◌<◌}
use mathlib.Core.Bool.{Bool, true, false, not}
use mathlib.Core.List.{List}
use mathlib.Core.Path.{◌≡◌, refl, sym, ◌∙◌, ap}
use native.Mathlib.Omega.{arith}
use Rattle.words.specs.Tests.{◌and◌, ◌or◌, ◌≤?◌, ◌<?◌, ◌=?◌}
use Rattle.words.specs.Numbers.{unless, ◌then◌}
use Rattle.words.proofs.TestLaws.{and_left, and_right, and_no_right, is≤, yes≤, yes<}
use Rattle.words.proofs.NumberLaws.{zero_then, zero_unless, then_next}
use Rattle.packet.specs.Header.{data_kind}
use Rattle.sheet.specs.declared.circuits.Circuit.{Circuit}
use Rattle.sheet.specs.Sheet.{memory_words, circuits, circuit_at}
use Rattle.soundness.specs.Sound.{kind_travels, lies_in}
use Rattle.soundness.proofs.SoundLaws.{lies}
use Rattle.soundness.proofs.SheetLaws.{circuit_bounds}
use Rattle.session.specs.Calls.{Lent, start, number, state_number, start_named, start_fits, is_busy, start_number}
use Rattle.isolation.specs.Sessions.{Session, standing}
use Rattle.isolation.specs.Calendar.{cycles_done}
use Rattle.isolation.specs.Demand.{its_record, reckoned_at, reckoned_busy}
use Rattle.isolation.proofs.Reckoning.Stream.{Fine, fine_bounds}

-- the tests of 15, on a sheet, and of 16, by a circuit's regions
abbrev pub named_on : List ℕ → ℕ → ℕ → ℕ → ℕ → Bool
named_on z circuit read_address write_address kind =
    circuit <? circuits z and read_address <? memory_words z and write_address <? memory_words z and kind_travels kind

abbrev pub fits_in : Circuit → ℕ → ℕ → ℕ → ℕ → Bool
fits_in m read_address write_address count kind =
    1 ≤? count and (kind =? data_kind or count =? 1) and lies_in m.read read_address count and lies_in m.receive write_address count

-- 15, 16 and 17 in turn: 17 and 0 by the three tests
answer_17 : (named fits busy : Bool)
    → ((unless 15 named then unless 16 fits then unless 17 (not busy)) =? 17) ≡ (named and fits and busy)
unfolding unless ◌then◌ ◌and◌ ◌=?◌
answer_17 true true true = refl
answer_17 true true false = refl
answer_17 true false busy = refl
answer_17 false fits busy = refl

answer_0 : (named fits busy : Bool)
    → ((unless 15 named then unless 16 fits then unless 17 (not busy)) =? 0) ≡ (named and fits and not busy)
unfolding unless ◌then◌ ◌and◌ ◌=?◌
answer_0 true true true = refl
answer_0 true true false = refl
answer_0 true false busy = refl
answer_0 false fits busy = refl

module _ (z : List ℕ) (w : Lent) (f : Fine z w) where
  -- 12 and 13 do not apply
  pub state_zero : state_number w.state ≡ 0
  unfolding state_number
  state_zero = zero_then (zero_unless 12 (yes≤ f.long)) (zero_unless 13 f.is_sound)

  module _ (circuit read_address write_address count kind : ℕ) where
    -- so a start answers by the rest of its tests
    pub start_is : number (start circuit read_address write_address count kind) w
        ≡ (unless 15 (named_on z circuit read_address write_address kind)
        then unless 16 (fits_in (circuit_at z circuit) read_address write_address count kind)
        then unless 17 (not (is_busy w.state circuit)))
    unfolding start_number start_named start_fits
    start_is =
        sym (then_next state_zero refl)
        ∙ ap (λ (y : List ℕ).
        unless 15 (named_on y circuit read_address write_address kind)
        then unless 16 (fits_in (circuit_at y circuit) read_address write_address count kind)
        then unless 17 (not (is_busy w.state circuit))) f.sheet_is

    -- what fits a circuit's regions is named but for its kind
    named_fits : circuit < circuits z → (busy : Bool)
        → (named_on z circuit read_address write_address kind and fits_in (circuit_at z circuit) read_address write_address count kind and busy)
        ≡ (kind_travels kind and fits_in (circuit_at z circuit) read_address write_address count kind and busy)
    unfolding ◌and◌
    named_fits inside busy = go (fits_in (circuit_at z circuit) read_address write_address count kind) refl
      where
        fits : Bool
        fits = fits_in (circuit_at z circuit) read_address write_address count kind

        go : (b : Bool) → fits ≡ b
            → (named_on z circuit read_address write_address kind and b and busy) ≡ (kind_travels kind and b and busy)
        go false e =
            and_no_right (named_on z circuit read_address write_address kind) false refl ∙ sym (and_no_right (kind_travels kind) false refl)
        go true e =
            let small = circuit_bounds z (fine_bounds z w f) circuit inside in
            let m : Circuit = circuit_at z circuit in
            let single : Bool = kind =? data_kind or count =? 1 in
            let here : Bool = lies_in m.read read_address count in
            let there : Bool = lies_in m.receive write_address count in
            let some = is≤ 1 count (and_left (1 ≤? count) (single and here and there) e) in
            let both : here and there ≡ true = and_right single (here and there) (and_right (1 ≤? count) (single and here and there) e) in
            let reads = lies m.read read_address count (and_left here there both) in
            let writes = lies m.receive write_address count (and_right here there both) in
            let read-in : (read_address <? memory_words z) ≡ true = yes< (omega (arith, reads.high, small.read_ends, some)) in
            let write-in : (write_address <? memory_words z) ≡ true = yes< (omega (arith, writes.high, small.receive_ends, some)) in
            ap (λ (b : Bool). (b and read_address <? memory_words z and write_address <? memory_words z and kind_travels kind) and busy) (yes< inside)
            ∙ ap (λ (b : Bool). (b and write_address <? memory_words z and kind_travels kind) and busy) read-in
            ∙ ap (λ (b : Bool). (b and kind_travels kind) and busy) write-in

    -- a circuit's start answers 17, and 0, by its kind, its circuit's regions, and whether the circuit is busy
    pub start_17 : circuit < circuits z
        → (number (start circuit read_address write_address count kind) w =? 17)
        ≡ (kind_travels kind and fits_in (circuit_at z circuit) read_address write_address count kind and is_busy w.state circuit)
    start_17 inside =
        ap (λ (n : ℕ). n =? 17) start_is ∙ answer_17 _ _ (is_busy w.state circuit) ∙ named_fits inside (is_busy w.state circuit)

    pub start_0 : circuit < circuits z
        → (number (start circuit read_address write_address count kind) w =? 0)
        ≡ (kind_travels kind and fits_in (circuit_at z circuit) read_address write_address count kind and not (is_busy w.state circuit))
    start_0 inside =
        ap (λ (n : ℕ). n =? 0) start_is ∙ answer_0 _ _ (is_busy w.state circuit) ∙ named_fits inside (not (is_busy w.state circuit))

-- what a session answers to starts on a circuit, by the circuit's regions and its reckoning
pub record StartsBy (l : Session) (circuit : ℕ) : Type 0 where
  pub refused_17 : (k read_address write_address count kind : ℕ)
      → (number (start circuit read_address write_address count kind) (standing l k) =? 17)
      ≡ (kind_travels kind and fits_in (its_record l circuit) read_address write_address count kind
      and reckoned_busy l.sheet circuit (reckoned_at l circuit k) (cycles_done l k))
  pub taken : (k read_address write_address count kind : ℕ)
      → (number (start circuit read_address write_address count kind) (standing l k) =? 0)
      ≡ (kind_travels kind and fits_in (its_record l circuit) read_address write_address count kind
      and not (reckoned_busy l.sheet circuit (reckoned_at l circuit k) (cycles_done l k)))

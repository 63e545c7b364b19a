-- No two reasons have one number: a number gives its reason back. So a clause about an answer's number settles the answer.
-- Assumes nothing.
use Prim.Native.Nat.{ℕ}
use mathlib.Core.Path.{◌≡◌, refl, sym, ◌∙◌, ap}
use mathlib.Core.List.{List, [], ◌∷◌}
use lib.ListN.{get_or}
use Rattle.refusal.specs.declared.Refusal.{Refusal}
use Rattle.refusal.specs.declared.Refusal.TheVariants.{HeadMissing, HeadOutOfRange, WrongLength, WrongCircuit, CircuitsUnordered, RegionsOverlap, EntryOutOfRange, EntriesUnordered, WrongRoute, EndsTooLate, WireTaken, StateTooShort, StateUnsound, WrongMemory, DoesNotExist, WrongCount, CircuitBusy, OrderPending, PeriodNotAhead, CycleAtFault, WrongList, CircuitUnserved, WrongTimetable, MinuteOutOfRange}
use Rattle.refusal.specs.Numbers.{refusal_number}

-- by number; where no reason has one, any stands
reasons : List Refusal
reasons =
    HeadMissing ∷ HeadMissing ∷ HeadOutOfRange ∷ WrongLength ∷ WrongCircuit ∷ CircuitsUnordered ∷ RegionsOverlap ∷ EntryOutOfRange ∷ EntriesUnordered ∷ WrongRoute ∷ EndsTooLate ∷ WireTaken ∷ StateTooShort ∷ StateUnsound ∷ WrongMemory ∷ DoesNotExist ∷ WrongCount ∷ CircuitBusy ∷ OrderPending ∷ PeriodNotAhead ∷ CycleAtFault ∷ WrongList ∷ HeadMissing ∷ HeadMissing ∷ HeadMissing ∷ HeadMissing ∷ CircuitUnserved ∷ HeadMissing ∷ HeadMissing ∷ HeadMissing ∷ HeadMissing ∷ WrongTimetable ∷ MinuteOutOfRange ∷ []

reason : ℕ → Refusal
reason n = get_or reasons n HeadMissing

given_back : (r : Refusal) → reason (refusal_number r) ≡ r
unfolding reason reasons
given_back HeadMissing = refl
given_back HeadOutOfRange = refl
given_back WrongLength = refl
given_back WrongCircuit = refl
given_back CircuitsUnordered = refl
given_back RegionsOverlap = refl
given_back EntryOutOfRange = refl
given_back EntriesUnordered = refl
given_back WrongRoute = refl
given_back EndsTooLate = refl
given_back WireTaken = refl
given_back StateTooShort = refl
given_back StateUnsound = refl
given_back WrongMemory = refl
given_back DoesNotExist = refl
given_back WrongCount = refl
given_back CircuitBusy = refl
given_back OrderPending = refl
given_back PeriodNotAhead = refl
given_back CycleAtFault = refl
given_back WrongList = refl
given_back CircuitUnserved = refl
given_back WrongTimetable = refl
given_back MinuteOutOfRange = refl

pub same_reason : (a b : Refusal) → refusal_number a ≡ refusal_number b → a ≡ b
same_reason a b e = sym (given_back a) ∙ ap reason e ∙ given_back b

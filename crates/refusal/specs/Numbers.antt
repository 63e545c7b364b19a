-- The numbers of refusals, as docs/INTERFACE.md lists them, and the answers that a number stands for.
use Rattle.std.specs.Prelude.{ℕ, Result}
use Rattle.std.specs.declared.result.Result.TheVariants.{Ok, Err}
use Rattle.refusal.specs.declared.Refusal.{Refusal}
use Rattle.refusal.specs.declared.Refusal.TheVariants.{HeadMissing, HeadOutOfRange, WrongLength, WrongCircuit, CircuitsUnordered, RegionsOverlap, EntryOutOfRange, EntriesUnordered, WrongRoute, EndsTooLate, WireTaken, StateTooShort, StateUnsound, WrongMemory, DoesNotExist, WrongCount, CircuitBusy, OrderPending, PeriodNotAhead, CycleAtFault, WrongList, CircuitUnserved, WrongTimetable, MinuteOutOfRange}

abbrev pub refusal_number : Refusal → ℕ
refusal_number HeadMissing = 1
refusal_number HeadOutOfRange = 2
refusal_number WrongLength = 3
refusal_number WrongCircuit = 4
refusal_number CircuitsUnordered = 5
refusal_number RegionsOverlap = 6
refusal_number EntryOutOfRange = 7
refusal_number EntriesUnordered = 8
refusal_number WrongRoute = 9
refusal_number EndsTooLate = 10
refusal_number WireTaken = 11
refusal_number StateTooShort = 12
refusal_number StateUnsound = 13
refusal_number WrongMemory = 14
refusal_number DoesNotExist = 15
refusal_number WrongCount = 16
refusal_number CircuitBusy = 17
refusal_number OrderPending = 18
refusal_number PeriodNotAhead = 19
refusal_number CycleAtFault = 20
refusal_number WrongList = 21
refusal_number CircuitUnserved = 26
refusal_number WrongTimetable = 31
refusal_number MinuteOutOfRange = 32

-- the number of an answer: 0 where nothing was refused
abbrev pub number_of : {A : Type 0} → Result A Refusal → ℕ
number_of (Ok x) = 0
number_of (Err e) = refusal_number e

-- an answer with its refusal's number in the refusal's place
abbrev pub numbered : {A : Type 0} → Result A Refusal → Result A ℕ
numbered (Ok x) = Ok x
numbered (Err e) = Err (refusal_number e)

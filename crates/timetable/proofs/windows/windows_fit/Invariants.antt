-- The windows before `k` fit and are in order, and `ended` is where the last of them has ended.
use Rattle.timetable.proofs.TimetableLaws.{Kept}
use Rattle.timetable.proofs.windows.windows_fit.Given as goal

abbrev pub invariant-loop-k : goal.invariant-loop-k
invariant-loop-k l = Kept l.words l.k l.ended

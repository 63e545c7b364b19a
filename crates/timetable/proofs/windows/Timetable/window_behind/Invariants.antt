-- Every window before `k` has ended by the minute.
use Rattle.timetable.specs.Inner.Edges.{EndedBefore}
use Rattle.timetable.proofs.windows.Timetable.window_behind.Given as goal

abbrev pub invariant-loop-k : goal.invariant-loop-k
invariant-loop-k l = EndedBefore l.self.words.now l.minute l.k

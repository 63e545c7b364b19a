-- Every minute from `from` on that lies before `at` has the schedule, since it stays up to the next edge.
use Rattle.std.proofs.Common.{◌≤◌, ◌-◌}
use Rattle.timetable.specs.Inner.Edges.{EndedBefore}
use Rattle.timetable.proofs.WalkLaws.{Passed}
use Rattle.timetable.proofs.windows.Timetable.first_change.Given as goal

abbrev pub invariant-loop-at : goal.invariant-loop-at
invariant-loop-at l = EndedBefore l.self.words.now l.at l.window × (l.from ≤ l.at) × Passed l.self.words.now l.from l.at l.schedule

abbrev pub decreases-loop-at : goal.decreases-loop-at
decreases-loop-at l = l.to - l.at

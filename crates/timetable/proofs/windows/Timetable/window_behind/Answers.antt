use Rattle.std.proofs.Common.{arith}
use Rattle.timetable.proofs.TimetableLaws.{end_is, ended_more}
use Rattle.timetable.proofs.windows.Timetable.window_behind.Goals as goal

pub returns-then-end-from : goal.returns-then-end-from
returns-then-end-from c =
    let window = c.at.ensures in
    (c.loop-k.invariant, λ l. omega (arith, end_is _ _ c.end.ensures window.start window.minutes))

pub loop-k-preserved : goal.loop-k-preserved
loop-k-preserved c =
    let window = c.at.ensures in
    ended_more _ _ _ c.loop-k.invariant (omega arith) (omega (arith, end_is _ _ c.end.ensures window.start window.minutes))

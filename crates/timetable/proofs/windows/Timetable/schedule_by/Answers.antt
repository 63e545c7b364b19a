-- Windows before the given one have ended, and later ones have not started, so it alone can cover the minute.
use Rattle.std.proofs.Common.{◌∙◌, arith}
use Rattle.timetable.proofs.TimetableLaws.{schedule_there, schedule_none}
use Rattle.timetable.proofs.windows.Timetable.schedule_by.Goals as goal

pub returns-then-k-count : goal.returns-then-k-count
returns-then-k-count c = schedule_none _ c.args.self.now.valid _ _ c.requires (λ l. omega arith)

pub returns-then-window-minute : goal.returns-then-window-minute
returns-then-window-minute c =
    let window = c.at-window.ensures in
    window.schedule ∙ schedule_there _ c.args.self.now.valid _ _ c.requires (omega arith) (omega (arith, window.start))

pub returns-else-window-minute : goal.returns-else-window-minute
returns-else-window-minute c = schedule_none _ c.args.self.now.valid _ _ c.requires (λ l. omega (arith, c.at-window.ensures.start))

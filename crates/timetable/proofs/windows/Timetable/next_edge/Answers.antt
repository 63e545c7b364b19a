-- Windows before the given one have ended, and later ones start no earlier than it ends, so its next edge is the next of all.
use Rattle.std.proofs.Common.{◌≡◌, ◌∙◌, arith}
use Rattle.timetable.specs.Timetable.{end_at}
use Rattle.timetable.proofs.TimetableLaws.{ends, end_is}
use Rattle.timetable.proofs.EdgeLaws.{edge_start, edge_end, edge_week}
use Rattle.timetable.proofs.windows.Timetable.next_edge.Goals.{After-end}
use Rattle.timetable.proofs.windows.Timetable.next_edge.Goals as goal

pub returns-then-k-count : goal.returns-then-k-count
returns-then-k-count c = edge_week _ c.args.self.now.valid _ _ c.requires.0 c.requires.1 (omega arith)

pub returns-then-minute-window : goal.returns-then-minute-window
returns-then-minute-window c =
    let start = c.at-window.ensures.start in
    start ∙ edge_start _ c.args.self.now.valid _ _ c.requires.0 c.requires.1 (omega arith) (omega (arith, start))

end : (c : After-end) → c.end.result ≡ end_at c.args.self.now.words.now c.args.k
end c =
    let window = c.at-window.ensures in
    end_is _ _ c.end.ensures window.start window.minutes

pub overflow_cast-result : goal.overflow_cast-result
overflow_cast-result c = omega (arith, end c, ends _ c.args.self.now.valid c.args.k (omega arith))

pub returns-else-minute-window : goal.returns-else-minute-window
returns-else-minute-window c =
    end c ∙ edge_end _ c.args.self.now.valid _ _ c.requires.0 c.requires.1 (omega arith) (omega (arith, c.at-window.ensures.start))

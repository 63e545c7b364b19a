use Rattle.std.proofs.Common.{arith}
use Rattle.timetable.proofs.EdgeLaws.{edge_later}
use Rattle.timetable.proofs.WalkLaws.{passed_none, passed_more, change_found, change_none, ended_on}
use Rattle.timetable.proofs.windows.Timetable.first_change.Goals as goal

pub loop-at-init : goal.loop-at-init
loop-at-init c = ((omega arith, λ j l. absurd (let z : ⊥ = omega arith in z)), omega arith, passed_none _ _ _)

pub returns-then-schedule_by-schedule : goal.returns-then-schedule_by-schedule
returns-then-schedule_by-schedule c =
    let l = c.loop-at in
    change_found _ _ _ _ _ l.invariant.2 l.invariant.1 (omega arith) (λ e. omega (arith, c.schedule_by.ensures))

pub loop-at-smaller : goal.loop-at-smaller
loop-at-smaller c = omega (arith, c.next_edge-at.ensures, edge_later c.args.self.now.words.now c.loop-at.at)

pub loop-at-preserved : goal.loop-at-preserved
loop-at-preserved c =
    let l = c.loop-at in (
      ended_on _ _ _ c.window_behind-window.ensures.0 c.next_edge-at.ensures,
      omega (arith, c.next_edge-at.ensures, edge_later c.args.self.now.words.now l.at),
      passed_more _ _ _ _ l.invariant.2 c.schedule_by.ensures (omega arith) c.next_edge-at.ensures,
    )

pub returns : goal.returns
returns c = change_none _ _ _ _ _ c.loop-at.invariant.2 (omega arith) (omega arith)

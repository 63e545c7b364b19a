-- The walk to the week's end and the walk up to the same minute of the next week together see each other minute once.
use Rattle.std.proofs.Common.{ℕ, List, sym, ap, ◌∙◌, arith}
use Rattle.std.proofs.lemmas.Result.{err_from_is_err_and}
use Rattle.timetable.specs.Timetable.{hours_answer}
use Rattle.timetable.proofs.HoursLaws.{unfit, outside, this_week_is, next_week_is, always_is}
use Rattle.timetable.proofs.mode_at.Goals as goal

pub returns-in_err-timetable : goal.returns-in_err-timetable
returns-in_err-timetable c =
    let p = err_from_is_err_and c.from_residual.result c.from_residual.ensures.1 in
    let e = c.in_err-timetable.ensures in
    rw (p.1, p.2, e.0) (unfit c.args.list.now c.args.minute e.1)

pub returns-then-minute-ge-WEEK : goal.returns-then-minute-ge-WEEK
returns-then-minute-ge-WEEK c =
    let lent = ap (λ (t : List ℕ). hours_answer t c.args.minute) c.in_ok-timetable.ensures in
    outside _ _ c.in_ok-timetable.timetable.valid (omega arith) ∙ lent

pub returns-in-Some : goal.returns-in-Some
returns-in-Some c =
    let lent = ap (λ (t : List ℕ). hours_answer t c.args.minute) c.in_ok-timetable.ensures in
    let this_week = sym c.first_change.ensures ∙ c.in-Some.is in
    this_week_is _ _ _ c.in_ok-timetable.timetable.valid (omega arith) c.schedule_in-schedule.ensures _ this_week ∙ lent

pub returns-in-Some-first_change : goal.returns-in-Some-first_change
returns-in-Some-first_change c =
    let lent = ap (λ (t : List ℕ). hours_answer t c.args.minute) c.in_ok-timetable.ensures in
    let none = sym c.first_change.ensures ∙ c.in_default.is in
    let next_week = sym c.first_change-2.ensures ∙ c.in-Some-first_change.is in
    next_week_is _ _ _ c.in_ok-timetable.timetable.valid (omega arith) c.schedule_in-schedule.ensures none _ next_week ∙ lent

pub returns : goal.returns
returns c =
    let lent = ap (λ (t : List ℕ). hours_answer t c.args.minute) c.in_ok-timetable.ensures in
    let none = sym c.first_change.ensures ∙ c.in_default.is in
    let absent = sym c.first_change-2.ensures ∙ c.in_default-first_change.is in
    always_is _ _ _ c.in_ok-timetable.timetable.valid (omega arith) c.schedule_in-schedule.ensures none absent ∙ lent

-- `checker::check_entries` meets its contract: the sheet's number first, then whether the schedule exists.
use Rattle.std.proofs.Common.{refl, ◌∙◌, arith}
use Rattle.refusal.proofs.AnswerLaws.{is_some, handed_on}
use Rattle.checker.proofs.AnswerLaws.{sheet_refused, schedule_there, schedule_absent}
use Rattle.checker.proofs.check_entries.Goals as goal

pub returns-in_err-check_sheet : goal.returns-in_err-check_sheet
returns-in_err-check_sheet c =
    handed_on _ _ c.from_residual.ensures ∙ sheet_refused _ _ _ c.in_err-check_sheet.ensures (is_some _)

pub returns-then-j-schedules_meant : goal.returns-then-j-schedules_meant
returns-then-j-schedules_meant c =
    schedule_absent _ _ _ c.in_ok-check_sheet.ensures refl (omega (arith, c.schedules_meant.ensures))

pub returns : goal.returns
returns c = schedule_there _ _ _ c.in_ok-check_sheet.ensures refl (omega (arith, c.schedules_meant.ensures))

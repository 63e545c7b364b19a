-- `checker::check_rules` meets its contract: a sheet that is accepted has the verdict 0, and of any other the three groups of rules follow each other in the
-- list of rules.
use mathlib.Core.Path.{refl, ◌∙◌, ap}
use Rattle.sheet.specs.Rules.{circuit_rules, entry_rules, first_broken}
use Rattle.refusal.proofs.AnswerLaws.{is_some, handed_on}
use Rattle.checker.proofs.AnswerLaws.{frame_decides, circuits_decide, entries_decide}
use Rattle.checker.proofs.check_rules.Goals as goal

pub returns-in_err-frame : goal.returns-in_err-frame
returns-in_err-frame c =
    handed_on _ _ c.from_residual.ensures ∙ frame_decides _ _ c.in_err-frame.ensures.number (is_some _)

pub returns-in_err-circuits : goal.returns-in_err-circuits
returns-in_err-circuits c =
    let frame = c.in_ok-frame.ensures in
    handed_on _ _ c.from_residual-in_err-circuits.ensures
    ∙ circuits_decide _ _ frame.number refl _ (c.in_err-circuits.ensures.number ∙ ap (first_broken circuit_rules) frame.words) (is_some _)

pub returns : goal.returns
returns c =
    let frame = c.in_ok-frame.ensures in
    let circuits = c.in_ok-circuits.ensures in
    entries_decide _ _ frame.number refl _ (circuits.number ∙ ap (first_broken circuit_rules) frame.words) refl _
    (c.check_schedules.ensures ∙ ap (first_broken entry_rules) (circuits.words ∙ frame.words))

-- `checker::schedules_meant` meets its contract: an idle network has one schedule.
use Rattle.std.proofs.Common.{◌≡◌, sym, ◌∙◌, ap, length, arith}
use Rattle.std.proofs.lemmas.Bool.Decides.{nat_tests}
use Rattle.sheet.specs.Sheet.{schedules}
use Rattle.sheet.proofs.MeantLaws.{meant_none, meant_some}
use Rattle.checker.proofs.schedules_meant.Goals as goal

pub returns-then-is_empty : goal.returns-then-is_empty
returns-then-is_empty c =
    let none : length c.args.z.now ≡ 0 = grind (arith, nat_tests) in
    omega (arith, ap schedules (meant_none c.args.z.now none))

pub returns : goal.returns
returns c =
    let some : length c.args.z.now ≡ 0 → ⊥ = grind (arith, nat_tests) in
    c.schedules_of.ensures ∙ ap schedules (sym (meant_some _ some))

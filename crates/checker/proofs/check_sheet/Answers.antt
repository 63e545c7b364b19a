-- `checker::check_sheet` meets its contract: words stand for themselves, and no words for an idle network, which passes.
use Rattle.std.proofs.Common.{◌≡◌, sym, ◌∙◌, length, arith}
use Rattle.std.proofs.lemmas.Bool.Decides.{nat_tests}
use Rattle.sheet.proofs.MeantLaws.{number_none, number_some}
use Rattle.checker.proofs.check_sheet.Goals as goal

pub returns-then-is_empty : goal.returns-then-is_empty
returns-then-is_empty c =
    let none : length c.args.z.now ≡ 0 = grind (arith, nat_tests) in
    sym (number_none _ none)

pub returns-else-is_empty : goal.returns-else-is_empty
returns-else-is_empty c =
    let some : length c.args.z.now ≡ 0 → ⊥ = grind (arith, nat_tests) in
    c.check_rules.ensures ∙ sym (number_some _ some)

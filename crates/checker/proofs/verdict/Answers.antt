-- `checker::verdict` meets its contract: no words stand for an idle network, which passes; of others 1 to 11 decide, then 26.
use Rattle.std.proofs.Common.{◌≡◌, refl, sym, ◌∙◌, length, arith}
use Rattle.std.proofs.lemmas.Bool.Decides.{nat_tests}
use Rattle.refusal.proofs.AnswerLaws.{is_some, handed_on}
use Rattle.sheet.proofs.CheckLaws.{number_first, number_ranged, number_served, number_unserved, check_none, check_some}
use Rattle.checker.proofs.verdict.Goals as goal

pub returns-then-is_empty : goal.returns-then-is_empty
returns-then-is_empty c =
    let none : length c.args.z.now ≡ 0 = grind (arith, nat_tests) in
    sym (check_none _ none)

pub returns-in_err-check_rules : goal.returns-in_err-check_rules
returns-in_err-check_rules c =
    let some : length c.args.z.now ≡ 0 → ⊥ = grind (arith, nat_tests) in
    handed_on _ _ c.from_residual.ensures ∙ number_first _ c.in_err-check_rules.ensures (is_some _) ∙ sym (check_some _ some)

pub keeps_rule26-requires : goal.keeps_rule26-requires
keeps_rule26-requires c = number_ranged _ c.in_ok-check_rules.ensures refl

pub returns-then-not-keeps_rule26 : goal.returns-then-not-keeps_rule26
returns-then-not-keeps_rule26 c =
    let some : length c.args.z.now ≡ 0 → ⊥ = grind (arith, nat_tests) in
    number_unserved _ c.in_ok-check_rules.ensures refl c.keeps_rule26.ensures c.if-not-keeps_rule26.true ∙ sym (check_some _ some)

pub returns : goal.returns
returns c =
    let some : length c.args.z.now ≡ 0 → ⊥ = grind (arith, nat_tests) in
    number_served _ c.in_ok-check_rules.ensures refl c.keeps_rule26.ensures c.if-not-keeps_rule26.false ∙ sym (check_some _ some)

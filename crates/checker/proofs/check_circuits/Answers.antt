-- `checker::check_circuits` meets its contract: Numbers 4 to 6: each test decides where those before it are passed.
use mathlib.Core.Path.{sym, ◌∙◌}
use Rattle.sheet.proofs.VerdictLaws.{here, on, done}
use Rattle.checker.proofs.check_circuits.Goals as goal

pub returns-then-not-keeps_rule4-clause-number : goal.returns-then-not-keeps_rule4-clause-number
returns-then-not-keeps_rule4-clause-number c =
    here _ _ _ (sym c.keeps_rule4.ensures ∙ c.if-not-keeps_rule4.true)

pub returns-then-not-keeps_rule5-clause-number : goal.returns-then-not-keeps_rule5-clause-number
returns-then-not-keeps_rule5-clause-number c =
    on _ _ _ (sym c.keeps_rule4.ensures ∙ c.if-not-keeps_rule4.false) (here _ _ _ (sym c.keeps_rule5.ensures ∙ c.if-not-keeps_rule5.true))

pub returns-then-not-keeps_rule6-clause-number : goal.returns-then-not-keeps_rule6-clause-number
returns-then-not-keeps_rule6-clause-number c =
    on _ _ _ (sym c.keeps_rule4.ensures ∙ c.if-not-keeps_rule4.false) (on _ _ _ (sym c.keeps_rule5.ensures ∙ c.if-not-keeps_rule5.false) (here _ _ _ (sym c.keeps_rule6.ensures ∙ c.if-not-keeps_rule6.true)))

pub returns-clause-number : goal.returns-clause-number
returns-clause-number c =
    on _ _ _ (sym c.keeps_rule4.ensures ∙ c.if-not-keeps_rule4.false) (on _ _ _ (sym c.keeps_rule5.ensures ∙ c.if-not-keeps_rule5.false) (on _ _ _ (sym c.keeps_rule6.ensures ∙ c.if-not-keeps_rule6.false) (done _)))

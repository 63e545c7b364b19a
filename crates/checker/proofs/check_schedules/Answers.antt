-- `checker::check_schedules` meets its contract: Numbers 7 to 11: each test decides where those before it are passed, and they give what the later ones ask.
use mathlib.Core.Path.{sym, ◌∙◌}
use Rattle.sheet.proofs.VerdictLaws.{here, on, done}
use Rattle.checker.proofs.check_schedules.Goals as goal

pub returns-then-not-keeps_rule7 : goal.returns-then-not-keeps_rule7
returns-then-not-keeps_rule7 c =
    here _ _ _ (sym c.keeps_rule7.ensures ∙ c.if-not-keeps_rule7.true)

pub returns-then-not-keeps_rule8 : goal.returns-then-not-keeps_rule8
returns-then-not-keeps_rule8 c =
    on _ _ _ (sym c.keeps_rule7.ensures ∙ c.if-not-keeps_rule7.false) (here _ _ _ (sym c.keeps_rule8.ensures ∙ c.if-not-keeps_rule8.true))

pub returns-then-not-keeps_rule9 : goal.returns-then-not-keeps_rule9
returns-then-not-keeps_rule9 c =
    on _ _ _ (sym c.keeps_rule7.ensures ∙ c.if-not-keeps_rule7.false) (on _ _ _ (sym c.keeps_rule8.ensures ∙ c.if-not-keeps_rule8.false) (here _ _ _ (sym c.keeps_rule9.ensures ∙ c.if-not-keeps_rule9.true)))

pub returns-then-not-keeps_rule10 : goal.returns-then-not-keeps_rule10
returns-then-not-keeps_rule10 c =
    on _ _ _ (sym c.keeps_rule7.ensures ∙ c.if-not-keeps_rule7.false) (on _ _ _ (sym c.keeps_rule8.ensures ∙ c.if-not-keeps_rule8.false) (on _ _ _ (sym c.keeps_rule9.ensures ∙ c.if-not-keeps_rule9.false) (here _ _ _ (sym c.keeps_rule10.ensures ∙ c.if-not-keeps_rule10.true))))

pub returns-then-not-keeps_rule11 : goal.returns-then-not-keeps_rule11
returns-then-not-keeps_rule11 c =
    on _ _ _ (sym c.keeps_rule7.ensures ∙ c.if-not-keeps_rule7.false) (on _ _ _ (sym c.keeps_rule8.ensures ∙ c.if-not-keeps_rule8.false) (on _ _ _ (sym c.keeps_rule9.ensures ∙ c.if-not-keeps_rule9.false) (on _ _ _ (sym c.keeps_rule10.ensures ∙ c.if-not-keeps_rule10.false) (here _ _ _ (sym c.keeps_rule11.ensures ∙ c.if-not-keeps_rule11.true)))))

pub returns : goal.returns
returns c =
    on _ _ _ (sym c.keeps_rule7.ensures ∙ c.if-not-keeps_rule7.false) (on _ _ _ (sym c.keeps_rule8.ensures ∙ c.if-not-keeps_rule8.false) (on _ _ _ (sym c.keeps_rule9.ensures ∙ c.if-not-keeps_rule9.false) (on _ _ _ (sym c.keeps_rule10.ensures ∙ c.if-not-keeps_rule10.false) (on _ _ _ (sym c.keeps_rule11.ensures ∙ c.if-not-keeps_rule11.false) (done _)))))

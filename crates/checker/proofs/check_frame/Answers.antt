-- `checker::check_frame` meets its contract: Numbers 1 to 3: each test decides where those before it are passed, and the first two give what the third asks.
use mathlib.Core.Path.{sym, ◌∙◌}
use Rattle.sheet.proofs.PassedLaws.{headed, framed}
use Rattle.sheet.proofs.VerdictLaws.{here, on, done}
use Rattle.checker.proofs.check_frame.Goals as goal

pub keeps_rule3-requires : goal.keeps_rule3-requires
keeps_rule3-requires c = headed _ (sym c.keeps_rule1.ensures ∙ c.if-not-keeps_rule1.false) (sym c.keeps_rule2.ensures ∙ c.if-not-keeps_rule2.false)

pub returns-then-not-keeps_rule1-clause-number : goal.returns-then-not-keeps_rule1-clause-number
returns-then-not-keeps_rule1-clause-number c =
    here _ _ _ (sym c.keeps_rule1.ensures ∙ c.if-not-keeps_rule1.true)

pub returns-then-not-keeps_rule2-clause-number : goal.returns-then-not-keeps_rule2-clause-number
returns-then-not-keeps_rule2-clause-number c =
    on _ _ _ (sym c.keeps_rule1.ensures ∙ c.if-not-keeps_rule1.false) (here _ _ _ (sym c.keeps_rule2.ensures ∙ c.if-not-keeps_rule2.true))

pub returns-then-not-keeps_rule3-clause-number : goal.returns-then-not-keeps_rule3-clause-number
returns-then-not-keeps_rule3-clause-number c =
    on _ _ _ (sym c.keeps_rule1.ensures ∙ c.if-not-keeps_rule1.false) (on _ _ _ (sym c.keeps_rule2.ensures ∙ c.if-not-keeps_rule2.false) (here _ _ _ (sym c.keeps_rule3.ensures ∙ c.if-not-keeps_rule3.true)))

pub returns-clause-number : goal.returns-clause-number
returns-clause-number c =
    on _ _ _ (sym c.keeps_rule1.ensures ∙ c.if-not-keeps_rule1.false) (on _ _ _ (sym c.keeps_rule2.ensures ∙ c.if-not-keeps_rule2.false) (on _ _ _ (sym c.keeps_rule3.ensures ∙ c.if-not-keeps_rule3.false) (done _)))

pub invariant_of-result : goal.invariant_of-result
invariant_of-result c =
    let head = headed _ (sym c.keeps_rule1.ensures ∙ c.if-not-keeps_rule1.false) (sym c.keeps_rule2.ensures ∙ c.if-not-keeps_rule2.false) in
    record { framed = framed _ head (sym c.keeps_rule3.ensures ∙ c.if-not-keeps_rule3.false) }

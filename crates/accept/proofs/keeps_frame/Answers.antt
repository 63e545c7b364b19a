-- `accept::keeps_frame` meets its contract: the three tests are those of the rules 1 to 3, and what they settle is the frame.
use mathlib.Core.Path.{◌≡◌, sym, ◌∙◌}
use mathlib.Core.Bool.{true, false≢true}
use Rattle.sheet.specs.Inner.Passed.{Headed}
use Rattle.sheet.proofs.PassedLaws.{headed, framed}
use Rattle.accept.proofs.keeps_frame.Goals as goal
use Rattle.accept.proofs.keeps_frame.Goals.{Joined-keeps_rule1, then-keeps_rule1, else-keeps_rule1}

-- the first two tests have passed
both : (c : Joined-keeps_rule1) → c.if-keeps_rule1.value ≡ true → Headed c.args.z.now
both c v =
    elim c.if-keeps_rule1.branch [
      | then-keeps_rule1 w ↦ headed _ (sym c.keeps_rule1.ensures ∙ w.if-keeps_rule1.true) (sym w.keeps_rule2.ensures ∙ sym w.value-is ∙ v)
      | else-keeps_rule1 w ↦ absurd (false≢true (sym w.if-keeps_rule1.false ∙ sym w.value-is ∙ v))
    ]

pub keeps_rule3-requires : goal.keeps_rule3-requires
keeps_rule3-requires c = both (goal.at.keeps_rule3-requires c).Joined-keeps_rule1 c.if-keeps_rule2.true

pub returns-then-keeps_rule2 : goal.returns-then-keeps_rule2
returns-then-keeps_rule2 c =
    λ e. framed _ (both (goal.at.returns-then-keeps_rule2 c).Joined-keeps_rule1 c.if-keeps_rule2.true) (sym c.keeps_rule3.ensures ∙ e)

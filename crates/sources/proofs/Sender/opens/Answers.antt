-- `sources::Sender::opens` meets its contract: a packet opens where words are left and a slot begins.
use Prim.Native.Nat.{ℕ}
use mathlib.Core.Bool.{not}
use mathlib.Core.Path.{◌∙◌, ap}
use lib.Dec.{eqb}
use Rattle.words.specs.Tests.{◌≤?◌}
use Rattle.sources.proofs.SourceLaws.{open_no, open_rest}
use Rattle.sources.proofs.Sender.opens.Goals as goal

pub returns-then-reg-ne0 : goal.returns-then-reg-ne0
unfolding ◌≤?◌
returns-then-reg-ne0 c = open_rest _ _ _ c.reg.ensures _ c.slot.ensures.size c.if-reg-ne0.true

pub returns-else-reg-ne0 : goal.returns-else-reg-ne0
returns-else-reg-ne0 c =
    ap (λ (x : ℕ). not (eqb x 0)) c.if-reg-ne0.false ∙ open_no _ _ _ c.reg.ensures c.if-reg-ne0.false

-- `routers::cross_input` meets its contract: an input asks for one output at most, whose place is computed; the tables change there alone.
-- Where it asks for none, only a payload word that has no choice is a fault.
use mathlib.Core.Path.{refl}
use native.Mathlib.Omega.{arith}
use Rattle.words.specs.Tests.{◌≤?◌}
use Rattle.routers.proofs.InputLaws.{no_payload, chosen, asks_empty, asks_past, crossed_none, crossed_choiceless, crossed_hit, crossed_first}
use Rattle.routers.proofs.cross_input.Goals as goal

pub returns-then-mark-eq0 : goal.returns-then-mark-eq0
returns-then-mark-eq0 c =
    crossed_none _ _ _ _ c.requires.2 c.requires.3 (no_payload _ _ _ c.row_reg-mark.ensures (omega arith))
    (asks_empty _ _ _ c.row_reg-mark.ensures (omega arith))

pub returns-then-choice-eq0 : goal.returns-then-choice-eq0
unfolding ◌≤?◌
returns-then-choice-eq0 c =
    crossed_choiceless _ _ _ _ c.requires.2 c.requires.3 _ c.row_reg-mark.ensures _ c.row_reg-choice.ensures c.if-choice-eq0.true _ c.from.ensures

pub returns-then-choice-gt-OUTPUTS : goal.returns-then-choice-gt-OUTPUTS
returns-then-choice-gt-OUTPUTS c =
    crossed_none _ _ _ _ c.requires.2 c.requires.3 (chosen _ _ _ c.row_reg-choice.ensures (omega arith))
    (asks_past _ _ _ c.row_reg-choice.ensures (omega arith))

pub returns-then-marks-place-ne0 : goal.returns-then-marks-place-ne0
returns-then-marks-place-ne0 c =
    crossed_hit _ _ _ _ c.requires.2 c.requires.3 _ c.row_reg-mark.ensures c.if-mark-eq0.false _ c.row_reg-choice.ensures
    (omega arith) (omega arith) c.requires.0 _ refl _ refl c.if-marks-place-ne0.true

pub returns : goal.returns
returns c =
    crossed_first _ _ _ _ c.requires.2 c.requires.3 _ c.row_reg-mark.ensures c.if-mark-eq0.false _
    c.row_reg-choice.ensures (omega arith) (omega arith) c.requires.0 _ refl _ refl (omega arith) _
    c.row_reg.ensures _ _ refl refl

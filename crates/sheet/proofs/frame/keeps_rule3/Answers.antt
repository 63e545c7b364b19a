-- `sheet::frame::keeps_rule3` meets its contract. Number 3: at each turn `at` is the place of the schedule that is counted, and every one before it fits.
use mathlib.Core.Path.{sym, ◌∙◌}
use native.Mathlib.Omega.{arith}
use Rattle.words.specs.Tests.{◌=?◌}
use Rattle.words.proofs.TestLaws.{and_no, and_on}
use Rattle.words.proofs.AllLaws.{all_none, all_more, all_done, all_fails}
use Rattle.sheet.specs.Rules.{rule3}
use Rattle.sheet.proofs.FrameLaws.{step_no, step_on, end_at, first_place}
use Rattle.sheet.proofs.frame.keeps_rule3.Goals as goal

pub loop-init : goal.loop-init
loop-init c =
    (c.schedules_of-end.ensures, first_place _ _ c.circuits_of.ensures, sym (all_none _), omega arith)

pub returns-in_default : goal.returns-in_default
unfolding rule3
returns-in_default c =
    let l = c.loop in
    let nowhere = sym c.place_after.ensures ∙ c.in_default.is in
    and_no _ (sym (all_fails _ _ l.counter (omega arith) (step_no _ l.counter l.at l.invariant.1 nowhere)))

pub loop-preserved : goal.loop-preserved
loop-preserved c =
    let l = c.loop in
    let next = sym c.place_after.ensures ∙ c.in-Some.is in
    let e = step_on _ l.counter l.at l.invariant.1 _ next in
    (l.invariant.0, e.place, all_more _ _ l.invariant.2 e.fits, omega arith)

pub returns : goal.returns
unfolding rule3 ◌=?◌
returns c =
    let l = c.loop in
    and_on (sym (all_done _ _ _ l.invariant.2 (omega arith) (omega arith))) (end_at _ _ _ _ l.invariant.1 (omega arith))

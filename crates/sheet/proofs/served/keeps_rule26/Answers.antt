-- `sheet::served::keeps_rule26` meets its contract. Number 26: in the loop every circuit before `c` has its mark.
use mathlib.Core.Path.{sym}
use native.Mathlib.Omega.{arith}
use Rattle.words.proofs.AllLaws.{all_none, all_more, all_done, all_fails}
use Rattle.sheet.specs.Rules.{rule26}
use Rattle.sheet.proofs.ServedLaws.{unmarked, has_mark}
use Rattle.sheet.proofs.served.keeps_rule26.Goals as goal

pub loop-c-init : goal.loop-c-init
loop-c-init c = (c.circuits_of-c-end.ensures, sym (all_none _))

pub returns-then-marks-c-eq0 : goal.returns-then-marks-c-eq0
unfolding rule26
returns-then-marks-c-eq0 c =
    let few = c.requires.framed.headed.circuits_high in
    all_fails _ _ c.loop-c.c (omega (arith, c.loop-c.invariant.0))
    (unmarked _ _ c.mark_served.ensures _ (omega (arith, c.loop-c.invariant.0, few)) c.if-marks-c-eq0.true)

pub loop-c-preserved : goal.loop-c-preserved
loop-c-preserved c =
    let few = c.requires.framed.headed.circuits_high in
    let served = has_mark _ _ c.mark_served.ensures _ (omega (arith, c.loop-c.invariant.0, few)) c.if-marks-c-eq0.false in
    (c.loop-c.invariant.0, all_more _ _ c.loop-c.invariant.1 served)

pub returns : goal.returns
unfolding rule26
returns c = all_done _ _ _ c.loop-c.invariant.1 (omega (arith, c.loop-c.invariant.0)) (omega (arith, c.loop-c.invariant.0))

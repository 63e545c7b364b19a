-- `probes::probe_cycles` meets its contract: words that 12 to 14 refuse stay; else each turn is the next inner cycle, until one is refused.
use Rattle.std.proofs.Common.{◌≡◌, refl, sym, ◌∙◌, arith}
use Rattle.refusal.proofs.AnswerLaws.{is_some}
use Rattle.probes.proofs.CyclesLaws.{none_run, run_start, run_done, run_more, run_refused}
use Rattle.probes.proofs.probe_cycles.Goals as goal

pub returns-in-Err : goal.returns-in-Err
returns-in-Err c =
    let each = none_run _ _ _ c.in-Err.ensures (is_some _) in record { answer = c.packed.ensures ∙ each.0; words = each.1 }

pub loop-done-init : goal.loop-done-init
loop-done-init c = run_start _ _ _ (sym c.in_default.ensures)

pub returns-in-Err-cycle_sound : goal.returns-in-Err-cycle_sound
returns-in-Err-cycle_sound c =
    let cycle = c.in-Err-cycle_sound.ensures in
    let each = run_refused _ _ _ _ _ c.loop-done.invariant cycle.state cycle.memory c.loop-done-test.true cycle.answer (is_some _) in record { answer = c.packed-in-Err-cycle_sound.ensures ∙ each.0; words = each.1 }

pub loop-done-preserved : goal.loop-done-preserved
loop-done-preserved c =
    let cycle = c.in_default-cycle_sound.ensures in
    run_more _ _ _ _ _ c.loop-done.invariant cycle.state cycle.memory c.loop-done-test.true cycle.answer refl

pub returns : goal.returns
returns c =
    let over : c.from.result ≡ c.loop-done.done = omega (arith, c.loop-done.auto.done-end, c.from.ensures) in
    let each = run_done _ _ _ _ _ c.loop-done.invariant (omega (arith, c.loop-done-test.false)) in record { answer = over ∙ each.0; words = each.1 }

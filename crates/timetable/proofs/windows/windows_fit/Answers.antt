use Rattle.std.proofs.Common.{sym, ◌∙◌, arith}
use Rattle.timetable.proofs.TimetableLaws.{fits_is, end_is, kept_none, kept_more, kept_unfit, kept_early, kept_done}
use Rattle.timetable.proofs.windows.windows_fit.Goals.{then-from-ended-via-then-from-ended, then-from-ended-via-else-from-ended+then-not-fits}
use Rattle.timetable.proofs.windows.windows_fit.Goals as goal

pub loop-k-init : goal.loop-k-init
loop-k-init c = kept_none _

pub returns-then-from-ended : goal.returns-then-from-ended
returns-then-from-ended c =
    let window = c.at-window.ensures in
    elim c.then-from-ended.branch [
      | then-from-ended-via-then-from-ended w ↦ kept_early _ _ _ c.loop-k.invariant _ (omega arith) (omega (arith, window.start))
      | then-from-ended-via-else-from-ended+then-not-fits w ↦
          kept_unfit _ _ _ c.loop-k.invariant _ (omega arith)
          (sym (fits_is _ _ _ window.start window.minutes window.schedule) ∙ sym w.fits.ensures ∙ w.if-not-fits.true)
    ]

pub loop-k-preserved : goal.loop-k-preserved
loop-k-preserved c =
    let window = c.at-window.ensures in
    let fits = sym (fits_is _ _ _ window.start window.minutes window.schedule) ∙ sym c.fits.ensures ∙ c.if-not-fits.false in
    kept_more _ _ _ c.loop-k.invariant (omega (arith, window.start)) fits (end_is _ _ c.end-ended.ensures window.start window.minutes)

pub returns : goal.returns
returns c = kept_done _ _ _ c.loop-k.invariant _ c.loop-k.auto.k-end (omega arith)

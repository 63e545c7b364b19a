use Rattle.std.proofs.Common.{arith, refl}
use Rattle.timetable.specs.Timetable.{windows}
use Rattle.timetable.proofs.TimetableLaws.{fits_ragged, fits_many, fits_windows}
use Rattle.timetable.proofs.windows.timetable_fits.Goals.{then-words-ne0-via-then-words-ne0, then-words-ne0-via-else-words-ne0+then-count-gt-MOST_WINDOWS}
use Rattle.timetable.proofs.windows.timetable_fits.Goals as goal

pub windows_fit-requires : goal.windows_fit-requires
unfolding windows
windows_fit-requires c = refl

pub returns-then-words-ne0 : goal.returns-then-words-ne0
unfolding windows
returns-then-words-ne0 c =
    elim c.then-words-ne0.branch [
      | then-words-ne0-via-then-words-ne0 w ↦ fits_ragged _ w.if-words-ne0.true
      | then-words-ne0-via-else-words-ne0+then-count-gt-MOST_WINDOWS w ↦ fits_many _ (omega arith)
    ]

pub returns : goal.returns
unfolding windows
returns c = fits_windows _ _ (omega arith) (omega arith) refl c.windows_fit.ensures

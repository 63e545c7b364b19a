-- Three tests are the four of the definition: a window that has a minute and ends within the week starts in it.
use Rattle.std.proofs.Common.{arith}
use Rattle.words.specs.Tests.{◌≤?◌}
use Rattle.timetable.proofs.TimetableLaws.{fits_empty, fits_late, fits_rest}
use Rattle.timetable.proofs.windows.Window.fits.Goals.{then-self-eq0-via-then-self-eq0, then-self-eq0-via-else-self-eq0+then-end-from}
use Rattle.timetable.proofs.windows.Window.fits.Goals as goal

pub returns-then-self-eq0 : goal.returns-then-self-eq0
returns-then-self-eq0 c =
    elim c.then-self-eq0.branch [
      | then-self-eq0-via-then-self-eq0 w ↦ fits_empty c.args.self (omega arith)
      | then-self-eq0-via-else-self-eq0+then-end-from w ↦ fits_late c.args.self (omega arith)
    ]

pub returns : goal.returns
unfolding ◌≤?◌
returns c = fits_rest c.args.self (omega arith) (omega arith)

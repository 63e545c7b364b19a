-- `sheet::frame::Frame::schedule_fits` meets its contract. Number 7 at one schedule: its period's range is tested first, then its entries.
use mathlib.Core.Path.{◌∙◌}
use Rattle.sheet.proofs.EntryLaws.{schedule_no, schedule_rest}
use Rattle.sheet.proofs.frame.Frame.schedule_fits.Goals as goal

pub returns-then-is_between : goal.returns-then-is_between
returns-then-is_between c =
    let period = c.schedule_period-period.ensures in
    let range = c.is_between.ensures in
    let entries = c.entries.ensures in
    schedule_rest _ _ _ period _ _ range c.if-is_between.true entries c.circuits_of.ensures c.entries_fit.ensures

pub returns-else-is_between : goal.returns-else-is_between
returns-else-is_between c = c.if-is_between.false ∙ schedule_no _ _ _ c.schedule_period-period.ensures c.is_between.ensures c.if-is_between.false

-- `accept::schedules::keeps_schedule` meets its contract: the period was tested before the entries are placed.
use mathlib.Core.Bool.{false≢true}
use mathlib.Core.Path.{refl, sym, ◌∙◌}
use Rattle.accept.proofs.ScheduleLaws.{period_in}
use Rattle.accept.proofs.schedules.keeps_schedule.Goals as goal

pub place_entries-requires : goal.place_entries-requires
place_entries-requires c =
    let range = period_in c.args.frame.words.now c.args.j _ c.schedule_period.ensures c.is_between.ensures c.if-is_between.true in
    (c.requires.0, range.0, range.1, c.requires.1)

pub returns-else-is_between : goal.returns-else-is_between
returns-else-is_between c = record { long = refl; kept = λ y. absurd (false≢true (sym c.if-is_between.false ∙ y)) }

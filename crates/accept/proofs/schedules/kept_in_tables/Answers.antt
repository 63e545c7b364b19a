-- `accept::schedules::kept_in_tables` meets its contract: tables of zeros are free, and have room for every schedule.
use Rattle.accept.proofs.ScheduleLaws.{zeros_long, zeros_free}
use Rattle.accept.proofs.schedules.kept_in_tables.Goals as goal

pub kept_in-requires : goal.kept_in-requires
kept_in-requires g c =
    (zeros_long g.row.WIRES _ c.requires.1, zeros_free g.row.WORDS, λ j h. zeros_long g.row.WORDS _ (c.requires.3 j h))

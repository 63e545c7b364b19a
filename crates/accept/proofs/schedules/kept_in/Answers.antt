-- `accept::schedules::kept_in` meets its contract: the tables are worked out of the sheet that is judged.
use Rattle.accept.proofs.ScheduleLaws.{grid_read, schedulable}
use Rattle.accept.proofs.schedules.kept_in.Goals as goal

pub find_neighbours-requires : goal.find_neighbours-requires
find_neighbours-requires c =
    grid_read c.args.circuits.frame.words.now c.args.circuits.frame.framed _ _ c.grid.ensures.cols c.grid.ensures.rows _ c.requires.0

pub schedules_kept-requires : goal.schedules_kept-requires
schedules_kept-requires c = (
  schedulable c.args.circuits.frame.words.now c.args.circuits.frame.framed _ _ c.grid.ensures.cols c.grid.ensures.rows _ _ _ c.args.circuits.fit
      c.find_neighbours.ensures c.find_ends.ensures c.requires.2,
  c.requires.1,
  c.args.circuits.frame.framed.headed.schedules_low,
)

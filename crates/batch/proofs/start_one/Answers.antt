-- `batch::start_one` meets its contract: the state is the one that the single start left.
use Rattle.batch.proofs.BatchLaws.{next_after}
use Rattle.batch.proofs.start_one.Goals as goal

pub returns-clause-state : goal.returns-clause-state
returns-clause-state c = next_after c.args.s.now c.args.t c.start_sound.ensures.state

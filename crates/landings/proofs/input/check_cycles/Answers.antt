-- `landings::input::check_cycles` meets its contract: the two tests are those of the message, in its order.
use Rattle.landings.proofs.MessageLaws.{cycles_end, cycles_over, cycles_run_is}
use Rattle.landings.proofs.input.check_cycles.Goals as goal

pub returns-then-bytes-at : goal.returns-then-bytes-at
returns-then-bytes-at c = cycles_end _ _ c.requires.0 c.if-bytes-at.true

pub returns-then-word_in-gt-MOST_CYCLES : goal.returns-then-word_in-gt-MOST_CYCLES
returns-then-word_in-gt-MOST_CYCLES c = cycles_over _ _ c.requires.0 c.if-bytes-at.false c.word_in.ensures c.if-word_in-gt-MOST_CYCLES.true

pub returns : goal.returns
returns c = cycles_run_is _ _ c.requires.0 c.if-bytes-at.false c.word_in.ensures c.if-word_in-gt-MOST_CYCLES.false

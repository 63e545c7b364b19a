-- `landings::input::check_memory` meets its contract: the size is tested before a word of the memories is read.
use Rattle.landings.proofs.MessageLaws.{memory_over, memory_on}
use Rattle.landings.proofs.input.check_memory.Goals as goal

pub returns-then-size-gt-MOST_MEMORY : goal.returns-then-size-gt-MOST_MEMORY
returns-then-size-gt-MOST_MEMORY c = memory_over _ c.requires.2 c.if-size-gt-MOST_MEMORY.true

pub returns : goal.returns
returns c = memory_on _ c.requires.2 c.if-size-gt-MOST_MEMORY.false c.check_transfers.ensures

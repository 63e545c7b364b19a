-- `receivers::receiving::put_memory` meets its contract: a payload word is set at its place, and nothing else is.
use Rattle.std.proofs.Common.{arith}
use Rattle.receivers.proofs.UnitLaws.{memory_kept, memory_stored}
use Rattle.receivers.proofs.receiving.put_memory.Goals as goal

pub returns-then-memory_mark-lt2 : goal.returns-then-memory_mark-lt2
returns-then-memory_mark-lt2 c = memory_kept _ _ _ c.memory_mark.ensures _ _ (omega arith)

pub returns : goal.returns
returns c =
    memory_stored _ _ _ c.memory_mark.ensures _ _ _ _ c.reg-address.ensures c.memory_word.ensures
    (omega arith) c.put.ensures

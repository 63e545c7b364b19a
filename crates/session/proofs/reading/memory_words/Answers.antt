-- `session::reading::memory_words` meets its contract: the memory words of the state's sheet, which are few where the sheet passes.
use Rattle.std.proofs.Common.{sym, subst}
use Rattle.sheet.specs.Inner.Passed.{Headed}
use Rattle.session.proofs.ReadingLaws.{state_headed}
use Rattle.session.proofs.reading.memory_words.Goals as goal

pub whole_memory_of-requires : goal.whole_memory_of-requires
whole_memory_of-requires c = subst Headed (sym c.sheet_of.ensures) (state_headed _ c.requires)

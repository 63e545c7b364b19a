-- `sheet::entries::Entry::at` meets its contract: the four words are those of the definition.
use mathlib.Core.Path.{refl}
use Rattle.sheet.specs.Sheet.{entry_at}
use Rattle.sheet.proofs.entries.Entry.at.Goals as goal

pub returns : goal.returns
unfolding entry_at
returns c = refl

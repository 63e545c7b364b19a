-- `session::reading::nodes_of` meets its contract: the nodes of the state's sheet, which are few where the sheet passes.
use Rattle.std.proofs.Common.{sym, subst}
use Rattle.sheet.specs.Inner.Passed.{Headed}
use Rattle.session.proofs.ReadingLaws.{state_headed}
use Rattle.session.proofs.reading.nodes_of.Goals as goal

pub nodes_of-requires : goal.nodes_of-requires
nodes_of-requires c = subst Headed (sym c.sheet_of.ensures) (state_headed _ c.requires)

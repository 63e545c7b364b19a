-- `tables::Prepared::blank` meets its contract: the five tables are of zeros.
use Rattle.tables.proofs.PrepareLaws.{empty}
use Rattle.tables.proofs.Prepared.blank.Goals as goal

pub returns : goal.returns
returns c = empty

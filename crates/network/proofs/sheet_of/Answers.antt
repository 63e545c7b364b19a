-- `network::sheet_of` meets its contract: the part behind the length is the definition's, cut where the words end.
use native.Mathlib.Omega.{arith}
use Rattle.network.proofs.PartLaws.{sheet_short, sheet_up_to}
use Rattle.network.proofs.sheet_of.Goals as goal

pub returns-then-s-le-MOVING_WORDS : goal.returns-then-s-le-MOVING_WORDS
returns-then-s-le-MOVING_WORDS c = sheet_short _ (omega arith)

pub returns : goal.returns
returns c = sheet_up_to _ _ _ c.get-size.ensures c.min.ensures

-- `sheet::frame::place_after` meets its contract: the two tests are the definition's, and the sum is the next place.
use native.Mathlib.Omega.{arith}
use Rattle.sheet.proofs.FrameLaws.{after_yes, after_short, after_many}
use Rattle.sheet.proofs.frame.place_after.Goals as goal

pub returns-then-z-at : goal.returns-then-z-at
returns-then-z-at c = after_short _ _ c.if-z-at.true

pub returns-then-count-gt256 : goal.returns-then-count-gt256
returns-then-count-gt256 c = after_many _ _ (omega arith)

pub returns : goal.returns
returns c = after_yes _ _ _ (omega arith) (omega arith) (omega arith)

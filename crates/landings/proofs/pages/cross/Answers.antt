-- `landings::pages::cross` meets its contract: it crosses no cycle, or those that `rest` crosses.
use Rattle.landings.proofs.RestLaws.{rest_none}
use Rattle.landings.proofs.pages.cross.Goals as goal

pub returns-then-live-ne0 : goal.returns-then-live-ne0
returns-then-live-ne0 c = record { rested = rest_none _ _; covered = λ masks covered. covered }

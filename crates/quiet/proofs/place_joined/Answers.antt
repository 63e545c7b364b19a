-- `quiet::place_joined` meets its contract: words joined by or are 0 where all of them are.
use Rattle.quiet.proofs.StillLaws.{place_is}
use Rattle.quiet.proofs.place_joined.Goals as goal

pub returns : goal.returns
returns c = place_is _ _

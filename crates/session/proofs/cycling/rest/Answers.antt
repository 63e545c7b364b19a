-- `session::cycling::rest` meets its contract: what the machine crosses at once is so many cycles, one after another, and moves no word.
use Rattle.session.proofs.RestLaws.{passed_settled, rested, rest_covered}
use Rattle.session.proofs.cycling.rest.Goals as goal

pub rest-requires : goal.rest-requires
rest-requires c = passed_settled _ c.requires

pub returns : goal.returns
returns c = record { rested = rested _ _ _ _ c.rest.ensures; covered = rest_covered _ c.requires _ _ _ c.rest.ensures }

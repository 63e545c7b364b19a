-- `quiet::row_joined` meets its contract: in the loop the words joined so far are 0 where each of them is.
use Rattle.quiet.proofs.StillLaws.{joined_start, joined_more, row_word}
use Rattle.quiet.proofs.row_joined.Goals as goal

pub loop-k-init : goal.loop-k-init
loop-k-init c = joined_start _

pub loop-k-preserved : goal.loop-k-preserved
loop-k-preserved c = joined_more _ _ _ _ c.loop-k.invariant (row_word c.args.s.now c.args.row _)

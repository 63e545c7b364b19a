-- `routers::has_unheld` meets its contract: in the loop `faults` is not 0 where a place before `k` has such a word; the places are the inputs
-- of all nodes. A state that is too short for its rows has no nodes.
use native.Mathlib.Omega.{arith}
use Rattle.words.specs.Tests.{◌≤?◌}
use Rattle.routers.proofs.UnheldLaws.{counting_start, counting_more, counting_done, unheld_short}
use Rattle.routers.proofs.has_unheld.Goals as goal

pub returns-then-s-lt-MOVING_WORDS : goal.returns-then-s-lt-MOVING_WORDS
returns-then-s-lt-MOVING_WORDS c = unheld_short _ _ c.requires.0 c.if-s-lt-MOVING_WORDS.true

pub loop-k-init : goal.loop-k-init
loop-k-init c = counting_start _

pub loop-k-preserved : goal.loop-k-preserved
loop-k-preserved c =
    counting_more _ _ _ c.loop-k.invariant _ _ _ c.reg-mark.ensures c.reg-latch.ensures c.unheld-faults.ensures

pub returns : goal.returns
unfolding ◌≤?◌
returns c =
    counting_done _ _ c.requires.0 _ _ c.loop-k.invariant (omega arith)

-- `routers::step_heads_among` meets its contract: each turn writes the five places of one node, from registers that are not written yet, and passes the
-- nodes up to the next of the mask, which have what they should have already.
use native.Mathlib.Omega.{arith}
use Rattle.links.proofs.WalkLaws.{walk_done}
use Rattle.routers.proofs.HeadLaws.{heads_turn}
use Rattle.routers.proofs.step_heads_among.Goals.{In-Some}
use Rattle.routers.proofs.step_heads_among.Goals as goal

pub loop-node-preserved : goal.loop-node-preserved
loop-node-preserved c =
    heads_turn _ _ _ c.requires.0 c.requires.1 c.requires.2 _ _ c.loop-node.invariant c.next.new.self _ c.in-Some.ensures.steps _
    c.step_node_heads.ensures

pub returns : goal.returns
returns c =
    walk_done _ _ _ _ _ _ (omega arith) c.requires.1 c.requires.2 _ _ c.loop-node.invariant c.next.new.self c.requires.0 c.in-None.ensures.steps

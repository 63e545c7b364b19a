-- `outputs::step_outs` meets its contract: each turn writes the five places of one node, from the tables, and passes the nodes up to the next of
-- the mask, which have what they should have already.
use native.Mathlib.Omega.{arith}
use Rattle.links.proofs.WalkLaws.{walk_done}
use Rattle.outputs.proofs.OutLaws.{outs_turn}
use Rattle.outputs.proofs.step_outs.Goals.{In-Some}
use Rattle.outputs.proofs.step_outs.Goals as goal

pub loop-node-preserved : goal.loop-node-preserved
loop-node-preserved c =
    outs_turn _ _ _ _ _ c.requires.1 c.requires.4 _ _ c.loop-node.invariant c.next.new.self _ c.in-Some.ensures.steps _ c.step_node_outs.ensures

pub returns : goal.returns
returns c =
    walk_done _ _ _ _ _ _ (omega arith) c.requires.1 c.requires.4 _ _ c.loop-node.invariant c.next.new.self c.requires.0 c.in-None.ensures.steps

-- `receivers::receiving::has_stray_among` meets its contract: in the loop no node that the walk has left behind has a stray word; those that are passed have
-- nothing on their memory output.
use Rattle.receivers.proofs.StrayLaws.{pass_more, pass_found, pass_over}
use Rattle.receivers.proofs.receiving.has_stray_among.Goals as goal

pub returns-then-does_stray : goal.returns-then-does_stray
returns-then-does_stray c =
    pass_found _ _ _ _ c.requires.0 c.requires.1 _ c.loop-node.invariant c.next.new.self _ c.in-Some.ensures.steps _ c.does_stray.ensures c.if-does_stray.true

pub loop-node-preserved : goal.loop-node-preserved
loop-node-preserved c =
    pass_more _ _ _ _ c.requires.0 c.requires.1 _ c.loop-node.invariant c.next.new.self _ c.in-Some.ensures.steps _ c.does_stray.ensures c.if-does_stray.false

pub returns : goal.returns
returns c = pass_over _ _ _ _ c.requires.0 c.requires.1 _ c.loop-node.invariant c.next.new.self c.in-None.ensures.steps

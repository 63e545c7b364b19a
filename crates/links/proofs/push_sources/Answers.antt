-- `links::push_sources` meets its contract: in the loop the source inputs of the nodes that the walk has left behind have what is on their wires; those
-- of the nodes that are passed have it already.
use native.Mathlib.Omega.{arith}
use Rattle.links.proofs.SourceLaws.{sources_inside, sources_more, sources_done}
use Rattle.links.proofs.push_sources.Goals.{In-Some}
use Rattle.links.proofs.push_sources.Goals as goal

pub put_link-requires : goal.put_link-requires
put_link-requires c =
    let g = c.loop-node.invariant in
    let few = sources_inside _ _ _ _ _ c.requires.0 c.requires.1 c.requires.2 _ _ g c.next.new.self _ c.in-Some.ensures.steps in
    (omega (arith, few), omega (arith, g.so_far.same_length, c.requires.1))

pub loop-node-preserved : goal.loop-node-preserved
loop-node-preserved c =
    sources_more _ _ _ _ _ c.requires.0 c.requires.1 c.requires.2 _ _ c.loop-node.invariant c.next.new.self _ c.in-Some.ensures.steps _ _ _
    c.get-mark.ensures c.get-word.ensures c.put_link.ensures

pub returns : goal.returns
returns c = sources_done _ _ _ _ _ c.requires.0 c.requires.1 c.requires.2 _ _ c.loop-node.invariant c.next.new.self c.in-None.ensures.steps

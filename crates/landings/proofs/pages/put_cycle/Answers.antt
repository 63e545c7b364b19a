use Rattle.occupancy.proofs.WalkLaws.{begun}
use Rattle.landings.proofs.PageLaws.{walk_start, walk_room, walk_more, walk_done}
use Rattle.landings.proofs.pages.put_cycle.Goals as goal

pub loop-node-init : goal.loop-node-init
loop-node-init c =
    let first = c.places-node-items.ensures in
    walk_start _ _ _ _ _ _ c.requires.2 _ (begun _ _ _ _ c.into_iter-node-iterator.ensures.into_iter_gives first.mask first.from first.end)

pub put_landing-place-requires : goal.put_landing-place-requires
put_landing-place-requires c =
    walk_room _ _ _ _ _ _ c.requires.2 _ _ _ c.loop-node.invariant c.next.new.self _ c.in-Some.ensures.steps c.requires.1

pub loop-node-preserved : goal.loop-node-preserved
loop-node-preserved c =
    let put = c.put_landing-place.ensures in
    walk_more _ _ _ _ _ _ c.requires.2 _ _ _ c.loop-node.invariant c.next.new.self _ c.in-Some.ensures.steps put.place put.bytes

pub returns : goal.returns
returns c =
    let each = walk_done _ _ _ _ _ _ c.requires.2 _ _ _ c.loop-node.invariant c.next.new.self c.in-None.ensures.steps in
    record { place = each.0; bytes = each.1 }

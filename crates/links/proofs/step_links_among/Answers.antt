-- `links::step_links_among` meets its contract: the registers are emptied, and each turn fills those that one node fills by its sides; a node that is
-- passed fills none. Behind that come the sources. The out registers and the extra registers, which it reads, are never written.
use native.Mathlib.Omega.{arith}
use Prim.Native.Nat.{◌*◌}
use mathlib.Core.Path.{sym, subst, ap₂, ◌∙◌}
use Rattle.sheet.specs.Inner.Passed.{Headed}
use Rattle.network.specs.Registers.{link_mark, link_word}
use Rattle.occupancy.proofs.WalkLaws.{begun}
use Rattle.links.proofs.LinkingLaws.{wired_read, linking_start, linking_row, linking_grid, linking_long, linking_more}
use Rattle.links.proofs.LinkingLaws.{linking_sources, linking_length, linking_done, linking_empty}
use Rattle.links.proofs.step_links_among.Goals as goal

pub returns-then-s-lt-MOVING_WORDS : goal.returns-then-s-lt-MOVING_WORDS
returns-then-s-lt-MOVING_WORDS c = absurd (omega arith)

pub grid_of-grid-requires : goal.grid_of-grid-requires
grid_of-grid-requires c =
    subst Headed (sym c.sheet_of-z.ensures) c.requires.0

pub returns-then-nodes-gt-MOST_NODES : goal.returns-then-nodes-gt-MOST_NODES
returns-then-nodes-gt-MOST_NODES c = absurd (omega arith)

pub clear_links-requires : goal.clear_links-requires
clear_links-requires c = (omega arith, c.requires.1)

pub loop-node-init : goal.loop-node-init
loop-node-init c =
    linking_start _ _ _ _ _ _
    (wired_read _ _ c.sheet_of-z.ensures _ _ _ c.grid_of-grid.ensures.cols c.grid_of-grid.ensures.rows
    (c.nodes-nodes.ensures.0 ∙ ap₂ ◌*◌ c.grid_of-grid.ensures.cols c.grid_of-grid.ensures.rows, c.nodes-nodes.ensures.1) _ c.vertical_row-vertical.ensures c.requires.0 c.requires.1)
    c.clear_links.ensures _ c.requires.2 _
    (begun _ _ _ _ c.into_iter-node-iterator.ensures.into_iter_gives c.places-node-items.ensures.mask c.places-node-items.ensures.from c.places-node-items.ensures.end)

pub push_sides-live-requires : goal.push_sides-live-requires
push_sides-live-requires c = (
  (linking_grid _ _ _ _ _ _ _ _ _ c.loop-node.invariant _ c.next.new.self c.in-Some.ensures.steps).inside,
  linking_row _ _ _ _ _ _ _ _ _ c.loop-node.invariant,
  linking_long _ _ _ _ _ _ _ _ _ c.loop-node.invariant,
)

pub loop-node-preserved : goal.loop-node-preserved
loop-node-preserved c =
    linking_more _ _ _ _ _ _ _ _ _ c.loop-node.invariant _ c.next.new.self c.in-Some.ensures.steps _ _ c.push_sides-live.ensures.state
    c.push_sides-live.ensures.live

pub push_sources-requires : goal.push_sources-requires
push_sources-requires c = (
  c.loop-node.invariant.wired.few,
  linking_long _ _ _ _ _ _ _ _ _ c.loop-node.invariant,
  linking_sources _ _ _ _ _ _ _ _ _ c.loop-node.invariant c.next.new.self c.in-None.ensures.steps _ c.clear_links.ensures c.requires.1
      _ _ _ c.requires.3,
)

pub shape_of-s : goal.shape_of-s
shape_of-s c =
    linking_length _ _ _ _ _ _ _ _ _ c.loop-node.invariant c.next.new.self c.in-None.ensures.steps _ c.clear_links.ensures c.requires.1 _ _ _
    c.requires.3 _ c.push_sources.ensures

pub returns : goal.returns
returns c =
    let done =
    linking_done _ _ _ _ _ _ _ _ _ c.loop-node.invariant c.next.new.self c.in-None.ensures.steps _ c.clear_links.ensures c.requires.1 _ _ _
    c.requires.3 _ c.push_sources.ensures in
    let empty =
    linking_empty _ _ _ _ _ _ _ _ _ c.loop-node.invariant c.next.new.self c.in-None.ensures.steps _ c.clear_links.ensures c.requires.1 _ _ _
    c.requires.3 _ c.push_sources.ensures in record { state = done; live = (empty link_mark (omega arith) (omega arith), empty link_word (omega arith) (omega arith)) }

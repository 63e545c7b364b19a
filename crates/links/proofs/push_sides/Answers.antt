-- `links::push_sides` meets its contract: the links before `side` one after the other; where what they have is joined to 0, none of them changes
-- anything.
use Prim.Native.Nat.{ℕ}
use mathlib.Core.Path.{◌≡◌, ◌∙◌, ap}
use native.Mathlib.Omega.{arith}
use lib.ListN.{length}
use Rattle.torus.proofs.GridLaws.{node_of}
use Rattle.torus.proofs.NeighbourLaws.{bounds}
use Rattle.links.specs.Inner.Linking.{pushed_sides}
use Rattle.links.proofs.LinkLaws.{pushed_none, pushed_length, pushed_start, pushed_on, row_small}
use Rattle.links.proofs.BesideLaws.{beside_none, beside_more}
use Rattle.links.proofs.push_sides.Goals as goal

pub sides_joined-requires : goal.sides_joined-requires
sides_joined-requires c = let b = bounds (node_of c.args.grid c.requires.0) in (omega arith, c.requires.1, c.requires.2)

pub returns-then-sides_joined-eq0 : goal.returns-then-sides_joined-eq0
returns-then-sides_joined-eq0 c = record { state = pushed_none _ _ _ _ _ (c.sides_joined.ensures c.if-sides_joined-eq0.true); live = beside_none _ _ }

pub loop-side-init : goal.loop-side-init
loop-side-init c = (pushed_start _ _ _ _ _, beside_none _ _)

pub push_side-live-requires : goal.push_side-live-requires
push_side-live-requires c =
    let a = c.args in
    let long = pushed_length c.loop-side.side a.s.now a.grid.cols a.grid.rows a.node a.vertical in (
      c.requires.0,
      omega arith,
      omega (arith, c.side_row.ensures, row_small a.vertical c.loop-side.side c.requires.1),
      omega (arith, c.requires.2, ap length c.loop-side.invariant.0, long),
    )

pub loop-side-preserved : goal.loop-side-preserved
loop-side-preserved c = (
  pushed_on _ _ _ _ _ _ _ _ _ c.loop-side.invariant.0 c.side_row.ensures c.push_side-live.ensures.state,
  beside_more _ _ _ _ _ c.loop-side.invariant.1 c.push_side-live.ensures.live,
)

pub returns : goal.returns
returns c =
    let a = c.args in
    let all : c.loop-side.side ≡ 4 = omega arith in
    record {
      state = c.loop-side.invariant.0 ∙ ap (λ (n : ℕ). pushed_sides n a.s.now a.grid.cols a.grid.rows a.node a.vertical) all;
      live = c.loop-side.invariant.1;
    }

-- `links::push_side` meets its contract: the mark and the word are read first; unless both are 0 they go to the place that is computed, which is a neighbour's.
use native.Mathlib.Omega.{arith}
use mathlib.Core.Path.{refl}
use Rattle.torus.proofs.GridLaws.{node_of}
use Rattle.torus.proofs.NeighbourLaws.{bounds}
use Rattle.links.proofs.LinkLaws.{push_none, push_some}
use Rattle.links.proofs.BesideLaws.{near_few, beside_none, beside_one}
use Rattle.links.proofs.push_side.Goals as goal

pub overflow_mul-from : goal.overflow_mul-from
overflow_mul-from c = let b = bounds (node_of c.args.grid c.requires.0) in omega arith

pub overflow_add-from : goal.overflow_add-from
overflow_add-from c = let b = bounds (node_of c.args.grid c.requires.0) in omega arith

pub returns-then-mark-word-eq0 : goal.returns-then-mark-word-eq0
returns-then-mark-word-eq0 c = record { state = push_none _ _ _ _ _ _ _ _ c.row_reg-mark.ensures c.row_reg-word.ensures c.if-mark-word-eq0.true; live = beside_none _ _ }

pub overflow_mul-near : goal.overflow_mul-near
overflow_mul-near c =
    omega (arith, near_few (node_of c.args.grid c.requires.0) _ c.neighbour-near.ensures)

pub overflow_add-near : goal.overflow_add-near
overflow_add-near c =
    omega (arith, near_few (node_of c.args.grid c.requires.0) _ c.neighbour-near.ensures)

pub only-requires : goal.only-requires
only-requires c =
    omega (arith, near_few (node_of c.args.grid c.requires.0) _ c.neighbour-near.ensures)

pub put_link-requires : goal.put_link-requires
put_link-requires c =
    (omega (arith, near_few (node_of c.args.grid c.requires.0) _ c.neighbour-near.ensures), c.requires.3)

pub returns : goal.returns
returns c = record {
  state = push_some _ _ _ _ _ _ _ _ c.row_reg-mark.ensures c.row_reg-word.ensures c.if-mark-word-eq0.false _ _ _ c.neighbour-near.ensures refl
      c.put_link.ensures;
  live = beside_one _ _ _ _ _ _ _ (near_few (node_of c.args.grid c.requires.0) _ c.neighbour-near.ensures) (omega arith) c.only.ensures
      c.put_link.ensures;
}

-- `links::sides_joined` meets its contract: where what is joined is 0, nothing comes out of the sides before `side`.
use native.Mathlib.Omega.{arith}
use Rattle.links.proofs.LinkLaws.{none_more, sides_named, row_small}
use Rattle.links.proofs.sides_joined.Goals as goal

pub bounds-s-from : goal.bounds-s-from
bounds-s-from c =
    omega (arith, c.requires.0, c.requires.2, c.side_row.ensures, row_small c.args.vertical c.loop-side.side c.requires.1)

pub bounds-s-from-in-loop-side : goal.bounds-s-from-in-loop-side
bounds-s-from-in-loop-side c =
    omega (arith, c.requires.0, c.requires.2, c.side_row.ensures, row_small c.args.vertical c.loop-side.side c.requires.1)

pub loop-side-preserved : goal.loop-side-preserved
loop-side-preserved c = λ e. none_more _ _ _ _ _ _ c.loop-side.invariant (omega (arith, c.side_row.ensures)) e

pub returns : goal.returns
returns c = λ e. sides_named _ _ _ _ (omega arith) (c.loop-side.invariant e)

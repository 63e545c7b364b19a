-- `accept::working::find_ends` meets its contract: in the loop the numbers of the circuits before `k` are found;
-- a circuit's nodes are in the grid, so each number fits a word.
use native.Mathlib.Omega.{arith}
use Prim.Native.Nat.{◌+◌, ◌*◌, ◌<◌}
use mathlib.Core.Path.{refl}
use Rattle.words.specs.Words.{word}
use Rattle.accept.proofs.WorkingLaws.{finding_more, ends_inside, ends_few, ends_word_is}
use Rattle.accept.proofs.working.find_ends.Goals as goal
use Rattle.accept.proofs.working.find_ends.Goals.{After-span-span}

pub span-span-requires : goal.span-span-requires
span-span-requires c =
    let both =
    ends_inside _ c.args.circuits.frame.framed c.args.circuits.fit c.loop-k.k (omega (arith, c.circuits_of-k-end.ensures)) _ _ _ _
    c.grid-grid.ensures.cols c.grid-grid.ensures.rows refl refl in
    (both.0.inside, both.1.inside)

-- the number that is put is small

few : (c : After-span-span)
    → let z = c.args.circuits.frame.words.now in
    word z (5 + 6 * c.loop-k.k) * 6 + word z (6 + 6 * c.loop-k.k) * 1536 + c.span-span.result * 65536 < 1048576
few c =
    ends_few _ c.args.circuits.frame.framed c.args.circuits.fit c.loop-k.k (omega (arith, c.circuits_of-k-end.ensures)) _ _ _ _
    c.grid-grid.ensures.cols c.grid-grid.ensures.rows refl refl c.is_long-long.result _ c.span-span.ensures

pub overflow_mul-ends : goal.overflow_mul-ends
overflow_mul-ends c = omega (arith, few (goal.at.overflow_mul-ends c).After-span-span)

pub overflow_mul-ends-in-loop-k : goal.overflow_mul-ends-in-loop-k
overflow_mul-ends-in-loop-k c = omega (arith, few (goal.at.overflow_mul-ends-in-loop-k c).After-span-span)

pub overflow_add-ends : goal.overflow_add-ends
overflow_add-ends c = omega (arith, few (goal.at.overflow_add-ends c).After-span-span)

pub overflow_mul-ends-in-loop-k-2 : goal.overflow_mul-ends-in-loop-k-2
overflow_mul-ends-in-loop-k-2 c = omega (arith, few (goal.at.overflow_mul-ends-in-loop-k-2 c).After-span-span)

pub overflow_add-ends-in-loop-k : goal.overflow_add-ends-in-loop-k
overflow_add-ends-in-loop-k c = omega (arith, few (goal.at.overflow_add-ends-in-loop-k c).After-span-span)

pub loop-k-preserved : goal.loop-k-preserved
loop-k-preserved c =
    finding_more _ c.loop-k.k _ c.loop-k.invariant
    (omega (arith, c.circuits_of-k-end.ensures, c.args.circuits.frame.framed.headed.circuits_high)) _
    (ends_word_is _ c.args.circuits.frame.framed c.args.circuits.fit c.loop-k.k (omega (arith, c.circuits_of-k-end.ensures)) _ _ _ _
    c.grid-grid.ensures.cols c.grid-grid.ensures.rows refl refl _ _ c.is_long-long.ensures c.span-span.ensures)

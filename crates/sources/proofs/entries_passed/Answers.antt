-- `sources::entries_passed` meets its contract: a step is passed where its last entry begins before the cycle.
use native.Mathlib.Omega.{arith}
use Rattle.sources.proofs.BeginLaws.{passing_few, passing_more}
use Rattle.sources.proofs.entries_passed.Goals as goal

pub overflow_cast-steps : goal.overflow_cast-steps
overflow_cast-steps c = omega (arith, passing_few c.requires.0 c.requires.2 c.requires.3)

pub overflow_mul-result : goal.overflow_mul-result
overflow_mul-result c = omega (arith, passing_few c.requires.0 c.requires.2 c.requires.3)

pub loop-step-preserved : goal.loop-step-preserved
loop-step-preserved c =
    passing_more _ _ _ _ _ c.requires.1 c.requires.2 c.requires.3 c.loop-step.invariant (omega arith) _ c.at.ensures c.if-cycle-at.false

pub overflow_mul-result-2 : goal.overflow_mul-result-2
overflow_mul-result-2 c = omega (arith, passing_few c.requires.0 c.requires.2 c.requires.3)

-- `network::next_latch` meets its contract: a header's mark is 1, a last word's 3, and any other leaves the latch.
use native.Mathlib.Omega.{arith}
use Rattle.network.proofs.StageLaws.{output_for_small}
use Rattle.network.proofs.next_latch.Goals as goal

pub overflow_add-result : goal.overflow_add-result
overflow_add-result c = omega (arith, output_for_small _ _ _ c.output_for.ensures)

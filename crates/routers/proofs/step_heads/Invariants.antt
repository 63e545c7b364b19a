-- `routers::step_heads` meets its contract: each turn writes one place of the four rows, from registers that are not written yet.
use mathlib.Core.List.{[]}
use Rattle.network.specs.Registers.{head_mark, latch_row}
use Rattle.network.specs.Inner.Machine.{next_in_row}
use Rattle.network.proofs.FillLaws.{Staged}
use Rattle.routers.proofs.step_heads.Given as goal

abbrev pub invariant-loop-k : goal.invariant-loop-k
invariant-loop-k l = Staged head_mark latch_row l.k (next_in_row l.initial.s []) l.initial.s l.s

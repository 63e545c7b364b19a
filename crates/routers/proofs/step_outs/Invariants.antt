-- `routers::step_outs` meets its contract: each turn writes one place of the two rows, from the tables.
use Rattle.network.specs.Registers.{out_mark, out_word}
use Rattle.network.specs.Inner.Stages.{out_from}
use Rattle.network.proofs.FillLaws.{Staged}
use Rattle.routers.proofs.step_outs.Given as goal

abbrev pub invariant-loop-k : goal.invariant-loop-k
invariant-loop-k l = Staged out_mark out_word l.k (out_from l.marks l.cells) l.initial.s l.s

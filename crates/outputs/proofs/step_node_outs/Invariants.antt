-- `outputs::step_node_outs` meets its contract: the marks are set place by place, and behind them the words.
use Rattle.network.specs.Registers.{out_mark, out_word}
use Rattle.outputs.proofs.OutLaws.{Copied}
use Rattle.outputs.proofs.step_node_outs.Given as goal

abbrev pub invariant-loop-at : goal.invariant-loop-at
invariant-loop-at l = Copied out_mark l.k l.at l.marks l.initial.s l.s

abbrev pub invariant-loop-at-2 : goal.invariant-loop-at-2
invariant-loop-at-2 l = Copied out_word l.k l.at l.cells l.initial.s l.s

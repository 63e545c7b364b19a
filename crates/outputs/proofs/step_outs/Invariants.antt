-- `outputs::step_outs` meets its contract: each turn writes the five places of one node, from the tables, and passes the nodes up to the next of
-- the mask, which have what they should have already.
use Rattle.network.specs.Registers.{out_mark, out_word}
use Rattle.network.specs.Inner.Stages.{out_from}
use Rattle.links.proofs.WalkLaws.{Walked}
use Rattle.outputs.proofs.step_outs.Given as goal

abbrev pub invariant-loop-node : goal.invariant-loop-node
invariant-loop-node l = Walked out_mark out_word l.nodes l.live (out_from l.marks l.cells) l.initial.s l.node-iterator l.s

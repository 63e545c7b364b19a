-- `routers::step_heads_among` meets its contract: each turn writes the five places of one node, from registers that are not written yet, and passes the
-- nodes up to the next of the mask, which have what they should have already.
use mathlib.Core.List.{[]}
use Rattle.network.specs.Registers.{head_mark, latch_row}
use Rattle.network.specs.Inner.Machine.{next_in_row}
use Rattle.links.proofs.WalkLaws.{Walked}
use Rattle.routers.proofs.step_heads_among.Given as goal

abbrev pub invariant-loop-node : goal.invariant-loop-node
invariant-loop-node l = Walked head_mark latch_row l.nodes l.live (next_in_row l.initial.s []) l.initial.s l.node-iterator l.s

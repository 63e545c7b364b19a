-- Each turn puts the line of the next node of the mask behind those before; the nodes passed have none.
use Rattle.landings.proofs.PageLaws.{Walking}
use Rattle.landings.proofs.pages.put_cycle.Given as goal

abbrev pub invariant-loop-node : goal.invariant-loop-node
invariant-loop-node l = Walking l.nodes l.time l.s l.initial.buffer l.buffer l.at l.place l.landed l.node-iterator

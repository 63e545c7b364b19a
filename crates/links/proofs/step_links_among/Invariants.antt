-- `links::step_links_among` meets its contract: the registers are emptied, and each turn fills those that one node fills by its sides; a node that is
-- passed fills none. Behind that come the sources. The out registers and the extra registers, which it reads, are never written.
use Rattle.links.proofs.LinkingLaws.{Linking}
use Rattle.links.proofs.step_links_among.Given as goal

abbrev pub invariant-loop-node : goal.invariant-loop-node
invariant-loop-node l = Linking l.initial.s l.ends l.grid.cols l.grid.rows l.nodes l.vertical l.live l.node-iterator l.s

-- `links::push_sources` meets its contract: in the loop the source inputs of the nodes that the walk has left behind have what is on their wires; those
-- of the nodes that are passed have it already.
use Rattle.network.specs.Registers.{link_mark, link_word}
use Rattle.links.specs.Inner.Linking.{sourced}
use Rattle.links.proofs.WalkLaws.{Walked}
use Rattle.links.proofs.push_sources.Given as goal

abbrev pub invariant-loop-node : goal.invariant-loop-node
invariant-loop-node l = Walked link_mark link_word l.nodes l.sources (sourced l.marks l.cells l.initial.s) l.initial.s l.node-iterator l.s

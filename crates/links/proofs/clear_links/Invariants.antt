-- `links::clear_links` meets its contract: each turn empties one place of the two rows.
use Rattle.network.specs.Registers.{link_mark, link_word}
use Rattle.network.proofs.FillLaws.{Staged}
use Rattle.links.proofs.clear_links.Given as goal

abbrev pub invariant-loop-k : goal.invariant-loop-k
invariant-loop-k l = Staged link_mark link_word l.k (λ row k. 0) l.initial.s l.s

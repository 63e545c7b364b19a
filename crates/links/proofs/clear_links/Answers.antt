-- `links::clear_links` meets its contract: each turn empties one place of the two rows.
use native.Mathlib.Omega.{arith}
use Rattle.links.proofs.LinkLaws.{clear_more}
use Rattle.links.proofs.PairLaws.{filled}
use Rattle.links.proofs.clear_links.Goals as goal

pub loop-k-preserved : goal.loop-k-preserved
loop-k-preserved c = clear_more _ _ _ (omega (arith, c.requires.0)) c.requires.1 c.loop-k.invariant

pub returns : goal.returns
returns c = filled _ _ _ _ _ _ _ c.requires.1 c.loop-k.invariant (omega arith) (omega arith)

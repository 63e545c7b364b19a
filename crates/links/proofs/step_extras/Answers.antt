-- `links::step_extras` meets its contract: each turn writes the two extra registers of one node; without long links there is none.
use native.Mathlib.Omega.{arith}
use mathlib.Core.Path.{sym, ◌∙◌}
use Rattle.links.proofs.PairLaws.{filled}
use Rattle.links.proofs.ExtraStageLaws.{extending_more, none_extended}
use Rattle.links.proofs.step_extras.Goals as goal

pub loop-node-preserved : goal.loop-node-preserved
loop-node-preserved c =
    extending_more _ _ c.requires.2 c.requires.0 (sym c.requires.3 ∙ c.if-not-long.false) _ _ _ _ (omega arith) c.loop-node.invariant
    c.step_extra.ensures c.step_extra-in-loop-node.ensures

pub returns : goal.returns
returns c = filled _ _ _ _ _ _ _ c.requires.0 c.loop-node.invariant (omega arith) (omega arith)

pub returns-then-not-long : goal.returns-then-not-long
returns-then-not-long c =
    none_extended _ _ c.requires.2 c.requires.0 (sym c.requires.3 ∙ c.if-not-long.true)

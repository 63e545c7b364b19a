-- `receivers::receiving::clear_landings` meets its contract: in the loop the landings of the nodes before `node` are cleared.
use Rattle.std.proofs.Common.{◌≡◌, ap, ◌∙◌, arith}
use Rattle.network.specs.Registers.{landing_mark, landing_word}
use Rattle.network.specs.Inner.Stages.{stage}
use Rattle.network.specs.Inner.Quiet.{unlanded}
use Rattle.network.proofs.FillLaws.{staged_is}
use Rattle.receivers.proofs.ClearLaws.{clearing_more}
use Rattle.receivers.proofs.receiving.clear_landings.Goals as goal

pub loop-node-preserved : goal.loop-node-preserved
loop-node-preserved c = clearing_more _ _ _ c.requires.1 (omega (arith, c.requires.0)) c.loop-node.invariant

pub returns : goal.returns
returns c =
    let before = c.args.s.now in
    let all : c.loop-node.node ≡ c.args.nodes = omega arith in
    staged_is landing_mark landing_word _ (unlanded before) before _ c.requires.1 c.loop-node.invariant
    ∙ ap (λ n. stage landing_mark landing_word n (unlanded before) before) all

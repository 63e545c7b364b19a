-- `sheet::frame::Frame::keeps_rule4` meets its contract. Number 4: each circuit is tested.
use Rattle.std.proofs.Common.{rules, refl}
use Rattle.words.proofs.RangeLaws.{all_range}
use Rattle.sheet.specs.Sheet.{nodes, memory_words, circuit_at}
use Rattle.sheet.specs.Rules.{rule4, circuit_fits}
use Rattle.sheet.proofs.frame.Frame.keeps_rule4.Goals as goal

pub returns : goal.returns
unfolding rule4
returns c =
    let n = c.nodes-nodes.ensures.0 in
    let m = c.memory_of-memory.ensures in
    all_range (λ k. circuit_fits (nodes c.args.self.words.now) (memory_words c.args.self.words.now) (circuit_at c.args.self.words.now k)) refl
    c.circuits_of.ensures c.all.ensures.ran (λ x b q k. search rules)

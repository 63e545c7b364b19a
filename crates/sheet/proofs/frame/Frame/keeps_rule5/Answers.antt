-- `sheet::frame::Frame::keeps_rule5` meets its contract. Number 5: each circuit is tested with the next.
use Rattle.std.proofs.Common.{rules, refl, arith, ◌+◌}
use Rattle.words.proofs.RangeLaws.{all_range}
use Rattle.sheet.specs.Sheet.{circuit_at}
use Rattle.sheet.specs.Rules.{rule5, circuit_precedes}
use Rattle.sheet.proofs.frame.Frame.keeps_rule5.Goals as goal

pub returns : goal.returns
unfolding rule5
returns c =
    all_range (λ k. circuit_precedes (circuit_at c.args.self.words.now k) (circuit_at c.args.self.words.now (k + 1))) refl (omega arith)
    c.all.ensures.ran (λ x b q k. search rules)

-- `sheet::frame::Frame::keeps_rule8` meets its contract. Number 8: each schedule is tested.
use Rattle.std.proofs.Common.{rules, refl}
use Rattle.words.proofs.RangeLaws.{all_range}
use Rattle.sheet.specs.Rules.{rule8, rule8_at}
use Rattle.sheet.proofs.frame.Frame.keeps_rule8.Goals as goal

pub returns : goal.returns
unfolding rule8 rule8_at
returns c = all_range (rule8_at c.args.self.words.now) refl c.schedules_of.ensures c.all.ensures.ran (λ x b q k. search rules)

-- `sheet::frame::Frame::keeps_rule7` meets its contract. Number 7: each schedule is tested.
use Rattle.std.proofs.Common.{rules, refl}
use Rattle.words.proofs.RangeLaws.{all_range}
use Rattle.sheet.specs.Rules.{rule7, rule7_at}
use Rattle.sheet.proofs.frame.Frame.keeps_rule7.Goals as goal

pub returns : goal.returns
unfolding rule7
returns c = all_range (rule7_at c.args.self.words.now) refl c.schedules_of.ensures c.all.ensures.ran (λ x b q k. search rules)

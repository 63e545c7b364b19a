-- `clash::RoutedSheet::keeps_rule11` meets its contract. Number 11: each schedule is tested.
use Rattle.std.proofs.Common.{rules, refl}
use Rattle.words.proofs.RangeLaws.{all_range}
use Rattle.sheet.specs.Rules.{rule11, rule11_at}
use Rattle.clash.proofs.RoutedSheet.keeps_rule11.Goals as goal

pub returns : goal.returns
unfolding rule11
returns c = all_range (rule11_at c.args.self.frame.words.now) refl c.schedules_of.ensures c.all.ensures.ran (λ x b q k. search rules)

-- `routes::Routes::keeps_rule10` meets its contract. Number 10: each schedule is tested.
use Rattle.std.proofs.Common.{rules, refl}
use Rattle.words.proofs.RangeLaws.{all_range}
use Rattle.sheet.specs.Sheet.{period}
use Rattle.sheet.specs.Rules.{rule10, each_entry, entry_ends}
use Rattle.routes.proofs.Routes.keeps_rule10.Goals as goal

pub returns : goal.returns
unfolding rule10
returns c =
    all_range (λ j. each_entry c.args.self.frame.words.now j (entry_ends c.args.self.frame.words.now (period c.args.self.frame.words.now j))) refl c.schedules_of.ensures c.all.ensures.ran (λ x b q k. search rules)

-- `routes::Routes::keeps_rule9` meets its contract. Number 9: each schedule is tested.
use Rattle.std.proofs.Common.{rules, refl}
use Rattle.words.proofs.RangeLaws.{all_range}
use Rattle.sheet.specs.Rules.{rule9, each_entry, entry_leads}
use Rattle.routes.proofs.Routes.keeps_rule9.Goals as goal

pub returns : goal.returns
unfolding rule9
returns c =
    all_range (λ j. each_entry c.args.self.frame.words.now j (entry_leads c.args.self.frame.words.now)) refl c.schedules_of.ensures c.all.ensures.ran (λ x b q k. search rules)

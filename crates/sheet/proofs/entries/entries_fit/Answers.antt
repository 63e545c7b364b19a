-- `sheet::entries::entries_fit` meets its contract. Number 7 at the entries of a schedule: each is tested.
use Rattle.std.proofs.Common.{rules, refl}
use Rattle.words.proofs.RangeLaws.{all_range}
use Rattle.sheet.specs.Sheet.{entry_at}
use Rattle.sheet.specs.Rules.{entry_fits}
use Rattle.sheet.proofs.entries.entries_fit.Goals as goal

pub returns : goal.returns
returns c =
    all_range (λ k. entry_fits c.args.circuits c.args.period (entry_at c.args.entries.now k)) refl refl c.all.ensures.ran
    (λ x b q k. search rules)

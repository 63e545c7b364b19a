-- `sheet::entries::entries_ascend` meets its contract. Number 8 at the entries of a schedule: each is tested with the next.
use Rattle.std.proofs.Common.{rules, refl, arith, ◌+◌}
use Rattle.words.proofs.RangeLaws.{all_range}
use Rattle.sheet.specs.Sheet.{entry_at}
use Rattle.sheet.specs.Rules.{entry_precedes}
use Rattle.sheet.proofs.entries.entries_ascend.Goals as goal

pub returns : goal.returns
returns c =
    all_range (λ k. entry_precedes (entry_at c.args.entries.now k) (entry_at c.args.entries.now (k + 1))) refl (omega arith)
    c.all.ensures.ran (λ x b q k. search rules)

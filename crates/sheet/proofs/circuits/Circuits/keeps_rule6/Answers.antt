-- `sheet::circuits::Circuits::keeps_rule6` meets its contract. Number 6: each circuit's receive region is tested.
use Rattle.std.proofs.Common.{rules, refl}
use Rattle.words.specs.Tests.{all}
use Rattle.words.proofs.RangeLaws.{all_range}
use Rattle.sheet.specs.Sheet.{circuits}
use Rattle.sheet.specs.Rules.{rule6, receive_apart}
use Rattle.sheet.proofs.circuits.Circuits.keeps_rule6.Goals as goal

pub returns : goal.returns
unfolding rule6
returns c =
    all_range (λ j. all (circuits c.args.self.frame.words.now) (receive_apart c.args.self.frame.words.now j)) refl c.circuits_of.ensures c.all.ensures.ran
    (λ x b q k. search rules)

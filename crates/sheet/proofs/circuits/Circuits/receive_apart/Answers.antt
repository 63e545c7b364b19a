-- `sheet::circuits::Circuits::receive_apart` meets its contract. Number 6 at one receive region: it is tested with each circuit.
use Rattle.std.proofs.Common.{rules, refl}
use Rattle.words.proofs.RangeLaws.{all_range}
use Rattle.sheet.specs.Rules.{receive_apart}
use Rattle.sheet.proofs.circuits.Circuits.receive_apart.Goals as goal

pub returns : goal.returns
returns c =
    all_range (receive_apart c.args.self.frame.words.now c.args.j) refl c.circuits_of.ensures c.all.ensures.ran (λ x b q k. search rules)

-- `sheet::circuits::Circuit::at` meets its contract: the six words are those of the definition.
use Rattle.sheet.proofs.CircuitLaws.{circuit_is}
use Rattle.sheet.proofs.circuits.Circuit.at.Goals as goal

pub returns : goal.returns
returns c =
    circuit_is _ _ c.get.ensures c.get-2.ensures c.get-3.ensures
    c.get-4.ensures c.get-5.ensures c.get-6.ensures

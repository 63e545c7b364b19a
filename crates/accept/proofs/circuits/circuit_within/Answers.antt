-- `accept::circuits::circuit_within` meets its contract: the six words are those of the definition, and the circuits end within the sheet.
use mathlib.Core.Path.{refl}
use Rattle.sheet.proofs.CircuitLaws.{circuit_is}
use Rattle.accept.proofs.circuits.circuit_within.Goals as goal

pub returns : goal.returns
returns c = circuit_is _ _ refl refl refl refl refl refl

-- `accept::circuits::read_apart` meets its contract: in the loop the receive regions from `first` on and before `i` are apart from the read region.
use native.Mathlib.Omega.{arith}
use Rattle.sheet.proofs.CircuitLaws.{circuit_ends}
use Rattle.accept.proofs.circuits.read_apart.Goals as goal

pub is_apart-requires : goal.is_apart-requires
is_apart-requires c =
    let framed = c.args.circuits.frame.framed in
    let fit = c.args.circuits.fit in
    let own = circuit_ends _ framed fit _ c.requires.0 _ c.circuit_within.ensures in
    let other =
    circuit_ends _ framed fit c.loop-i.i (omega (arith, c.requires.1, c.loop-i-test.true)) _
    c.circuit_within-in-loop-i.ensures in
    (omega (arith, other.1), omega (arith, own.0))

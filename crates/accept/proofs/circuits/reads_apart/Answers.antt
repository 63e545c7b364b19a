-- `accept::circuits::reads_apart` meets its contract: in the loop the read regions of the circuits before `k` are apart from every receive
-- region: the tables name those at a read region's node, and the others are at another node.
use native.Mathlib.Omega.{arith}
use Prim.Native.Nat.{◌<◌}
use mathlib.Core.Bool.{false≢true}
use borrow.Author.Rules.{rules}
use Rattle.accept.proofs.ArrangedLaws.{reads_start, reads_more, reads_done, order_four, source_few}
use Rattle.accept.proofs.circuits.reads_apart.Goals as goal
use Rattle.accept.proofs.circuits.reads_apart.Goals.{After-circuit_within-node}

pub loop-k-init : goal.loop-k-init
loop-k-init c = reads_start _

pub overflow_cast-node : goal.overflow_cast-node
overflow_cast-node c = search rules

-- the source's number is small

few : (c : After-circuit_within-node) → c.circuit_within-node.result.read.node < 16
few c =
    source_few _ c.args.frame.framed c.requires.0 c.loop-k.k (omega (arith, c.circuits_of-k-end.ensures)) _
    c.circuit_within-node.ensures

pub offset_bounds-from-node : goal.offset_bounds-from-node
offset_bounds-from-node c = omega (arith, few (goal.at.offset_bounds-from-node c).After-circuit_within-node)

pub bounds-from-node : goal.bounds-from-node
bounds-from-node c =
    omega (arith, few (goal.at.bounds-from-node c).After-circuit_within-node, c.requires.1.from_long)

pub offset_bounds-to-node : goal.offset_bounds-to-node
offset_bounds-to-node c = omega (arith, few (goal.at.offset_bounds-to-node c).After-circuit_within-node)

pub bounds-to-node : goal.bounds-to-node
bounds-to-node c =
    omega (arith, few (goal.at.bounds-to-node c).After-circuit_within-node, c.requires.1.to_long)

pub invariant_of-read_apart : goal.invariant_of-read_apart
invariant_of-read_apart c = record { fit = order_four _ c.requires.0 }

pub read_apart-requires : goal.read_apart-requires
read_apart-requires c =
    (omega (arith, c.circuits_of-k-end.ensures), c.requires.1.below _)

pub loop-k-preserved : goal.loop-k-preserved
loop-k-preserved c =
    reads_more _ _ _ c.loop-k.k c.loop-k.invariant c.requires.1 _ c.circuit_within-node.ensures
    (c.read_apart.ensures c.if-not-read_apart.false)

pub returns-then-not-read_apart : goal.returns-then-not-read_apart
returns-then-not-read_apart c = λ e. absurd (false≢true e)

pub returns : goal.returns
returns c =
    λ e.
    reads_done _ c.loop-k.k c.args.frame.framed c.requires.0 c.loop-k.invariant
    (omega (arith, c.circuits_of-k-end.ensures))

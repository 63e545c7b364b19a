-- `accept::circuits::circuits_arranged` meets its contract: in the loop the circuits before `k` fit, each ends before the later
-- ones begin, none ends behind `end`, and the tables hold them.
use native.Mathlib.Omega.{arith}
use Prim.Native.Nat.{◌+◌, ◌<◌, ◌≤◌}
use mathlib.Core.Bool.{false≢true}
use mathlib.Core.Path.{sym, ◌∙◌}
use Rattle.accept.proofs.ArrangedLaws.{arranging_start, arranging_more, arranging_done, within_read, zeros_long}
use Rattle.accept.proofs.circuits.circuits_arranged.Goals as goal
use Rattle.accept.proofs.circuits.circuits_arranged.Goals.{Else-not-fits}

pub loop-k-init : goal.loop-k-init
loop-k-init c =
    arranging_start _ _ _ c.requires.0 c.requires.1

pub fits-requires : goal.fits-requires
fits-requires c = tt

-- the receive region is at a node of the grid and ends within the memory, so its keys are small

few : (c : Else-not-fits)
    → let receive = c.circuit_within-circuit.result.receive in
    (receive.node < 16) × (receive.offset + receive.size ≤ 16384)
few c =
    let own = within_read _ _ _ c.fits.ensures c.if-not-fits.false in
    let memory = c.args.frame.framed.headed.memory_high in (
      omega (arith, own.inside, c.nodes-nodes.ensures.1),
      omega (arith, own.ends, c.memory_of-memory.ensures, memory),
    )

pub overflow_mul-key : goal.overflow_mul-key
overflow_mul-key c = let small = few (goal.at.overflow_mul-key c).Else-not-fits in omega (arith, small.0)

pub overflow_add-key : goal.overflow_add-key
overflow_add-key c = let small = few (goal.at.overflow_add-key c).Else-not-fits in omega (arith, small.0, small.1)

pub shape_of-from-then-key-end : goal.shape_of-from-then-key-end
shape_of-from-then-key-end c =
    c.loop-k.invariant.tables.from_long ∙ sym c.requires.0

pub shape_of-to-then-key-end : goal.shape_of-to-then-key-end
shape_of-to-then-key-end c =
    c.loop-k.invariant.tables.to_long ∙ sym (zeros_long _ c.requires.1)

pub returns-then-key-end : goal.returns-then-key-end
returns-then-key-end c = record { order = λ e. absurd (false≢true e); tables = λ e. absurd (false≢true e) }

pub overflow_add-end : goal.overflow_add-end
overflow_add-end c = let small = few (goal.at.overflow_add-end c).Else-not-fits in omega (arith, small.0, small.1)

pub list_circuit-requires : goal.list_circuit-requires
list_circuit-requires c =
    let small = few (goal.at.list_circuit-requires c).Else-not-fits in
    let tables = c.loop-k.invariant.tables in (
      omega (arith, small.0, tables.from_long),
      omega (arith, small.0, tables.to_long),
      omega (arith, c.circuits_of-k-end.ensures, c.args.frame.framed.headed.circuits_high),
    )

pub loop-k-preserved : goal.loop-k-preserved
loop-k-preserved c =
    arranging_more _ c.loop-k.k c.loop-k.end _ _ _ _ c.loop-k.invariant _ _ c.nodes-nodes.ensures.0
    c.memory_of-memory.ensures c.nodes-nodes.ensures.1 _ c.circuit_within-circuit.ensures
    (sym c.fits.ensures ∙ c.if-not-fits.false) c.if-key-end.false c.list_circuit.ensures.from
    c.list_circuit.ensures.to

pub shape_of-from-then-not-fits : goal.shape_of-from-then-not-fits
shape_of-from-then-not-fits c =
    c.loop-k.invariant.tables.from_long ∙ sym c.requires.0

pub shape_of-to-then-not-fits : goal.shape_of-to-then-not-fits
shape_of-to-then-not-fits c =
    c.loop-k.invariant.tables.to_long ∙ sym (zeros_long _ c.requires.1)

pub returns-then-not-fits : goal.returns-then-not-fits
returns-then-not-fits c = record { order = λ e. absurd (false≢true e); tables = λ e. absurd (false≢true e) }

pub shape_of-from : goal.shape_of-from
shape_of-from c =
    c.loop-k.invariant.tables.from_long ∙ sym c.requires.0

pub shape_of-to : goal.shape_of-to
shape_of-to c =
    c.loop-k.invariant.tables.to_long ∙ sym (zeros_long _ c.requires.1)

pub returns : goal.returns
returns c =
    let done =
    arranging_done _ c.loop-k.k c.loop-k.end _ _ c.loop-k.invariant
    (omega (arith, c.circuits_of-k-end.ensures)) in record { order = λ e. done.0; tables = λ e. done.1 }

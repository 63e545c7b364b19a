-- `quiet::rest` meets its contract: the cycle before the last is put in, and the last is crossed.
use native.Mathlib.Omega.{arith}
use Rattle.quiet.proofs.RestingLaws.{stretch_small, still_settled, crossed_is}
use Rattle.quiet.proofs.rest.Goals as goal

pub overflow_add-cycle : goal.overflow_add-cycle
overflow_add-cycle c =
    omega (arith, stretch_small _ c.requires _ _ _ c.cycles_to_cross-count.ensures c.reg-cycle.ensures)

pub cross_quiet-requires : goal.cross_quiet-requires
cross_quiet-requires c =
    still_settled _ c.requires _ _ c.cycles_to_cross-count.ensures c.if-count-eq0.false _ c.reg-cycle.ensures
    _ _ c.put_reg.ensures (omega arith)

pub returns : goal.returns
returns c =
    crossed_is _ c.requires _ _ c.cycles_to_cross-count.ensures c.if-count-eq0.false _ c.reg-cycle.ensures _ _
    c.put_reg.ensures (omega arith) c.is_still.ensures c.if-not-is_still.false c.cross_quiet.ensures

-- `occupancy::take_free` meets its contract: what the mask leaves of the window tells whether one of its places is taken, and the two words hold the union.
use mathlib.Core.Path.{refl}
use native.Mathlib.Omega.{arith}
use Rattle.occupancy.proofs.TakeLaws.{second_small, mask_taken, mask_free}
use Rattle.occupancy.proofs.take_free.Goals as goal

pub returns-then-before-mask-ne0 : goal.returns-then-before-mask-ne0
returns-then-before-mask-ne0 c = mask_taken c.args.table.now c.args.q c.args.mask (λ x. (c.slice_known-1.given x).fits)
    c.window-before.ensures (λ e. omega (arith, e, c.if-before-mask-ne0.true))

pub overflow_cast-table-2 : goal.overflow_cast-table-2
overflow_cast-table-2 c = rw c.window-before.ensures
    (omega (
      arith,
      second_small c.args.table.now c.args.q c.args.mask (λ x. (c.slice_known-1.given x).fits) (omega arith),
    ))

pub returns : goal.returns
returns c = mask_free c.args.table.now c.args.q c.args.mask (λ x. (c.slice_known-1.given x).fits)
    c.window-before.ensures c.requires (omega (arith, c.if-before-mask-ne0.false)) _ (rw c.window-before.ensures refl)

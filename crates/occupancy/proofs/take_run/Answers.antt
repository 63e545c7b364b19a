-- `occupancy::take_run` meets its contract: the two words hold the union of the window and the mask.
use native.Mathlib.Omega.{arith}
use Prim.Native.Nat.{◌/◌, ◌%◌}
use Rattle.occupancy.specs.Inner.Occupancy.{slot_mask, take_run}
use Rattle.occupancy.proofs.BitLaws.{mask_small}
use Rattle.occupancy.proofs.TakeLaws.{second_small}
use Rattle.occupancy.proofs.take_run.Goals as goal

pub overflow_cast-table-2 : goal.overflow_cast-table-2
overflow_cast-table-2 c = rw (c.window.ensures, c.slot_mask.ensures)
    (omega (
      arith,
      second_small c.args.table.now (c.args.place / 32) (slot_mask (c.args.place % 32) c.args.size)
          (λ x. (c.slice_known-1.given x).fits)
          (mask_small (c.args.place % 32) c.args.size (omega arith)),
    ))

pub returns : goal.returns
unfolding take_run
returns c = rw (c.window.ensures, c.slot_mask.ensures)

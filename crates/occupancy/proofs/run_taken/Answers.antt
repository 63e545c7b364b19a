-- `occupancy::run_taken` meets its contract: what the mask leaves of the window is the bits of the run.
use Prim.Native.Nat.{◌/◌}
use Rattle.words.specs.Tests.{◌≠?◌}
use Rattle.occupancy.proofs.WindowLaws.{any_mask}
use Rattle.occupancy.proofs.run_taken.Goals as goal

pub returns : goal.returns
unfolding ◌≠?◌
returns c = any_mask c.args.table.now c.args.place c.args.size
    (c.type_inv.table (c.args.place / 32)).fits
    c.requires.1
    c.window.ensures
    c.slot_mask.ensures

-- `accept::walks::follow_entry` meets its contract: each turn takes the wire of the next hop, and what is taken so far are the uses before the rest of
-- the route; or the walk turned back, and then it does not end at the destination.
use Prim.Native.Nat.{◌/◌, ◌%◌}
use mathlib.Core.Path.{◌≡◌}
use lib.ListN.{length}
use Rattle.sheet.specs.declared.entries.Entry.{Entry}
use Rattle.occupancy.specs.Inner.Occupancy.{slot_mask}
use Rattle.accept.specs.Inner.Placing.{Placeable}
use Rattle.accept.proofs.WalkLaws.{Walking}
use Rattle.accept.proofs.walks.follow_entry.Given as goal

abbrev pub invariant-loop-long : goal.invariant-loop-long
invariant-loop-long l = (e : Entry) (p : Placeable (length l.initial.table) l.near l.z l.ends l.stride e) → l.q ≡ e.offset / 32 → l.slot ≡ slot_mask (e.offset % 32) e.size → l.initial.rest ≡ e.route
    → Walking (length l.initial.table) l.near l.z l.ends l.stride e p l.initial.table l.table l.node l.back l.left l.rest l.mask

abbrev pub decreases-loop-long : goal.decreases-loop-long
decreases-loop-long l = l.left

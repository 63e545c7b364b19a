-- `accept::schedules::place_entries` meets its contract: with just the entries before it in the table, an entry that is placed meets none of them.
use Prim.Native.Nat.{◌-◌, ◌/◌, ◌%◌, ◌≤◌}
use mathlib.Core.Path.{◌≡◌}
use lib.ListN.{length}
use Rattle.sheet.specs.Sheet.{period as period_of}
use Rattle.accept.specs.Inner.Placing.{Schedulable}
use Rattle.accept.proofs.ScheduleLaws.{Accepting}
use Rattle.accept.proofs.schedules.place_entries.Given as goal

abbrev pub invariant-loop-at : goal.invariant-loop-at
invariant-loop-at turn = (turn.at % 4 ≡ 0) × (turn.at ≤ length turn.entries) × ((p : Schedulable (length turn.initial.table) turn.near turn.frame.words.now turn.ends turn.j) (l : 9 ≤ period_of turn.frame.words.now turn.j) (h : period_of turn.frame.words.now turn.j ≤ 1024)
    → Accepting (length turn.initial.table) turn.near turn.frame.words.now turn.ends turn.j p l h (turn.at / 4) turn.least turn.table)

abbrev pub decreases-loop-at : goal.decreases-loop-at
decreases-loop-at l = length l.entries - l.at

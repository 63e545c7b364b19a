-- `sheet::frame::keeps_rule3` meets its contract. Number 3: at each turn `at` is the place of the schedule that is counted, and every one before it fits.
use Prim.Native.Nat.{◌+◌, ◌*◌, ◌≤◌}
use mathlib.Core.Bool.{true}
use mathlib.Core.Path.{◌≡◌}
use Rattle.words.specs.Tests.{all}
use Rattle.sheet.specs.Sheet.{schedules, schedule_place}
use Rattle.sheet.specs.Rules.{schedule_fits}
use Rattle.sheet.proofs.frame.keeps_rule3.Given as goal

abbrev pub invariant-loop : goal.invariant-loop
invariant-loop l = (l.end ≡ schedules l.z)
    × (l.at ≡ schedule_place l.z l.counter)
    × (all l.counter (schedule_fits l.z) ≡ true)
    × (l.at ≤ 389 + 1026 * l.counter)

-- `sheet::frame::Frame::schedule_place` meets its contract: at each turn `at` is the place of the schedule that is counted, which lies within the sheet by rule 3.
use mathlib.Core.Path.{◌≡◌}
use Rattle.sheet.specs.Sheet.{schedule_place}
use Rattle.sheet.specs.Inner.Passed.{Placed}
use Rattle.sheet.proofs.frame.Frame.schedule_place.Given as goal

abbrev pub invariant-loop : goal.invariant-loop
invariant-loop l = (l.at ≡ schedule_place l.self.words.now l.counter) × Placed l.self.words.now l.at

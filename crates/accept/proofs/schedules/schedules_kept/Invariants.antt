-- `accept::schedules::schedules_kept` meets its contract: the first schedule is kept, and each turn keeps one more in a table that was cleared.
use mathlib.Core.Path.{◌≡◌}
use lib.ListN.{length}
use Rattle.sheet.specs.Sheet.{schedules}
use Rattle.accept.specs.Inner.Placing.{KeptAll}
use Rattle.accept.proofs.schedules.schedules_kept.Given as goal

abbrev pub invariant-loop-j : goal.invariant-loop-j
invariant-loop-j l = (l.j-end ≡ schedules l.frame.words.now) × (length l.table ≡ length l.initial.table) × (KeptAll l.frame.words.now l.j)

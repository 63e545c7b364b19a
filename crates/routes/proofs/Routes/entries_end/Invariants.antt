-- `routes::Routes::entries_end` meets its contract: Number 10 at one schedule: each entry is tested.
use mathlib.Core.Bool.{true}
use mathlib.Core.Path.{◌≡◌}
use Rattle.words.specs.Tests.{all}
use Rattle.sheet.specs.Sheet.{entry_at}
use Rattle.sheet.specs.Rules.{entry_ends}
use Rattle.routes.proofs.Routes.entries_end.Given as goal

abbrev pub invariant-loop-i : goal.invariant-loop-i
invariant-loop-i l = all l.i (λ k. entry_ends l.self.frame.words.now l.period (entry_at l.entries k)) ≡ true

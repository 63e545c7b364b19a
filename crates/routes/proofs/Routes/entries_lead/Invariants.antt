-- `routes::Routes::entries_lead` meets its contract: Number 9 at one schedule: each entry is tested.
use mathlib.Core.Bool.{true}
use mathlib.Core.Path.{◌≡◌}
use Rattle.words.specs.Tests.{all}
use Rattle.sheet.specs.Sheet.{entry_at}
use Rattle.sheet.specs.Rules.{entry_leads}
use Rattle.routes.proofs.Routes.entries_lead.Given as goal

abbrev pub invariant-loop-i : goal.invariant-loop-i
invariant-loop-i l = all l.i (λ k. entry_leads l.self.frame.words.now (entry_at l.entries k)) ≡ true

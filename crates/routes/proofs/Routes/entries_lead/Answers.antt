-- `routes::Routes::entries_lead` meets its contract: Number 9 at one schedule: each entry is tested.
use native.Mathlib.Omega.{arith}
use mathlib.Core.Path.{sym, ◌∙◌}
use Rattle.words.proofs.AllLaws.{all_none, all_more, all_done, all_fails}
use Rattle.routes.proofs.RouteRules.{joined, each_is}
use Rattle.routes.proofs.Routes.entries_lead.Goals as goal

pub loop-i-init : goal.loop-i-init
loop-i-init c = sym (all_none _)

pub entry_leads-requires : goal.entry_leads-requires
entry_leads-requires c =
    joined _ c.args.self.ranged _ c.requires _ c.entries-entries.ensures c.loop-i.i (omega arith) _ c.at.ensures

pub loop-i-preserved : goal.loop-i-preserved
loop-i-preserved c = all_more _ _ c.loop-i.invariant (cc)

pub returns-then-not-entry_leads : goal.returns-then-not-entry_leads
returns-then-not-entry_leads c = all_fails _ _ c.loop-i.i (omega arith) (cc) ∙ each_is _ _ _ _ c.entries-entries.ensures

pub returns : goal.returns
returns c = all_done _ _ _ c.loop-i.invariant (omega arith) (omega arith) ∙ each_is _ _ _ _ c.entries-entries.ensures

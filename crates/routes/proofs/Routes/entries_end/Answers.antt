-- `routes::Routes::entries_end` meets its contract: Number 10 at one schedule: each entry is tested.
use native.Mathlib.Omega.{arith}
use mathlib.Core.Path.{sym, ◌∙◌}
use Rattle.words.proofs.AllLaws.{all_none, all_more, all_done, all_fails}
use Rattle.routes.proofs.RouteRules.{timed, led, each_ending}
use Rattle.routes.proofs.Routes.entries_end.Goals as goal

pub loop-i-init : goal.loop-i-init
loop-i-init c = sym (all_none _)

pub entry_ends-requires : goal.entry_ends-requires
entry_ends-requires c = (
  timed _ c.args.self.ranged _ c.requires.1 _ c.entries-entries.ensures c.loop-i.i (omega arith) _
      c.at.ensures _ c.schedule_period-period.ensures,
  led _ c.args.self.ranged _ c.requires.1 _
      c.entries-entries.ensures c.loop-i.i (omega arith) _ c.at.ensures c.requires.0,
)

pub loop-i-preserved : goal.loop-i-preserved
loop-i-preserved c = all_more _ _ c.loop-i.invariant (cc)

pub returns-then-not-entry_ends : goal.returns-then-not-entry_ends
returns-then-not-entry_ends c =
    all_fails _ _ c.loop-i.i (omega arith) (cc) ∙ each_ending _ _ _ _ c.entries-entries.ensures
    c.schedule_period-period.ensures

pub returns : goal.returns
returns c = all_done _ _ _ c.loop-i.invariant (omega arith) (omega arith) ∙ each_ending _ _ _ _ c.entries-entries.ensures c.schedule_period-period.ensures

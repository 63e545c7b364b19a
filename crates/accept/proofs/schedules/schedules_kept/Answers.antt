-- `accept::schedules::schedules_kept` meets its contract: the first schedule is kept, and each turn keeps one more in a table that was cleared.
use Prim.Native.Nat.{ℕ}
use mathlib.Core.Path.{refl, sym, ◌∙◌, subst}
use native.Mathlib.Omega.{arith}
use Rattle.clash.specs.Inner.Table.{Free}
use Rattle.accept.specs.Inner.Placing.{Schedulable, KeptAll}
use Rattle.accept.proofs.ScheduleLaws.{zeros_free, kept_start, kept_more}
use Rattle.accept.proofs.schedules.schedules_kept.Goals as goal

pub keeps_schedule-requires : goal.keeps_schedule-requires
keeps_schedule-requires c =
    (c.requires.0 0 c.requires.2, c.requires.1)

pub loop-j-init : goal.loop-j-init
loop-j-init c = (
  c.schedules_of-j-end.ensures,
  refl,
  kept_more _ 0 (kept_start _) (c.keeps_schedule.ensures.kept c.if-not-keeps_schedule.false),
)

pub keeps_schedule-requires-in-loop-j : goal.keeps_schedule-requires-in-loop-j
keeps_schedule-requires-in-loop-j c = (
  subst (λ (n : ℕ). Schedulable n c.args.near.now c.args.frame.words.now c.args.ends.now c.loop-j.j)
      (sym (c.fill.ensures.len ∙ c.loop-j.invariant.1 ∙ c.keeps_schedule.ensures.long))
      (c.requires.0 c.loop-j.j (omega (arith, c.loop-j.invariant.0))),
  subst Free (sym (c.fill.ensures.after (λ y e. e))) (zeros_free _),
)

pub loop-j-preserved : goal.loop-j-preserved
loop-j-preserved c = (
  c.loop-j.invariant.0,
  c.keeps_schedule-in-loop-j.ensures.long ∙ c.fill.ensures.len ∙ c.loop-j.invariant.1,
  kept_more _ _ c.loop-j.invariant.2 (c.keeps_schedule-in-loop-j.ensures.kept c.if-not-keeps_schedule-2.false),
)

pub shape_of-table-then-not-keeps_schedule-2 : goal.shape_of-table-then-not-keeps_schedule-2
shape_of-table-then-not-keeps_schedule-2 c =
    c.keeps_schedule-in-loop-j.ensures.long ∙ c.fill.ensures.len ∙ c.loop-j.invariant.1 ∙ c.keeps_schedule.ensures.long

pub shape_of-table : goal.shape_of-table
shape_of-table c = c.loop-j.invariant.1 ∙ c.keeps_schedule.ensures.long

pub returns : goal.returns
returns c =
    λ y. subst (KeptAll c.args.frame.words.now) (omega (arith, c.loop-j.invariant.0)) c.loop-j.invariant.2

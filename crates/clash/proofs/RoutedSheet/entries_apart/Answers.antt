-- `clash::RoutedSheet::entries_apart` meets its contract: Number 11 at one schedule: with just the entries before it in the table, an entry finds a place taken exactly where it meets one of them.
use native.Mathlib.Omega.{arith}
use Prim.Native.Nat.{ℕ, ◌+◌}
use mathlib.Core.Path.{refl, ap}
use Rattle.clash.proofs.EntryLaws.{placing_start, placing_more, placing_fails, placing_done}
use Rattle.clash.proofs.RoutedSheet.entries_apart.Goals as goal

pub loop-i-init : goal.loop-i-init
loop-i-init c =
    placing_start _ _ _ _ _ _ refl c.args.self.routed c.requires.0 c.requires.1 c.requires.2 c.entries-entries.ensures
    (ap (λ (n : ℕ). n + 6) c.schedule_period.ensures)

pub loop-i-preserved : goal.loop-i-preserved
loop-i-preserved c =
    placing_more _ _ _ _ _ c.loop-i.i _ c.loop-i.invariant (omega arith) _ c.at.ensures _
    c.place_entry.ensures c.if-not-place_entry.false

pub returns-then-not-place_entry : goal.returns-then-not-place_entry
returns-then-not-place_entry c =
    placing_fails _ _ _ _ _ c.loop-i.i _ c.loop-i.invariant (omega arith) _ c.at.ensures _
    c.place_entry.ensures c.if-not-place_entry.true

pub returns : goal.returns
returns c = placing_done _ _ _ _ _ c.loop-i.i _ c.loop-i.invariant (omega arith) (omega arith)

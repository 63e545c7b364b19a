-- `sources::slots_now` meets its contract: in the loop the entries before `i` are in the table, of those passed none begins; behind a later entry none begins, and while none begins the table has zeros alone.
use native.Mathlib.Omega.{arith}
use Rattle.words.specs.Tests.{◌=?◌}
use Rattle.sources.proofs.SourceLaws.{either_is}
use Rattle.sources.proofs.BeginLaws.{passing_few, table_start, filling_more, table_stop, table_done}
use Rattle.sources.proofs.slots_now.Goals as goal

pub overflow_cast-count : goal.overflow_cast-count
overflow_cast-count c =
    omega (arith, passing_few c.requires.0.framed (omega (arith, c.requires.0.in_force, c.reg-schedule.ensures)) c.entries_of-entries.ensures)

pub loop-i-init : goal.loop-i-init
loop-i-init c =
    table_start _ _ c.requires.0 _ _ _ _ _ c.reg-schedule.ensures c.entries_of-entries.ensures c.requires.2 c.entries_passed-i.ensures

pub returns-then-cycle-entry-clause-table : goal.returns-then-cycle-entry-clause-table
returns-then-cycle-entry-clause-table c =
    table_stop _ _ c.requires.0 c.requires.1 _ _ _ _ _ _ c.reg-cycle.ensures c.loop-i.invariant c.loop-i-test.true _ c.at-entry.ensures c.if-cycle-entry.true

pub loop-i-preserved : goal.loop-i-preserved
unfolding ◌=?◌
loop-i-preserved c =
    filling_more _ _ _ _ _ _ _ _ c.loop-i.invariant c.loop-i-test.true _ c.at-entry.ensures _ (either_is _ _) _ c.put_slot.ensures

pub returns-clause-table : goal.returns-clause-table
returns-clause-table c = table_done _ _ c.requires.0 _ _ _ _ _ _ c.reg-cycle.ensures c.loop-i.invariant c.loop-i-test.false

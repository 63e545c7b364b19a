-- `quiet::openings::next_opening` meets its contract: of the entries passed none that begins in this cycle or later has words left, and those behind begin no earlier.
use native.Mathlib.Omega.{arith}
use Rattle.sources.proofs.BeginLaws.{passing_few}
use Rattle.quiet.proofs.OpeningLaws.{seeking_start, seeking_more, opening_none, opening_late, opening_live}
use Rattle.quiet.proofs.openings.next_opening.Goals as goal

pub overflow_cast-count : goal.overflow_cast-count
overflow_cast-count c =
    omega (arith, passing_few c.requires.0.framed (omega (arith, c.requires.0.in_force, c.reg-schedule.ensures)) c.entries_of-entries.ensures)

pub loop-i-init : goal.loop-i-init
loop-i-init c =
    seeking_start _ _ c.requires.0 _ _ _ _ c.reg-schedule.ensures c.entries_of-entries.ensures c.entries_passed-i.ensures

pub returns-then-until-entry : goal.returns-then-until-entry
returns-then-until-entry c =
    opening_late _ _ c.requires.0 _ _ _ _ c.loop-i.invariant c.reg-cycle.ensures c.requires.2 _ c.at-entry.ensures
    c.loop-i-test.true _ c.requires.3 c.if-until-entry.true

pub returns-then-is_live : goal.returns-then-is_live
returns-then-is_live c =
    opening_live _ _ c.requires.0 _ _ _ _ c.loop-i.invariant c.reg-cycle.ensures c.requires.2 _ c.at-entry.ensures
    c.loop-i-test.true c.requires.1 _ c.if-until-entry.false _ c.is_live.ensures c.if-is_live.true

pub loop-i-preserved : goal.loop-i-preserved
loop-i-preserved c =
    seeking_more _ _ c.requires.0 _ _ _ _ c.loop-i.invariant _ c.at-entry.ensures c.loop-i-test.true _ c.is_live.ensures
    c.if-is_live.false

pub returns : goal.returns
returns c =
    opening_none _ _ c.requires.0 _ _ _ _ c.loop-i.invariant c.reg-cycle.ensures _ c.requires.3 c.loop-i-test.false

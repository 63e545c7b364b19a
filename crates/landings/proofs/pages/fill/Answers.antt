use Rattle.std.proofs.Common.{sym, arith}
use Rattle.refusal.proofs.AnswerLaws.{is_some}
use Rattle.session.specs.Calls.{lend}
use Rattle.session.proofs.ReadingLaws.{memory_state}
use Rattle.landings.proofs.PageLaws.{Filling, fill_start, fill_more, fill_stop, fill_refused, fill_done, cycle_after}
use Rattle.landings.proofs.RestLaws.{fill_passes, fill_rest, fill_same, landed_beside}
use Rattle.landings.proofs.pages.fill.Goals.{Else-crossed-ne0}
use Rattle.landings.proofs.pages.fill.Goals as goal

pub live_now-live-requires : goal.live_now-live-requires
live_now-live-requires c = memory_state _ _ c.requires.0

pub loop-time-init : goal.loop-time-init
loop-time-init c = record { filled = fill_start _ _ _ _ _ _ c.requires.2 c.requires.0; covered = c.live_now-live.ensures }

pub returns-then-buffer-at : goal.returns-then-buffer-at
returns-then-buffer-at c = fill_stop _ _ _ _ _ _ _ _ _ _ c.loop-time.invariant.filled c.if-buffer-at.true c.requires.3 (omega arith)

pub cross-crossed-requires : goal.cross-crossed-requires
cross-crossed-requires c = fill_passes _ _ _ _ _ _ _ _ _ _ c.loop-time.invariant.filled

pub loop-time-preserved-then-crossed-ne0 : goal.loop-time-preserved-then-crossed-ne0
loop-time-preserved-then-crossed-ne0 c =
    let crossed = c.cross-crossed.ensures in
    record {
      filled = fill_rest _ _ _ _ _ _ _ _ _ _ c.loop-time.invariant.filled c.requires.4 crossed.rested;
      covered = crossed.covered _ c.loop-time.invariant.covered;
    }

-- no cycle was crossed
still : (c : Else-crossed-ne0)
    → Filling c.args.nodes c.args.first c.args.last (lend c.args.s.now c.args.m.now) c.args.buffer.now c.cross-crossed.new.s c.loop-time.m c.loop-time.buffer
    c.loop-time.at c.loop-time.time
still c = fill_same _ _ _ _ _ _ _ _ _ _ c.loop-time.invariant.filled c.requires.4 c.cross-crossed.ensures.rested (omega (arith, c.if-crossed-ne0.false))

pub cycle_live-requires : goal.cycle_live-requires
cycle_live-requires c = ((still (goal.at.cycle_live-requires c).Else-crossed-ne0).ready, c.cross-crossed.ensures.covered _ c.loop-time.invariant.covered)

pub returns-in-Err : goal.returns-in-Err
returns-in-Err c =
    let cycled = c.in-Err.ensures in
    let filling = still (goal.at.returns-in-Err c).Else-crossed-ne0 in
    fill_refused _ _ _ _ _ _ _ _ _ _ filling (cycle_after _ _ cycled.state cycled.memory) cycled.number (is_some _) c.loop-time-test.true
    (omega (arith, filling.begun))

pub put_cycle-at-requires : goal.put_cycle-at-requires
put_cycle-at-requires c =
    let cycled = c.in-Ok.ensures in (
      c.requires.1,
      omega (arith, c.requires.1),
      landed_beside _ _ _ _ _ _ _ _ _ _ (still (goal.at.put_cycle-at-requires c).Else-crossed-ne0) c.requires.4 (cycle_after _ _ cycled.state cycled.memory)
          cycled.covered,
    )

pub loop-time-preserved : goal.loop-time-preserved
loop-time-preserved c =
    let cycled = c.in-Ok.ensures in
    record {
      filled =
          fill_more _ _ _ _ _ _ _ _ _ _ (still (goal.at.loop-time-preserved c).Else-crossed-ne0) (cycle_after _ _ cycled.state cycled.memory)
          c.loop-time-test.true c.requires.1 (omega arith) (sym cycled.number) c.put_cycle-at.ensures.place c.put_cycle-at.ensures.bytes;
      covered = cycled.covered;
    }

pub returns : goal.returns
returns c = fill_done _ _ _ _ _ _ _ _ _ _ c.loop-time.invariant.filled (omega arith)

-- `sheet::frame::Frame::schedule_place` meets its contract: at each turn `at` is the place of the schedule that is counted, which lies within the sheet by rule 3.
use native.Mathlib.Omega.{arith}
use Rattle.sheet.proofs.PassedLaws.{placed_at}
use Rattle.sheet.proofs.FrameLaws.{place_next, first_place}
use Rattle.sheet.proofs.frame.Frame.schedule_place.Goals as goal

pub loop-init : goal.loop-init
loop-init c =
    let e = first_place _ _ c.circuits_of.ensures in
    (e, placed_at _ c.args.self.framed _ _ e (omega arith))

pub loop-preserved : goal.loop-preserved
loop-preserved c =
    let l = c.loop in
    let e = place_next _ l.counter l.at l.invariant.0 _ c.get.ensures in
    (e, placed_at _ c.args.self.framed _ _ e (omega arith))

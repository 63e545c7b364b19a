-- `accept::accepts` meets its contract: a sheet that keeps each part of the rules has the verdict 0.
use Rattle.accept.proofs.ScheduleLaws.{all_kept}
use Rattle.accept.proofs.accepts.Goals as goal

pub returns-then-keeps_circuits : goal.returns-then-keeps_circuits
returns-then-keeps_circuits c =
    let framed = c.keeps_frame.ensures c.if-not-keeps_frame.false in
    λ y. all_kept _ framed (c.keeps_circuits.ensures c.if-keeps_circuits.true) (c.keeps_schedules.ensures y)

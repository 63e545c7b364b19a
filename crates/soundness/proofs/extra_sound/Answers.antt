-- `soundness::extra_sound` meets its contract: of the outputs, those of the vertical links have an extra register.
use mathlib.Core.Path.{ap, ◌∙◌}
use mathlib.Core.Bool.{not}
use Rattle.soundness.proofs.SoundnessLaws.{extra_beside, extra_there}
use Rattle.soundness.proofs.extra_sound.Goals as goal

pub returns-then-not-is_vertical : goal.returns-then-not-is_vertical
returns-then-not-is_vertical c =
    let a = c.args in
    ap not c.if-not-is_vertical.true ∙ extra_beside a.s.now a.k c.is_vertical.ensures c.if-not-is_vertical.true

pub returns-else-not-is_vertical : goal.returns-else-not-is_vertical
returns-else-not-is_vertical c =
    let a = c.args in
    extra_there a.s.now a.k c.is_vertical.ensures c.requires c.if-not-is_vertical.false c.wire_sound.ensures

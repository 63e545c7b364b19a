-- `soundness::router_sound` meets its contract: at an idle place the latch decides.
use Rattle.words.specs.Tests.{◌≤?◌}
use Rattle.soundness.proofs.SoundnessLaws.{router_idle}
use Rattle.soundness.proofs.router_sound.Goals as goal

pub returns-then-is_idle : goal.returns-then-is_idle
unfolding ◌≤?◌
returns-then-is_idle c = router_idle _ _ _ c.is_idle.ensures c.if-is_idle.true c.reg.ensures

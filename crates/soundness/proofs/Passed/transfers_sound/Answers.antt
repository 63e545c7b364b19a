-- `Passed::transfers_sound` meets its contract: the range ends at the number of circuits, and each transfer is tested.
use Rattle.std.proofs.Common.{rules, refl, ap, ◌∙◌}
use Rattle.sheet.specs.Sheet.{circuits}
use Rattle.words.proofs.RangeLaws.{all_range}
use Rattle.soundness.specs.Sound.{transfer_sound}
use Rattle.soundness.proofs.Passed.transfers_sound.Goals as goal

pub returns : goal.returns
returns c = let s = c.args.self.now in all_range (transfer_sound s.state.now) refl (c.circuits_of.ensures ∙ ap circuits s.own) c.all.ensures.ran (λ x b q k. search rules)

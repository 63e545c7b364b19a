-- `Passed::extras_sound` meets its contract: without long links no register is there; else each place is tested.
use Rattle.std.proofs.Common.{ℕ, ◌*◌, rules, refl, ap, sym, ◌∙◌, not}
use Rattle.sheet.specs.Sheet.{nodes, is_long}
use Rattle.words.proofs.RangeLaws.{all_range}
use Rattle.soundness.specs.Sound.{extra_sound}
use Rattle.soundness.proofs.SoundnessLaws.{extras_short}
use Rattle.soundness.proofs.Passed.extras_sound.Goals as goal

pub returns-then-not-is_long : goal.returns-then-not-is_long
returns-then-not-is_long c =
    let s = c.args.self.now in
    ap not c.if-not-is_long.true ∙ extras_short s.state.now _ (sym (ap is_long s.own) ∙ sym c.is_long.ensures ∙ c.if-not-is_long.true)

pub returns-else-not-is_long : goal.returns-else-not-is_long
returns-else-not-is_long c = let s = c.args.self.now in all_range (extra_sound s.state.now) refl (ap (λ (n : ℕ). n * 5) (c.nodes.ensures.0 ∙ ap nodes s.own)) c.all.ensures.ran (λ x b q k. search rules)

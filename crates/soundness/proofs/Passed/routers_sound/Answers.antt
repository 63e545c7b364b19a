-- `Passed::routers_sound` meets its contract: five places a node, and each is tested.
use Rattle.std.proofs.Common.{ℕ, ◌*◌, rules, refl, ap, ◌∙◌}
use Rattle.sheet.specs.Sheet.{nodes}
use Rattle.words.proofs.RangeLaws.{all_range}
use Rattle.soundness.specs.Sound.{router_sound}
use Rattle.soundness.proofs.Passed.routers_sound.Goals as goal

pub returns : goal.returns
returns c = let s = c.args.self.now in all_range (router_sound s.state.now) refl (ap (λ (n : ℕ). n * 5) (c.nodes.ensures.0 ∙ ap nodes s.own)) c.all.ensures.ran (λ x b q k. search rules)

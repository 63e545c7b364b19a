-- `Passed::nodes_sound` meets its contract: the range ends at the number of nodes, and each is tested.
use Rattle.std.proofs.Common.{rules, refl, ap, ◌∙◌}
use Rattle.sheet.specs.Sheet.{nodes}
use Rattle.words.proofs.RangeLaws.{all_range}
use Rattle.soundness.specs.Sound.{node_sound}
use Rattle.soundness.proofs.Passed.nodes_sound.Goals as goal

pub returns : goal.returns
returns c = let s = c.args.self.now in all_range (node_sound s.state.now) refl (c.nodes.ensures.0 ∙ ap nodes s.own) c.all.ensures.ran (λ x b q k. search rules)

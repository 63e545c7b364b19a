-- The out registers, place by place.
-- Assumes nothing.
use Prim.Native.Nat.{ℕ, ◌+◌, ◌<◌, ◌≤◌}
use mathlib.Core.List.{List}
use mathlib.Core.Path.{◌≡◌, ◌∙◌}
use native.Mathlib.Omega.{arith}
use lib.ListN.{length}
use Rattle.words.specs.Words.{word}
use Rattle.network.specs.Registers.{put, row_words, moving_words, out_mark, out_word}
use Rattle.network.specs.Inner.Stages.{out_from}
use Rattle.network.proofs.ChoiceLaws.{out_mark_is, out_word_is}
use Rattle.network.proofs.FillLaws.{Staged, stage_more}
use Rattle.links.proofs.PairLaws.{pair_wrote}

-- one output more
pub outs_more : (marks cells s now : List ℕ) (k : ℕ) → k < row_words → moving_words ≤ length s → Staged out_mark out_word k (out_from marks cells) s now
    → (mark w : ℕ) → mark ≡ word marks k → w ≡ word cells k
    → (s₁ s₂ : List ℕ) → s₁ ≡ put now out_mark k mark → s₂ ≡ put s₁ out_word k w → Staged out_mark out_word (k + 1) (out_from marks cells) s s₂
outs_more marks cells s now k kl long g mark w a b s₁ s₂ p q =
    let long₀ : moving_words ≤ length now = omega (arith, g.same_length) in
    stage_more out_mark out_word k (out_from marks cells) s now s₂ (omega arith) kl g
    (pair_wrote out_mark k mark w (λ row. out_from marks cells row k) now s₁ s₂ (omega arith) kl long₀ (a ∙ out_mark_is marks cells k)
    (b ∙ out_word_is marks cells k) p q)

-- What is on the source wires, put into the link registers of a mask's nodes: the loop, and the stage that it is in the end.
-- Assumes nothing.
use Prim.Native.Nat.{ℕ, ◌+◌, ◌*◌, ◌/◌, ◌%◌, ◌<◌, ◌≤◌}
use mathlib.Core.Bool.{Bool}
use mathlib.Core.List.{List}
use mathlib.Core.Path.{◌≡◌, refl, subst, ◌∙◌, ap, sym}
use native.Mathlib.Omega.{arith}
use native.Mathlib.Decide.{ℕ_discrete}
use lib.ListN.{length}
use Rattle.words.specs.Tests.{◌=?◌}
use Rattle.words.specs.Words.{word, pick}
use Rattle.words.proofs.TestLaws.{yes=, no=}
use Rattle.occupancy.specs.Inner.Occupancy.{bit_at}
use Rattle.occupancy.specs.declared.TakenPlaces.{TakenPlaces}
use Rattle.occupancy.proofs.WalkLaws.{Gave, Ended}
use Rattle.network.specs.Registers.{reg, put, moving_words, link_mark, link_word, at}
use Rattle.network.specs.View.{source_input}
use Rattle.network.specs.Inner.Live.{Stays}
use Rattle.network.specs.Inner.Stages.{stage}
use Rattle.network.proofs.FillLaws.{Staged, stage_more, stage_jump}
use Rattle.links.specs.Inner.Linking.{linked, sourced, SourcesBeside}
use Rattle.links.proofs.PairLaws.{pair_wrote}
use Rattle.links.proofs.WalkLaws.{StaysBeside, Walked, walk_inside, walk_at, walk_more, walk_done}

module _ (marks cells s : List ℕ) where
  -- a source input's register, mark and word
  pub sourced_here : (node row : ℕ) → pick (row =? link_mark) (word marks node) (word cells node) ≡ sourced marks cells s row (at node source_input)
  unfolding sourced
  sourced_here node row =
      let input : at node source_input % 5 ≡ source_input = omega arith in
      let own : node ≡ at node source_input / 5 = omega arith in
      ap (λ (i : ℕ). pick (row =? link_mark) (word marks i) (word cells i)) own
      ∙ sym (ap (λ (t : Bool). pick t (pick (row =? link_mark) (word marks (at node source_input / 5)) (word cells (at node source_input / 5))) (reg s row (at node source_input)))
      (yes= input))

  -- the others stay
  sourced_side : (k : ℕ) → (k % 5 ≡ source_input → ⊥) → Stays link_mark link_word (sourced marks cells s) s k
  unfolding sourced
  sourced_side k ne row a b =
      ap (λ (t : Bool). pick t (pick (row =? link_mark) (word marks (k / 5)) (word cells (k / 5))) (reg s row k)) (no= ne)

-- so do all inputs of the nodes that the mask has not
pub stays_beside : (marks cells s : List ℕ) (count sources : ℕ) → SourcesBeside count sources marks cells s → (k : ℕ) → k < count * 5
    → bit_at sources (k / 5) ≡ 0 → Stays link_mark link_word (sourced marks cells s) s k
stays_beside marks cells s count sources g k l free = go (ℕ_discrete (k % 5) source_input)
  where
    go : Dec (k % 5 ≡ source_input) → Stays link_mark link_word (sourced marks cells s) s k
    go (yes e) =
        let place : at (k / 5) source_input ≡ k = omega arith in
        subst (Stays link_mark link_word (sourced marks cells s) s) place (g.stays (k / 5) (omega arith) free)
    go (no ne) = sourced_side marks cells s k ne

-- the loop: one node of the mask more
module _ (marks cells s : List ℕ) (count sources : ℕ) (few : count ≤ 16) (long : moving_words ≤ length s)
    (g : SourcesBeside count sources marks cells s) (walk : TakenPlaces) (now : List ℕ)
    (p : Walked link_mark link_word count sources (sourced marks cells s) s walk now) (after : TakenPlaces) where
  beside : StaysBeside link_mark link_word (sourced marks cells s) s count sources
  beside = stays_beside marks cells s count sources g

  module _ (node : ℕ) (t : Gave walk node after) where
    pub sources_inside : node < 16
    sources_inside =
        omega (arith, walk_inside link_mark link_word count sources (sourced marks cells s) s (omega arith) few beside walk now p after node t)

    pub sources_more : (mark w : ℕ) (next : List ℕ) → mark ≡ word marks node → w ≡ word cells node → next ≡ linked now (node * 5 + 4) mark w
        → Walked link_mark link_word count sources (sourced marks cells s) s after next
    unfolding linked ◌=?◌
    sources_more mark w next a b e =
        let l = sources_inside in
        let done = walk_at link_mark link_word count sources (sourced marks cells s) s (omega arith) few beside walk now p after node t in
        let sides : Staged link_mark link_word (node * 5 + 4) (sourced marks cells s) s now =
        stage_jump link_mark link_word (node * 5) (node * 5 + 4) (sourced marks cells s) s now (omega arith) (omega arith) (omega arith) done
        (λ k c d. sourced_side marks cells s k (λ q. omega (arith, q))) in
        let all : Staged link_mark link_word (node * 5 + 4 + 1) (sourced marks cells s) s next =
        stage_more link_mark link_word (node * 5 + 4) (sourced marks cells s) s now next (omega arith) (omega arith) sides
        (pair_wrote link_mark (node * 5 + 4) mark w (λ row. sourced marks cells s row (node * 5 + 4)) now (put now link_mark (node * 5 + 4) mark) next
        (omega arith) (omega arith) (omega (arith, done.same_length)) (a ∙ sourced_here marks cells s node link_mark)
        (b ∙ sourced_here marks cells s node link_word) refl e) in
        let five : node * 5 + 4 + 1 ≡ (node + 1) * 5 = omega arith in
        walk_more link_mark link_word count sources (sourced marks cells s) s (omega arith) few beside walk now p after node t next
        (subst (λ (n : ℕ). Staged link_mark link_word n (sourced marks cells s) s next) five all)

  pub sources_done : Ended walk after → now ≡ stage link_mark link_word (count * 5) (sourced marks cells s) s
  sources_done = walk_done link_mark link_word count sources (sourced marks cells s) s (omega arith) few beside walk now p after long

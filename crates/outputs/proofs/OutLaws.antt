-- The out registers: the five of a node, place by place and row by row, and those of all nodes of a mask, one node after the other.
-- Assumes nothing.
use Prim.Native.Nat.{ℕ, ◌+◌, ◌*◌, ◌<◌, ◌≤◌}
use mathlib.Core.List.{List}
use mathlib.Core.Path.{◌≡◌, refl, sym, subst, ◌∙◌, ap}
use native.Mathlib.Omega.{arith}
use native.Mathlib.Decide.{ℕ_discrete, dec_lt}
use lib.ListN.{length, drop, set}
use Rattle.words.specs.Words.{word}
use Rattle.occupancy.specs.declared.TakenPlaces.{TakenPlaces}
use Rattle.occupancy.proofs.WalkLaws.{Gave}
use Rattle.network.specs.Registers.{reg, put, row_count, row_words, moving_words, out_mark, out_word}
use Rattle.network.specs.Inner.Stages.{out_from}
use Rattle.network.proofs.PutLaws.{put_same, put_other, put_length, put_rest}
use Rattle.network.proofs.ChoiceLaws.{out_mark_is, out_word_is}
use Rattle.network.proofs.FillLaws.{Staged}
use Rattle.outputs.specs.Inner.Written.{NodeOuts}
use Rattle.links.proofs.WalkLaws.{StaysBeside, Walked, walk_inside, walk_at, walk_more}

-- the places of a row from place k to the one before end have what the table has there, and nothing else changed
pub record Copied (row k end : ℕ) (table s now : List ℕ) : Type 0 where
  pub same_length : length now ≡ length s
  pub same_rest : drop moving_words now ≡ drop moving_words s
  pub copied : (j : ℕ) → k ≤ j → j < end → reg now row j ≡ word table j
  pub beside : (other j : ℕ) → other < row_count → j < row_words → (other ≡ row → k ≤ j → j < end → ⊥) → reg now other j ≡ reg s other j

pub copied_none : (row k : ℕ) (table s : List ℕ) → Copied row k k table s s
copied_none row k table s = record {
  same_length = refl;
  same_rest = refl;
  copied = λ j a b. absurd (omega arith);
  beside = λ other j ol jl no. refl;
}

module _ (row k : ℕ) (table s : List ℕ) (rl : row < row_count) (long : moving_words ≤ length s) where
  -- one place more
  copied_put : (end : ℕ) (now : List ℕ) → k ≤ end → end < row_words → Copied row k end table s now
      → Copied row k (end + 1) table s (put now row end (word table end))
  copied_put end now kl el g = record {
    same_length = put_length now row end w ∙ g.same_length;
    same_rest = put_rest now row end w (omega arith) ∙ g.same_rest;
    copied = λ j a b. go j a b (ℕ_discrete j end);
    beside = λ other j ol jl no.
        put_other now row end w other j (λ e. no (omega arith) (omega arith) (omega arith))
        ∙ g.beside other j ol jl (λ e a b. no e a (omega arith));
  }
    where
      w : ℕ
      w = word table end

      go : (j : ℕ) → k ≤ j → j < end + 1 → Dec (j ≡ end) → reg (put now row end w) row j ≡ word table j
      go j a b (yes e) =
          ap (reg (put now row end w) row) e ∙ put_same now row end w (omega (arith, g.same_length)) ∙ sym (ap (word table) e)
      go j a b (no ne) = put_other now row end w row j (λ e. ne (omega arith)) ∙ g.copied j a (omega (arith, ne))

  -- with the place as code has it
  pub copied_more : (end : ℕ) (now : List ℕ) → k ≤ end → end < row_words → Copied row k end table s now
      → Copied row k (end + 1) table s (set now (row * row_words + end) (word table end))
  copied_more end now kl el g = copied_put end now kl el g

-- both rows, as the loops over five places leave them
pub outs_set : (k end : ℕ) (marks cells s between now : List ℕ) (end' : ℕ) → end ≡ k + 5 → end' ≡ k + 5 → k + 4 < row_words → Copied out_mark k end marks s between
    → Copied out_word k end' cells between now → NodeOuts k marks cells s now
outs_set k end marks cells s between now end' e e' kl g h =
    let first = subst (λ (i : ℕ). Copied out_mark k i marks s between) e g in
    let second = subst (λ (i : ℕ). Copied out_word k i cells between now) e' h in
    record {
      same_length = second.same_length ∙ first.same_length;
      same_rest = second.same_rest ∙ first.same_rest;
      marked = λ j a b. second.beside out_mark j (omega arith) (omega arith) (λ e c d. omega arith) ∙ first.copied j a b;
      worded = λ j a b. second.copied j a b;
      elsewhere = λ row j rl jl no.
          second.beside row j rl jl (λ e a b. no (omega arith) (omega arith) a b)
          ∙ first.beside row j rl jl (λ e a b. no (omega arith) (omega arith) a b);
    }

-- the five outputs of one node more
outs_node : (marks cells s now next : List ℕ) (node : ℕ) → node < 16 → Staged out_mark out_word (node * 5) (out_from marks cells) s now
    → NodeOuts (node * 5) marks cells now next → Staged out_mark out_word ((node + 1) * 5) (out_from marks cells) s next
outs_node marks cells s now next node l g x = record {
  same_length = x.same_length ∙ g.same_length;
  same_rest = x.same_rest ∙ g.same_rest;
  done = λ row k a b kl. go row k a b kl (dec_lt k (node * 5)) (ℕ_discrete row out_mark);
  kept = λ row k rl kl no.
      x.elsewhere row k rl kl (λ a b c d. no a b (omega arith)) ∙ g.kept row k rl kl (λ a b c. no a b (omega arith));
}
  where
    go : (row k : ℕ) → out_mark ≤ row → row ≤ out_word → k < (node + 1) * 5 → Dec (k < node * 5) → Dec (row ≡ out_mark)
        → reg next row k ≡ out_from marks cells row k
    go row k a b kl (yes h) d =
        x.elsewhere row k (omega arith) (omega arith) (λ p q r t. omega arith) ∙ g.done row k a b h
    go row k a b kl (no h) (yes e) =
        ap (λ (r : ℕ). reg next r k) e ∙ x.marked k (omega (arith, h)) (omega arith) ∙ out_mark_is marks cells k
        ∙ sym (ap (λ (r : ℕ). out_from marks cells r k) e)
    go row k a b kl (no h) (no ne) =
        let e : row ≡ out_word = omega (arith, ne) in
        ap (λ (r : ℕ). reg next r k) e ∙ x.worded k (omega (arith, h)) (omega arith) ∙ out_word_is marks cells k
        ∙ sym (ap (λ (r : ℕ). out_from marks cells r k) e)

-- one turn
module _ (marks cells s : List ℕ) (nodes mask : ℕ) (few : nodes ≤ 16) (stays : StaysBeside out_mark out_word (out_from marks cells) s nodes mask)
    (walk : TakenPlaces) (now : List ℕ) (g : Walked out_mark out_word nodes mask (out_from marks cells) s walk now) (after : TakenPlaces) where
  module _ (node : ℕ) (t : Gave walk node after) where
    pub outs_inside : node < 16
    outs_inside = omega (arith, walk_inside out_mark out_word nodes mask (out_from marks cells) s (omega arith) few stays walk now g after node t)

    pub outs_turn : (next : List ℕ) → NodeOuts (node * 5) marks cells now next
        → Walked out_mark out_word nodes mask (out_from marks cells) s after next
    outs_turn next x =
        walk_more out_mark out_word nodes mask (out_from marks cells) s (omega arith) few stays walk now g after node t next
        (outs_node marks cells s now next node outs_inside
        (walk_at out_mark out_word nodes mask (out_from marks cells) s (omega arith) few stays walk now g after node t) x)

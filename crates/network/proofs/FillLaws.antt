-- Rows filled place by place in a loop: what is done so far, one more place, and the stage that this is in the end. And what stands in
-- each register after a stage.
-- Assumes nothing.
use Prim.Native.Nat.{ℕ, ◌+◌, ◌*◌, ◌/◌, ◌%◌, ◌≤◌, ◌<◌}
use mathlib.Core.Bool.{Bool, true, false, false≢true}
use mathlib.Core.Path.{◌≡◌, refl, sym, ◌∙◌, ap, ap₂, subst}
use mathlib.Core.List.{List, ◌++◌}
use native.Mathlib.Omega.{arith}
use native.Mathlib.Decide.{ℕ_discrete, dec_le, dec_lt}
use lib.ListN.{length, take, drop, length-append, length-drop, take-append-drop, get_or-append}
use lib.Seq.{drop_at, length-take-le, get_or-take}
use Rattle.words.specs.Tests.{◌and◌, ◌≤?◌, ◌<?◌}
use Rattle.words.specs.Words.{word, pick, tab}
use Rattle.words.proofs.TestLaws.{and_both, and_left, and_right, is≤, is<, yes≤, yes<}
use Rattle.words.proofs.WordLaws.{length_tab, tab_at, tab_is}
use Rattle.network.specs.Registers.{reg, put, sheet_in, row_count, row_words, moving_words}
use Rattle.network.specs.Inner.Stages.{restate, stage}
use Rattle.network.specs.Inner.Live.{Stays}
use Rattle.network.proofs.PutLaws.{put_same, put_other, put_length, put_rest}

-- one place k of the rows from low to high is written, nothing else
pub record Wrote (low high k : ℕ) (new : ℕ → ℕ) (s after : List ℕ) : Type 0 where
  pub same_length : length after ≡ length s
  pub same_rest : drop moving_words after ≡ drop moving_words s
  pub written : (row : ℕ) → low ≤ row → row ≤ high → reg after row k ≡ new row
  pub elsewhere : (row j : ℕ) → row < row_count → j < row_words → (low ≤ row → row ≤ high → j ≡ k → ⊥) → reg after row j ≡ reg s row j

-- one register set
pub wrote_one : (row k w : ℕ) (new : ℕ → ℕ) (s : List ℕ) → row < row_count → k < row_words → moving_words ≤ length s → w ≡ new row
    → Wrote row row k new s (put s row k w)
wrote_one row k w new s rl kl long e = record {
  same_length = put_length s row k w;
  same_rest = put_rest s row k w (omega arith);
  written = λ other a b.
      let same : other ≡ row = omega arith in
      ap (λ r. reg (put s row k w) r k) same ∙ put_same s row k w (omega arith) ∙ e ∙ ap new (sym same);
  elsewhere = λ other j ol jl no. put_other s row k w other j (λ h. no (omega arith) (omega arith) (omega arith));
}

-- a place of some rows, then the same place of the rows behind them
pub wrote_then : (low middle high k : ℕ) (new : ℕ → ℕ) (s between after : List ℕ) → low ≤ middle → middle < high → high < row_count → k < row_words
    → Wrote low middle k new s between → Wrote (middle + 1) high k new between after → Wrote low high k new s after
wrote_then low middle high k new s between after a b hl kl f g = record {
  same_length = g.same_length ∙ f.same_length;
  same_rest = g.same_rest ∙ f.same_rest;
  written = λ row c d. go row c d (dec_le row middle);
  elsewhere = λ row j rl jl no.
      g.elsewhere row j rl jl (λ c d e. no (omega arith) d e) ∙ f.elsewhere row j rl jl (λ c d e. no c (omega arith) e);
}
  where
    go : (row : ℕ) → low ≤ row → row ≤ high → Dec (row ≤ middle) → reg after row k ≡ new row
    go row c d (yes e) = g.elsewhere row k (omega arith) kl (λ x y z. omega arith) ∙ f.written row c e
    go row c d (no e) = g.written row (omega (arith, e)) d

-- nothing set where nothing changes
pub wrote_nothing : (low high k : ℕ) (new : ℕ → ℕ) (s : List ℕ) → ((row : ℕ) → low ≤ row → row ≤ high → new row ≡ reg s row k)
    → Wrote low high k new s s
wrote_nothing low high k new s e = record {
  same_length = refl;
  same_rest = refl;
  written = λ row a b. sym (e row a b);
  elsewhere = λ row j rl jl no. refl;
}

-- one row more at a place, behind those that are written
pub wrote_more : (low middle k w : ℕ) (new : ℕ → ℕ) (s between : List ℕ) → low ≤ middle → middle + 1 < row_count → k < row_words → moving_words ≤ length s
    → Wrote low middle k new s between → w ≡ new (middle + 1) → Wrote low (middle + 1) k new s (put between (middle + 1) k w)
wrote_more low middle k w new s between a b kl long g e =
    wrote_then low middle (middle + 1) k new s between _ a (omega arith) (omega arith) kl g
    (wrote_one (middle + 1) k w new between (omega arith) kl (omega (arith, g.same_length)) e)

-- one row more that is not set, since it does not change
pub wrote_stays : (low middle k : ℕ) (new : ℕ → ℕ) (s after : List ℕ) → low ≤ middle → middle + 1 < row_count → k < row_words
    → Wrote low middle k new s after → new (middle + 1) ≡ reg s (middle + 1) k → Wrote low (middle + 1) k new s after
wrote_stays low middle k new s after a b kl f e =
    wrote_then low middle (middle + 1) k new s after after a (omega arith) (omega arith) kl f
    (wrote_nothing (middle + 1) (middle + 1) k new after (λ row c d.
    subst (λ (r : ℕ). new r ≡ reg after r k) (let same : middle + 1 ≡ row = omega arith in same)
    (e ∙ sym (f.elsewhere (middle + 1) k b kl (λ x y z. omega arith)))))

-- the rows from low to high are as f says at the places below n, all else is as it was
pub record Staged (low high n : ℕ) (f : ℕ → ℕ → ℕ) (s now : List ℕ) : Type 0 where
  pub same_length : length now ≡ length s
  pub same_rest : drop moving_words now ≡ drop moving_words s
  pub done : (row k : ℕ) → low ≤ row → row ≤ high → k < n → reg now row k ≡ f row k
  pub kept : (row k : ℕ) → row < row_count → k < row_words → (low ≤ row → row ≤ high → k < n → ⊥) → reg now row k ≡ reg s row k

pub stage_start : (low high : ℕ) (f : ℕ → ℕ → ℕ) (s : List ℕ) → Staged low high 0 f s s
stage_start low high f s = record {
  same_length = refl;
  same_rest = refl;
  done = λ row k a b l. absurd (omega arith);
  kept = λ row k rl kl no. refl;
}

pub stage_more : (low high n : ℕ) (f : ℕ → ℕ → ℕ) (s now next : List ℕ) → high < row_count → n < row_words → Staged low high n f s now
    → Wrote low high n (λ row. f row n) now next → Staged low high (n + 1) f s next
stage_more low high n f s now next hl nl g w = record {
  same_length = w.same_length ∙ g.same_length;
  same_rest = w.same_rest ∙ g.same_rest;
  done = λ row k a b l. go row k a b l (ℕ_discrete k n);
  kept = λ row k rl kl no.
      w.elsewhere row k rl kl (λ a b e. no a b (omega arith)) ∙ g.kept row k rl kl (λ a b l. no a b (omega arith));
}
  where
    go : (row k : ℕ) → low ≤ row → row ≤ high → k < n + 1 → Dec (k ≡ n) → reg next row k ≡ f row k
    go row k a b l (yes e) = ap (reg next row) e ∙ w.written row a b ∙ ap (f row) (sym e)
    go row k a b l (no ne) =
        w.elsewhere row k (omega arith) (omega arith) (λ x y e. ne e) ∙ g.done row k a b (omega (arith, ne))

-- places that have what they should have already are passed over
pub stage_jump : (low high n next : ℕ) (f : ℕ → ℕ → ℕ) (s now : List ℕ) → high < row_count → next ≤ row_words → n ≤ next → Staged low high n f s now
    → ((k : ℕ) → n ≤ k → k < next → Stays low high f s k) → Staged low high next f s now
stage_jump low high n next f s now hl nl a g stays = record {
  same_length = g.same_length;
  same_rest = g.same_rest;
  done = λ row k b c l. go row k b c l (dec_lt k n);
  kept = λ row k rl kl no. g.kept row k rl kl (λ b c l. no b c (omega arith));
}
  where
    go : (row k : ℕ) → low ≤ row → row ≤ high → k < next → Dec (k < n) → reg now row k ≡ f row k
    go row k b c l (yes e) = g.done row k b c e
    go row k b c l (no ne) =
        g.kept row k (omega arith) (omega arith) (λ x y z. ne z) ∙ sym (stays k (omega (arith, ne)) l row b c)

-- a place that is still to come
pub still : (low high n : ℕ) (f : ℕ → ℕ → ℕ) (s now : List ℕ) → Staged low high n f s now
    → (row k : ℕ) → row < row_count → k < row_words → n ≤ k → reg now row k ≡ reg s row k
still low high n f s now g row k rl kl l = g.kept row k rl kl (λ a b h. omega arith)

-- a row that is not among those
pub beside : (low high n : ℕ) (f : ℕ → ℕ → ℕ) (s now : List ℕ) → Staged low high n f s now
    → (row k : ℕ) → row < row_count → k < row_words → (low ≤ row → row ≤ high → ⊥) → reg now row k ≡ reg s row k
beside low high n f s now g row k rl kl out = g.kept row k rl kl (λ a b l. out a b)

-- the sheet, of which nothing is written
pub staged_sheet : (low high n : ℕ) (f : ℕ → ℕ → ℕ) (s now : List ℕ) → Staged low high n f s now → sheet_in now ≡ sheet_in s
unfolding sheet_in
staged_sheet low high n f s now g = ap (λ rest. take (word rest 0) (drop 1 rest)) g.same_rest

-- words by their registers
module _ (f : ℕ → ℕ → ℕ) (s : List ℕ) where
  word_restate : (k : ℕ) → k < moving_words → word (restate f s) k ≡ f (k / row_words) (k % row_words)
  unfolding restate
  word_restate k l =
      get_or-append (tab moving_words (λ k. f (k / row_words) (k % row_words))) (drop moving_words s) 0 k (rw length_tab l)
      ∙ tab_at moving_words (λ k. f (k / row_words) (k % row_words)) k l

  pub reg_restate : (row k : ℕ) → row < row_count → k < row_words → reg (restate f s) row k ≡ f row k
  unfolding reg
  reg_restate row k rl kl =
      let a : (row * row_words + k) / row_words ≡ row = omega arith in
      let b : (row * row_words + k) % row_words ≡ k = omega arith in
      word_restate (row * row_words + k) (omega arith) ∙ ap₂ f a b

  pub rest_restate : drop moving_words (restate f s) ≡ drop moving_words s
  unfolding restate
  rest_restate = drop_at (tab moving_words (λ k. f (k / row_words) (k % row_words))) (drop moving_words s) moving_words (length_tab moving_words _)

  pub length_restate : moving_words ≤ length s → length (restate f s) ≡ length s
  unfolding restate
  length_restate long = simp (length-append, length_tab, length-drop) (omega arith)

-- words that have those registers, and the same behind them, are those words
pub restated : (f : ℕ → ℕ → ℕ) (s now : List ℕ) → moving_words ≤ length now → drop moving_words now ≡ drop moving_words s
    → ((row k : ℕ) → row < row_count → k < row_words → reg now row k ≡ f row k) → now ≡ restate f s
unfolding restate reg
restated f s now long rest e =
    sym (take-append-drop moving_words now)
    ∙ ap₂ (λ (a b : List ℕ). a ++ b)
    (tab_is (take moving_words now) moving_words (λ k. f (k / row_words) (k % row_words)) (length-take-le moving_words now long)
    (λ k l.
    let q : k / row_words * row_words + k % row_words ≡ k = omega arith in
    get_or-take moving_words now k 0 l ∙ sym (ap (word now) q) ∙ e (k / row_words) (k % row_words) (omega arith) (omega arith)))
    rest

-- a stage's registers
module _ (low high n : ℕ) (f : ℕ → ℕ → ℕ) (s : List ℕ) where
  pub reg_stage : (row k : ℕ) → row < row_count → k < row_words
      → reg (stage low high n f s) row k ≡ pick (low ≤? row and row ≤? high and k <? n) (f row k) (reg s row k)
  unfolding stage
  reg_stage row k rl kl = reg_restate _ s row k rl kl

  pub stage_length : moving_words ≤ length s → length (stage low high n f s) ≡ length s
  unfolding stage
  stage_length long = length_restate _ s long

  pub stage_rest : drop moving_words (stage low high n f s) ≡ drop moving_words s
  unfolding stage
  stage_rest = rest_restate _ s

  pub stage_sheet : sheet_in (stage low high n f s) ≡ sheet_in s
  unfolding sheet_in
  stage_sheet = ap (λ rest. take (word rest 0) (drop 1 rest)) stage_rest

  pub stage_here : (row k : ℕ) → row < row_count → k < row_words → low ≤ row → row ≤ high → k < n → reg (stage low high n f s) row k ≡ f row k
  stage_here row k rl kl a b l =
      reg_stage row k rl kl ∙ ap (λ (t : Bool). pick t (f row k) (reg s row k)) (and_both (yes≤ a) (and_both (yes≤ b) (yes< l)))

  pub stage_off : (row k : ℕ) → row < row_count → k < row_words → (low ≤ row → row ≤ high → k < n → ⊥) → reg (stage low high n f s) row k ≡ reg s row k
  stage_off row k rl kl out = reg_stage row k rl kl ∙ go (low ≤? row and row ≤? high and k <? n) refl
    where
      go : (b : Bool) → (low ≤? row and row ≤? high and k <? n) ≡ b → pick b (f row k) (reg s row k) ≡ reg s row k
      go true e =
          let inner = and_right (low ≤? row) _ e in
          absurd (out (is≤ low row (and_left _ _ e)) (is≤ row high (and_left _ _ inner)) (is< k n (and_right (row ≤? high) _ inner)))
      go false e = refl

-- what a loop has filled is the stage
pub staged_is : (low high n : ℕ) (f : ℕ → ℕ → ℕ) (s now : List ℕ) → moving_words ≤ length s → Staged low high n f s now
    → now ≡ stage low high n f s
unfolding stage
staged_is low high n f s now long g =
    restated _ s now (omega (arith, g.same_length)) g.same_rest (λ row k rl kl. go row k rl kl (low ≤? row and row ≤? high and k <? n) refl)
  where
    go : (row k : ℕ) → row < row_count → k < row_words → (b : Bool) → (low ≤? row and row ≤? high and k <? n) ≡ b
        → reg now row k ≡ pick b (f row k) (reg s row k)
    go row k rl kl true e =
        let inner = and_right (low ≤? row) _ e in
        g.done row k (is≤ low row (and_left _ _ e)) (is≤ row high (and_left _ _ inner)) (is< k n (and_right (row ≤? high) _ inner))
    go row k rl kl false e =
        g.kept row k rl kl (λ a b l. false≢true (sym e ∙ and_both (yes≤ a) (and_both (yes≤ b) (yes< l))))

-- words with the same registers and the same behind them are the same
pub same_words : (a b : List ℕ) → moving_words ≤ length a → moving_words ≤ length b → drop moving_words a ≡ drop moving_words b
    → ((row k : ℕ) → row < row_count → k < row_words → reg a row k ≡ reg b row k) → a ≡ b
same_words a b la lb rest e = restated (reg b) b a la rest e ∙ sym (restated (reg b) b b lb refl (λ row k rl kl. refl))

-- a stage's words, by the equation that its function ensures
module _ (low high n : ℕ) (f : ℕ → ℕ → ℕ) (s now : List ℕ) (e : now ≡ stage low high n f s) (row k : ℕ) (rl : row < row_count) (kl : k < row_words) where
  pub off : (low ≤ row → row ≤ high → k < n → ⊥) → reg now row k ≡ reg s row k
  off h = ap (λ (x : List ℕ). reg x row k) e ∙ stage_off low high n f s row k rl kl h

  pub here : low ≤ row → row ≤ high → k < n → reg now row k ≡ f row k
  here a b l = ap (λ (x : List ℕ). reg x row k) e ∙ stage_here low high n f s row k rl kl a b l

-- The extra registers of long vertical links, node by node: those of north and south take what is on their outputs, and the other three
-- places stay. On a grid without such links all stay.
-- Assumes nothing.
use Prim.Native.Nat.{ℕ, ◌+◌, ◌*◌, ◌%◌, ◌<◌, ◌≤◌}
use mathlib.Core.Bool.{Bool, true, false}
use mathlib.Core.List.{List, []}
use mathlib.Core.Path.{◌≡◌, refl, sym, subst, ◌∙◌, ap}
use native.Mathlib.Omega.{arith}
use native.Mathlib.Decide.{ℕ_discrete}
use lib.ListN.{length}
use Rattle.words.specs.Tests.{◌=?◌}
use Rattle.words.specs.Words.{pick}
use Rattle.torus.specs.Torus.{is_vertical}
use Rattle.torus.proofs.RouteLaws.{vertical_north, vertical_south, vertical_none}
use Rattle.sheet.specs.Sheet.{is_long}
use Rattle.network.specs.Cycle.{has_extra}
use Rattle.network.specs.Registers.{reg, put, sheet_in, moving_words, out_mark, out_word, extra_mark, extra_word, row_words}
use Rattle.network.specs.Inner.Machine.{next_extra_mark, next_extra_word, row_in, next_rows, next_in_row}
use Rattle.network.specs.Inner.Stages.{stage}
use Rattle.network.proofs.ExtraLaws.{extra_long, extra_short}
use Rattle.network.proofs.FillLaws.{Staged, stage_more, staged_is, wrote_nothing, still, beside}
use Rattle.links.specs.Inner.Linking.{extended}
use Rattle.links.proofs.PairLaws.{pair_wrote}

-- an extra register is set, its mark and then its word
pub extended_is : (s s₁ s₂ : List ℕ) (k mark w : ℕ) → mark ≡ reg s out_mark k → w ≡ reg s out_word k
    → s₁ ≡ put s extra_mark k mark → s₂ ≡ put s₁ extra_word k w → s₂ ≡ extended s k
unfolding extended
extended_is s s₁ s₂ k mark w a b p q =
    q ∙ ap (λ x. put x extra_word k w) p ∙ ap (λ x. put (put s extra_mark k x) extra_word k w) a
    ∙ ap (put (put s extra_mark k (reg s out_mark k)) extra_word k) b

-- the next words at place k, with an extra register there and without
module _ (s : List ℕ) (k : ℕ) where
  module _ (has : has_extra (sheet_in s) (k % 5) ≡ true) where
    next_mark : reg s out_mark k ≡ next_in_row s [] extra_mark k
    unfolding next_in_row row_in next_rows ◌=?◌ next_extra_mark
    next_mark = sym (ap (λ (b : Bool). pick b (reg s out_mark k) (reg s extra_mark k)) has)

    next_word : reg s out_word k ≡ next_in_row s [] extra_word k
    unfolding next_in_row row_in next_rows ◌=?◌ next_extra_word
    next_word = sym (ap (λ (b : Bool). pick b (reg s out_word k) (reg s extra_word k)) has)

  module _ (none : has_extra (sheet_in s) (k % 5) ≡ false) where
    mark_stays : next_in_row s [] extra_mark k ≡ reg s extra_mark k
    unfolding next_in_row row_in next_rows ◌=?◌ next_extra_mark
    mark_stays = ap (λ (b : Bool). pick b (reg s out_mark k) (reg s extra_mark k)) none

    word_stays : next_in_row s [] extra_word k ≡ reg s extra_word k
    unfolding next_in_row row_in next_rows ◌=?◌ next_extra_word
    word_stays = ap (λ (b : Bool). pick b (reg s out_word k) (reg s extra_word k)) none

    stays : (row : ℕ) → extra_mark ≤ row → row ≤ extra_word → next_in_row s [] row k ≡ reg s row k
    stays row a b = go (ℕ_discrete row extra_mark)
      where
        go : Dec (row ≡ extra_mark) → next_in_row s [] row k ≡ reg s row k
        go (yes e) = subst (λ (r : ℕ). next_in_row s [] r k ≡ reg s r k) (sym e) mark_stays
        go (no ne) =
            let e : extra_word ≡ row = omega (arith, ne) in
            subst (λ (r : ℕ). next_in_row s [] r k ≡ reg s r k) e word_stays

-- one place more
module _ (s now : List ℕ) (n : ℕ) (small : n < row_words) (long : moving_words ≤ length s)
    (g : Staged extra_mark extra_word n (next_in_row s []) s now) where
  set_more : (next : List ℕ) → has_extra (sheet_in s) (n % 5) ≡ true → next ≡ extended now n
      → Staged extra_mark extra_word (n + 1) (next_in_row s []) s next
  unfolding extended
  set_more next has e =
      let long₀ : moving_words ≤ length now = omega (arith, g.same_length) in
      let mark : reg now out_mark n ≡ reg s out_mark n =
      beside extra_mark extra_word n (next_in_row s []) s now g out_mark n (omega arith) small (λ a b. omega arith) in
      let cell : reg now out_word n ≡ reg s out_word n =
      beside extra_mark extra_word n (next_in_row s []) s now g out_word n (omega arith) small (λ a b. omega arith) in
      stage_more extra_mark extra_word n (next_in_row s []) s now next (omega arith) small g
      (pair_wrote extra_mark n (reg now out_mark n) (reg now out_word n) (λ row. next_in_row s [] row n) now
      (put now extra_mark n (reg now out_mark n)) next (omega arith) small long₀
      (mark ∙ next_mark s n has) (cell ∙ next_word s n has) refl e)

  pass_more : has_extra (sheet_in s) (n % 5) ≡ false → Staged extra_mark extra_word (n + 1) (next_in_row s []) s now
  pass_more none =
      stage_more extra_mark extra_word n (next_in_row s []) s now now (omega arith) small g
      (wrote_nothing extra_mark extra_word n (λ row. next_in_row s [] row n) now
      (λ row a b. stays s n none row a b ∙ sym (still extra_mark extra_word n (next_in_row s []) s now g row n (omega arith) small (omega arith))))

-- the loop over the nodes of a grid with long links
module _ (s : List ℕ) (nodes : ℕ) (few : nodes ≤ 16) (long : moving_words ≤ length s) where
  -- the five outputs of one node
  pub extending_more : is_long (sheet_in s) ≡ true → (node : ℕ) (now s₁ s₂ : List ℕ) → node < nodes
      → Staged extra_mark extra_word (node * 5) (next_in_row s []) s now → s₁ ≡ extended now (node * 5) → s₂ ≡ extended s₁ (node * 5 + 2)
      → Staged extra_mark extra_word ((node + 1) * 5) (next_in_row s []) s s₂
  extending_more kind node now s₁ s₂ l g a b = subst at_place five g₅
    where
      at_place : ℕ → Type 0
      at_place n = Staged extra_mark extra_word n (next_in_row s []) s s₂

      five : node * 5 + 1 + 1 + 1 + 1 + 1 ≡ (node + 1) * 5
      five = omega arith

      by_kind : (k output : ℕ) (v : Bool) → k % 5 ≡ output → is_vertical output ≡ v → has_extra (sheet_in s) (k % 5) ≡ v
      by_kind k output v e h = ap (has_extra (sheet_in s)) e ∙ extra_long (sheet_in s) output kind ∙ h

      level : (output : ℕ) → (output ≡ 0 → ⊥) → (output ≡ 2 → ⊥) → is_vertical output ≡ false
      level output = vertical_none output

      g₁ : Staged extra_mark extra_word (node * 5 + 1) (next_in_row s []) s s₁
      g₁ = set_more s now (node * 5) (omega arith) long g s₁
          (by_kind (node * 5) 0 true (omega arith) (vertical_north 0 refl)) a

      g₂ : Staged extra_mark extra_word (node * 5 + 1 + 1) (next_in_row s []) s s₁
      g₂ = pass_more s s₁ (node * 5 + 1) (omega arith) long g₁
          (by_kind (node * 5 + 1) 1 false (omega arith) (level 1 (λ q. omega arith) (λ q. omega arith)))

      g₃ : Staged extra_mark extra_word (node * 5 + 1 + 1 + 1) (next_in_row s []) s s₂
      g₃ = set_more s s₁ (node * 5 + 1 + 1) (omega arith) long g₂ s₂
          (by_kind (node * 5 + 1 + 1) 2 true (omega arith) (vertical_south 2 refl))
          (b ∙ ap (extended s₁) (let e : node * 5 + 2 ≡ node * 5 + 1 + 1 = omega arith in e))

      g₄ : Staged extra_mark extra_word (node * 5 + 1 + 1 + 1 + 1) (next_in_row s []) s s₂
      g₄ = pass_more s s₂ (node * 5 + 1 + 1 + 1) (omega arith) long g₃
          (by_kind (node * 5 + 1 + 1 + 1) 3 false (omega arith) (level 3 (λ q. omega arith) (λ q. omega arith)))

      g₅ : Staged extra_mark extra_word (node * 5 + 1 + 1 + 1 + 1 + 1) (next_in_row s []) s s₂
      g₅ = pass_more s s₂ (node * 5 + 1 + 1 + 1 + 1) (omega arith) long g₄
          (by_kind (node * 5 + 1 + 1 + 1 + 1) 4 false (omega arith) (level 4 (λ q. omega arith) (λ q. omega arith)))

  -- without long links every place stays
  pub none_extended : is_long (sheet_in s) ≡ false → s ≡ stage extra_mark extra_word (nodes * 5) (next_in_row s []) s
  none_extended kind =
      staged_is extra_mark extra_word (nodes * 5) (next_in_row s []) s s long
      (record {
        same_length = refl;
        same_rest = refl;
        done = λ row k a b l. sym (stays s k (extra_short (sheet_in s) (k % 5) kind) row a b);
        kept = λ row k rl kl no. refl;
      })

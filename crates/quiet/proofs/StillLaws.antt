-- Whether a state is still: words joined by or are 0 where all of them are, row by row and place by place.
-- Assumes nothing.
use Prim.Native.Nat.{ℕ, ◌+◌, ◌*◌}
use mathlib.Core.Bool.{Bool, true, false, false≢true}
use mathlib.Core.List.{List}
use mathlib.Core.Path.{◌≡◌, refl, sym, ◌∙◌, ap}
use native.Mathlib.Omega.{arith}
use native.Mathlib.Numerals.{add-one}
use native.Mathlib.Decide.{ℕ_discrete}
use lib.Bits.{bit_or, or_zero_l, or_add_and, and_le_r}
use Rattle.words.specs.Tests.{all, ◌and◌, ◌=?◌}
use Rattle.words.specs.Words.{word}
use Rattle.words.proofs.TestLaws.{and_no, and_on, and_left, yes=, no=}
use Rattle.words.proofs.AllLaws.{all_at, all_of}
use Rattle.sheet.specs.Sheet.{circuits, nodes}
use Rattle.network.specs.Registers.{reg, sheet_in, row_words, link_mark, link_word, head_mark, head_word, choice_row, out_mark, out_word, extra_mark, extra_word, to_go_row}
use Rattle.network.specs.Inner.Quiet.{empty_at, is_still}

-- two words joined are 0 where both are
or_test : (a b : ℕ) → (bit_or a b =? 0) ≡ (a =? 0 and b =? 0)
or_test a b = go (ℕ_discrete a 0)
  where
    go : Dec (a ≡ 0) → (bit_or a b =? 0) ≡ (a =? 0 and b =? 0)
    go (yes e) = ap (λ (n : ℕ). n =? 0) (ap (λ (n : ℕ). bit_or n b) e ∙ or_zero_l b) ∙ and_on (yes= e) refl
    go (no ne) =
        let sum = or_add_and a b in
        let less = and_le_r a b in
        no= (λ e. ne (omega arith)) ∙ and_no _ (no= ne)

-- a word more
or_next : (p : Bool) (a b : ℕ) → (a =? 0) ≡ p → (bit_or a b =? 0) ≡ (p and b =? 0)
or_next p a b e = or_test a b ∙ ap (λ (t : Bool). t and b =? 0) e

and_assoc : (a b c : Bool) → (a and b) and c ≡ a and (b and c)
unfolding ◌and◌
and_assoc true b c = refl
and_assoc false b c = refl

all_next : (p : ℕ → Bool) (k : ℕ) → all k p and p k ≡ all (k + 1) p
unfolding all
all_next p k = rw add-one refl

-- the loops: what is joined is 0 where the test holds of every place so far
pub joined_start : (p : ℕ → Bool) → (0 =? 0) ≡ all 0 p
unfolding all
joined_start p = yes= refl

pub joined_more : (p : ℕ → Bool) (joined here k : ℕ) → (joined =? 0) ≡ all k p → (here =? 0) ≡ p k → (bit_or joined here =? 0) ≡ all (k + 1) p
joined_more p joined here k e h = or_next _ joined here e ∙ ap (λ (t : Bool). all k p and t) h ∙ all_next p k

-- a word of a row
pub row_word : (s : List ℕ) (row k : ℕ) → (word s (row * row_words + k) =? 0) ≡ (reg s row k =? 0)
unfolding reg
row_word s row k = refl

-- the words of the routers' rows at a place
pub place_is : (s : List ℕ) (k : ℕ)
    → (bit_or
    (bit_or
    (bit_or
    (bit_or
    (bit_or
    (bit_or
    (bit_or (bit_or (word s (link_mark * row_words + k)) (word s (link_word * row_words + k))) (word s (head_mark * row_words + k)))
    (word s (head_word * row_words + k)))
    (word s (choice_row * row_words + k)))
    (word s (out_mark * row_words + k)))
    (word s (out_word * row_words + k)))
    (word s (extra_mark * row_words + k)))
    (word s (extra_word * row_words + k))
    =? 0) ≡ empty_at s k
unfolding reg empty_at
place_is s k =
    or_next _ _ _ (or_next _ _ _ (or_next _ _ _ (or_next _ _ _ (or_next _ _ _ (or_next _ _ _ (or_next _ _ _ (or_next _ _ _ refl)))))))
    ∙ and_assoc _ _ _ ∙ and_assoc _ _ _ ∙ and_assoc _ _ _ ∙ and_assoc _ _ _ ∙ and_assoc _ _ _ ∙ and_assoc _ _ _ ∙ and_assoc _ _ _

-- the tests in turn: the link registers' marks, all of the routers' rows, the words to go
module _ (s : List ℕ) {places : ℕ} (e : places ≡ nodes (sheet_in s) * 5) where
  empty_links : all (nodes (sheet_in s) * 5) (empty_at s) ≡ true → all places (λ k. reg s link_mark k =? 0) ≡ true
  unfolding empty_at
  empty_links h = all_of places _ (λ k l. and_left _ _ (all_at (empty_at s) (nodes (sheet_in s) * 5) h k (omega arith)))

  pub still_linked : (joined : ℕ) → (joined =? 0) ≡ all places (λ k. reg s link_mark k =? 0) → (joined ≡ 0 → ⊥) → false ≡ is_still s
  unfolding is_still
  still_linked joined tells ne = and_no _ (go (all (nodes (sheet_in s) * 5) (empty_at s)) refl)
    where
      go : (b : Bool) → all (nodes (sheet_in s) * 5) (empty_at s) ≡ b → b ≡ false
      go true h = absurd (false≢true (sym (no= ne) ∙ tells ∙ empty_links h))
      go false h = refl

  routed : (joined : ℕ) → (joined =? 0) ≡ all places (empty_at s) → all (nodes (sheet_in s) * 5) (empty_at s) ≡ (joined =? 0)
  routed joined tells = ap (λ (n : ℕ). all n (empty_at s)) (sym e) ∙ sym tells

  pub still_routed : (joined : ℕ) → (joined =? 0) ≡ all places (empty_at s) → (joined ≡ 0 → ⊥) → false ≡ is_still s
  unfolding is_still
  still_routed joined tells ne = and_no _ (routed joined tells ∙ no= ne)

  pub still_rest : (joined sent count : ℕ) → (joined =? 0) ≡ all places (empty_at s) → joined ≡ 0 → count ≡ circuits (sheet_in s)
      → (sent =? 0) ≡ all count (λ c. reg s to_go_row c =? 0) → (sent =? 0) ≡ is_still s
  unfolding is_still
  still_rest joined sent count tells none q last =
      and_on (routed joined tells ∙ yes= none) (last ∙ ap (λ (n : ℕ). all n (λ c. reg s to_go_row c =? 0)) q)

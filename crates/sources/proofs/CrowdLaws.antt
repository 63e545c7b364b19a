-- One more circuit on the source wires: the first mark and its word, and how many circuits want a node's wire.
-- Assumes nothing.
use Prim.Native.Nat.{ℕ, zero, suc, ◌+◌, ◌≤◌, ◌<◌}
use mathlib.Core.Bool.{Bool, true, false, false≢true}
use mathlib.Core.List.{List}
use mathlib.Core.Path.{◌≡◌, refl, sym, subst, ◌∙◌, ap}
use native.Mathlib.Omega.{arith}
use native.Mathlib.Numerals.{add-one}
use native.Mathlib.Decide.{ℕ_discrete}
use Rattle.words.specs.Tests.{any, ◌and◌, ◌or◌, ◌≤?◌, ◌=?◌}
use Rattle.words.specs.Words.{pick, count_of}
use Rattle.words.proofs.TestLaws.{and_both, and_left, and_right, or_skip, or_false, yes=, no=, is=, yes≤, no≤, is≤}
use Rattle.words.proofs.AllLaws.{any_at, any_same, any_none}
use Rattle.words.proofs.WordLaws.{count_of_more}
use Rattle.sheet.specs.Sheet.{nodes}
use Rattle.sheet.specs.Slots.{source_of}
use Rattle.network.specs.Registers.{sheet_in}
use Rattle.network.specs.Inner.Machine.{first_mark, first_word, own_mark, sent_mark}
use Rattle.network.proofs.FirstLaws.{first_none, word_empty}
use Rattle.sources.specs.Inner.Wires.{crowds_at}

-- one more mark
module _ (marks : ℕ → ℕ) (n : ℕ) where
  first_step : first_mark (n + 1) marks ≡ pick (first_mark n marks =? 0) (marks n) (first_mark n marks)
  unfolding first_mark
  first_step = rw add-one

  -- the first one, or one that stays
  pub first_new : first_mark n marks ≡ 0 → marks n ≡ first_mark (n + 1) marks
  first_new h = sym (first_step ∙ ap (λ (b : Bool). pick b (marks n) (first_mark n marks)) (yes= h))

  pub first_old : (first_mark n marks ≡ 0 → ⊥) → first_mark n marks ≡ first_mark (n + 1) marks
  first_old ne = sym (first_step ∙ ap (λ (b : Bool). pick b (marks n) (first_mark n marks)) (no= ne))

  -- an empty one changes nothing
  pub first_idle : marks n ≡ 0 → first_mark n marks ≡ first_mark (n + 1) marks
  first_idle e = go (ℕ_discrete (first_mark n marks) 0)
    where
      go : Dec (first_mark n marks ≡ 0) → first_mark n marks ≡ first_mark (n + 1) marks
      go (yes h) = h ∙ sym e ∙ first_new h
      go (no ne) = first_old ne

  module _ (words : ℕ → ℕ) where
    word_step : first_word (n + 1) marks words
        ≡ pick (first_mark n marks =? 0) (pick (marks n =? 0) 0 (words n)) (first_word n marks words)
    unfolding first_word
    word_step = rw add-one

    word_by : (b d : Bool) → (first_mark n marks =? 0) ≡ b → (marks n =? 0) ≡ d
        → first_word (n + 1) marks words ≡ pick b (pick d 0 (words n)) (first_word n marks words)
    word_by b d h e =
        word_step ∙ ap (λ (x : Bool). pick x (pick (marks n =? 0) 0 (words n)) (first_word n marks words)) h
        ∙ ap (λ (x : Bool). pick b (pick x 0 (words n)) (first_word n marks words)) e

    pub word_new : first_mark n marks ≡ 0 → (marks n ≡ 0 → ⊥) → words n ≡ first_word (n + 1) marks words
    word_new h ne = sym (word_by true false (yes= h) (no= ne))

    pub word_old : (first_mark n marks ≡ 0 → ⊥) → first_word n marks words ≡ first_word (n + 1) marks words
    word_old ne = sym (word_by false (marks n =? 0) (no= ne) refl)

    pub word_idle : marks n ≡ 0 → first_word n marks words ≡ first_word (n + 1) marks words
    word_idle e = go (ℕ_discrete (first_mark n marks) 0)
      where
        go : Dec (first_mark n marks ≡ 0) → first_word n marks words ≡ first_word (n + 1) marks words
        go (yes h) = word_empty marks words n h ∙ sym (word_by true true (yes= h) (yes= e))
        go (no ne) = word_old ne

-- a circuit's mark at a node
module _ (s : List ℕ) (node c : ℕ) where
  pub own_here : source_of (sheet_in s) c ≡ node → own_mark s node c ≡ sent_mark s c
  own_here e = ap (λ (b : Bool). pick b (sent_mark s c) 0) (yes= e)

  pub own_other : (source_of (sheet_in s) c ≡ node → ⊥) → own_mark s node c ≡ 0
  own_other ne = ap (λ (b : Bool). pick b (sent_mark s c) 0) (no= ne)

  pub own_empty : sent_mark s c ≡ 0 → own_mark s node c ≡ 0
  own_empty e = go (source_of (sheet_in s) c =? node)
    where
      go : (b : Bool) → pick b (sent_mark s c) 0 ≡ 0
      go true = e
      go false = refl

  -- the circuit wants the node's wire
  abbrev pub wants : Bool
  wants = source_of (sheet_in s) c =? node and 1 ≤? sent_mark s c

  wants_marked : wants ≡ true → own_mark s node c ≡ 0 → ⊥
  wants_marked t e =
      let here = own_here (is= _ _ (and_left _ _ t)) in
      let some = is≤ _ _ (and_right _ _ t) in
      omega arith

  marked_wants : (own_mark s node c ≡ 0 → ⊥) → wants ≡ true
  marked_wants ne = go (ℕ_discrete (source_of (sheet_in s) c) node)
    where
      go : Dec (source_of (sheet_in s) c ≡ node) → wants ≡ true
      go (yes e) =
          let here = own_here e in
          let some : 1 ≤ sent_mark s c = omega (arith, ne) in
          and_both (yes= e) (yes≤ some)
      go (no other) = absurd (ne (own_other other))

-- a free wire is one that no circuit wants
module _ (s : List ℕ) (node : ℕ) where
  count_by : (n : ℕ) (b : Bool) → wants s node n ≡ b
      → count_of (n + 1) (wants s node) ≡ pick b (count_of n (wants s node) + 1) (count_of n (wants s node))
  count_by n b e =
      count_of_more (wants s node) n ∙ ap (λ (x : Bool). pick x (count_of n (wants s node) + 1) (count_of n (wants s node))) e

  record WantsCounted (n : ℕ) : Type 0 where
    none : first_mark n (own_mark s node) ≡ 0 → count_of n (wants s node) ≡ 0
    some : (first_mark n (own_mark s node) ≡ 0 → ⊥) → 1 ≤ count_of n (wants s node)

  counted_start : WantsCounted 0
  unfolding count_of
  counted_start = record { none = λ h. refl; some = λ ne. absurd (ne (first_none (own_mark s node))) }

  counted_more : (n : ℕ) → WantsCounted n → WantsCounted (n + 1)
  counted_more n g = go (wants s node n) refl
    where
      go : (b : Bool) → wants s node n ≡ b → WantsCounted (n + 1)
      go true t = record {
        none = λ h. absurd (wanted (ℕ_discrete (first_mark n (own_mark s node)) 0) h);
        some = λ ne. omega (arith, count_by n true t);
      }
        where
          wanted : Dec (first_mark n (own_mark s node) ≡ 0) → first_mark (n + 1) (own_mark s node) ≡ 0 → ⊥
          wanted (yes e) h = wants_marked s node n t (first_new (own_mark s node) n e ∙ h)
          wanted (no ne) h = ne (first_old (own_mark s node) n ne ∙ h)
      go false t =
          let empty : own_mark s node n ≡ 0 = idle (ℕ_discrete (own_mark s node n) 0) in
          let stays = first_idle (own_mark s node) n empty in
          record {
            none = λ h. count_by n false t ∙ g.none (stays ∙ h);
            some = λ ne. omega (arith, count_by n false t, g.some (λ e. ne (sym stays ∙ e)));
          }
        where
          idle : Dec (own_mark s node n ≡ 0) → own_mark s node n ≡ 0
          idle (yes e) = e
          idle (no ne) = absurd (false≢true (sym t ∙ marked_wants s node n ne))

  counted : (n : ℕ) → WantsCounted n
  counted zero = counted_start
  counted (suc n) = subst WantsCounted (add-one n) (counted_more n (counted n))

-- two circuits before c want one wire
abbrev pub crowded_before : List ℕ → ℕ → Bool
crowded_before s c = any (nodes (sheet_in s)) (λ node. 2 ≤? count_of c (wants s node))

pub crowded_start : (s : List ℕ) → crowded_before s 0 ≡ false
unfolding count_of
crowded_start s = any_none (nodes (sheet_in s)) _ (λ k l. no≤ (omega arith))

module _ (s : List ℕ) (c : ℕ) (inside : source_of (sheet_in s) c < nodes (sheet_in s)) where
  abbrev here : ℕ
  here = source_of (sheet_in s) c

  crowds_more : crowds_at s c ≡ true → crowded_before s (c + 1) ≡ true
  unfolding crowds_at
  crowds_more t =
      let taken = is≤ _ _ (and_right _ _ t) in
      let some = (counted s here c).some (λ e. omega arith) in
      let one = count_by s here c true (and_both (yes= refl) (and_left _ _ t)) in
      any_at (nodes (sheet_in s)) _ here inside (yes≤ (omega arith))

  crowds_same : crowds_at s c ≡ false → crowded_before s (c + 1) ≡ crowded_before s c
  unfolding crowds_at
  crowds_same t = any_same (nodes (sheet_in s)) _ _ (λ node l. go node (wants s node c) refl)
    where
      free : (node : ℕ) → wants s node c ≡ true → Dec (first_mark c (own_mark s node) ≡ 0) → first_mark c (own_mark s node) ≡ 0
      free node w (yes e) = e
      free node w (no ne) =
          let q = is= _ _ (and_left _ _ w) in
          let m = ap (λ (k : ℕ). first_mark c (own_mark s k)) q in
          let l : 1 ≤ first_mark c (own_mark s here) = omega (arith, ne, m) in
          absurd (false≢true (sym t ∙ and_both (and_right _ _ w) (yes≤ l)))

      go : (node : ℕ) (b : Bool) → wants s node c ≡ b → (2 ≤? count_of (c + 1) (wants s node)) ≡ (2 ≤? count_of c (wants s node))
      go node true w =
          let none = (counted s node c).none (free node w (ℕ_discrete _ 0)) in
          let one = count_by s node c true w in
          no≤ (omega arith) ∙ sym (no≤ (omega arith))
      go node false w = ap (λ (k : ℕ). 2 ≤? k) (count_by s node c false w)

  pub crowded_more : crowded_before s (c + 1) ≡ crowded_before s c or crowds_at s c
  crowded_more = go (crowds_at s c) refl
    where
      go : (b : Bool) → crowds_at s c ≡ b → crowded_before s (c + 1) ≡ crowded_before s c or crowds_at s c
      go true t = crowds_more t ∙ or_skip (crowded_before s c) (sym t)
      go false t = crowds_same t ∙ or_false (crowded_before s c) ∙ ap (λ (b : Bool). crowded_before s c or b) (sym t)

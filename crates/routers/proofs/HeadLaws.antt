-- The header stage of one input, from the words that were read, of the five inputs of a node, and of all nodes of a mask, one after the other.
-- Assumes nothing.
use Prim.Native.Nat.{ℕ, zero, suc, ◌+◌, ◌*◌, ◌%◌, ◌<◌, ◌≤◌}
use mathlib.Core.List.{List, []}
use mathlib.Core.Path.{◌≡◌, refl, sym, subst, ◌∙◌, ap, ap₂}
use native.Mathlib.Omega.{arith}
use native.Mathlib.Numerals.{add-one}
use lib.ListN.{length}
use lib.Seq.{set-get_or}
use Rattle.words.specs.Tests.{◌=?◌}
use Rattle.words.proofs.TestLaws.{yes=, no=, no≤}
use Rattle.occupancy.specs.declared.TakenPlaces.{TakenPlaces}
use Rattle.occupancy.proofs.WalkLaws.{Gave}
use Rattle.network.specs.Cycle.{output_for}
use Rattle.network.specs.Registers.{reg, put, moving_words, link_mark, link_word, head_mark, head_word, choice_row, latch_row, row_words}
use Rattle.network.specs.Inner.Machine.{next_head_word, next_choice, next_latch, row_in, next_rows, next_in_row}
use Rattle.network.proofs.PutLaws.{put_other}
use Rattle.network.proofs.FillLaws.{Wrote, wrote_one, wrote_more, Staged, stage_more, still, beside}
use Rattle.routers.specs.Inner.Stepping.{head_stepped, heads_stepped}
use Rattle.links.proofs.WalkLaws.{StaysBeside, Walked, walk_inside, walk_at, walk_more}

-- the output chosen, from the mark m that was read
module _ (input latch mark w m : ℕ) (e : m ≡ mark) where
  pub choice_none : m ≡ 0 → 0 ≡ next_choice input latch mark w
  unfolding next_choice
  choice_none h = rw (yes= (sym e ∙ h))

  pub choice_own : (v o : ℕ) → v ≡ w → o ≡ output_for input v → m ≡ 1 → o + 1 ≡ next_choice input latch mark w
  unfolding next_choice
  choice_own v o q r h =
      let other : mark ≡ 0 → ⊥ = λ z. (let a : ⊥ = omega (arith, z) in a) in
      rw (no= other, yes= (sym e ∙ h)) (ap (λ (x : ℕ). x + 1) (r ∙ ap (output_for input) q))

  pub choice_held : (v : ℕ) → v ≡ latch → (m ≡ 0 → ⊥) → (m ≡ 1 → ⊥) → v ≡ next_choice input latch mark w
  unfolding next_choice
  choice_held v q a b = rw (no= (λ f. a (e ∙ f)), no= (λ f. b (e ∙ f))) q

-- the four registers of input k, one after the other
pub head_is : (s : List ℕ) (k mark w word choice latch : ℕ) → mark ≡ reg s link_mark k → w ≡ reg s link_word k
    → word ≡ next_head_word mark w
    → choice ≡ next_choice (k % 5) (reg s latch_row k) (reg s link_mark k) (reg s link_word k)
    → latch ≡ next_latch (k % 5) (reg s latch_row k) (reg s link_mark k) (reg s link_word k)
    → (s₁ s₂ s₃ s₄ : List ℕ) → s₁ ≡ put s head_mark k mark → s₂ ≡ put s₁ head_word k word → s₃ ≡ put s₂ choice_row k choice
    → s₄ ≡ put s₃ latch_row k latch → s₄ ≡ head_stepped s k
unfolding head_stepped
head_is s k mark w word choice latch a b c d e s₁ s₂ s₃ s₄ p q r t =
    let c' : word ≡ next_head_word (reg s link_mark k) (reg s link_word k) = c ∙ ap₂ next_head_word a b in
    t
    ∙ ap (λ x. put x latch_row k latch)
    (r ∙ ap (λ x. put x choice_row k choice) (q ∙ ap (λ x. put x head_word k word) p))
    ∙ (λ i. put (put (put (put s head_mark k (a i)) head_word k (c' i)) choice_row k (d i)) latch_row k (e i))

-- an empty link register: its word goes on, and the latch stays
module _ (mark : ℕ) (z : mark ≡ 0) where
  head_none : (w : ℕ) → w ≡ next_head_word mark w
  unfolding next_head_word
  head_none w =
      let other : mark ≡ 1 → ⊥ = λ e. (let a : ⊥ = omega (arith, e) in a) in
      rw (no= other)

  latch_none : (input latch w : ℕ) → latch ≡ next_latch input latch mark w
  unfolding next_latch
  latch_none input latch w =
      let other : mark ≡ 1 → ⊥ = λ e. (let a : ⊥ = omega (arith, e) in a) in
      let early : mark < 3 = omega arith in
      rw (no= other, no≤ early)

put_own : (s : List ℕ) (row k w : ℕ) → w ≡ reg s row k → s ≡ put s row k w
unfolding reg
put_own s row k w e = sym (ap (put s row k) e ∙ set-get_or s (row * row_words + k) 0)

pub head_empty : (s : List ℕ) (k mark w : ℕ) → mark ≡ reg s link_mark k → mark ≡ 0 → w ≡ reg s link_word k
    → (s₁ s₂ s₃ : List ℕ) → s₁ ≡ put s head_mark k 0 → s₂ ≡ put s₁ head_word k w → s₃ ≡ put s₂ choice_row k 0 → s₃ ≡ head_stepped s k
head_empty s k mark w a z b s₁ s₂ s₃ p q r =
    let empty : reg s link_mark k ≡ 0 = sym a ∙ z in
    let latch : reg s latch_row k ≡ reg s₃ latch_row k = sym
    (ap (λ x. reg x latch_row k) r ∙ put_other s₂ choice_row k 0 latch_row k (λ e. omega arith)
    ∙ ap (λ x. reg x latch_row k) q ∙ put_other s₁ head_word k w latch_row k (λ e. omega arith)
    ∙ ap (λ x. reg x latch_row k) p ∙ put_other s head_mark k 0 latch_row k (λ e. omega arith)) in
    head_is s k 0 w w 0 (reg s latch_row k) (sym empty) b (head_none 0 refl w)
    (choice_none (k % 5) (reg s latch_row k) (reg s link_mark k) (reg s link_word k) mark a z)
    (latch_none (reg s link_mark k) empty (k % 5) (reg s latch_row k) (reg s link_word k))
    s₁ s₂ s₃ s₃ p q r (put_own s₃ latch_row k (reg s latch_row k) latch)

-- one input more
module _ (s now : List ℕ) (k : ℕ) (kl : k < row_words) (long : moving_words ≤ length s) (g : Staged head_mark latch_row k (next_in_row s []) s now) where
  mark : reg now link_mark k ≡ reg s link_mark k
  mark = beside head_mark latch_row k (next_in_row s []) s now g link_mark k (omega arith) kl (λ a b. omega arith)

  cell : reg now link_word k ≡ reg s link_word k
  cell = beside head_mark latch_row k (next_in_row s []) s now g link_word k (omega arith) kl (λ a b. omega arith)

  latch : reg now latch_row k ≡ reg s latch_row k
  latch = still head_mark latch_row k (next_in_row s []) s now g latch_row k (omega arith) kl (omega arith)

  head_wrote : Wrote head_mark latch_row k (λ row. next_in_row s [] row k) now (head_stepped now k)
  unfolding head_stepped next_in_row row_in next_rows ◌=?◌
  head_wrote =
      let new : ℕ → ℕ = λ row. next_in_row s [] row k in
      let wide : moving_words ≤ length now = omega (arith, g.same_length) in
      wrote_more head_mark choice_row k _ new now _ (omega arith) (omega arith) kl wide
      (wrote_more head_mark head_word k _ new now _ (omega arith) (omega arith) kl wide
      (wrote_more head_mark head_mark k _ new now _ (omega arith) (omega arith) kl wide
      (wrote_one head_mark k (reg now link_mark k) new now (omega arith) kl wide mark)
      (ap₂ next_head_word mark cell))
      (λ i. next_choice (k % 5) (latch i) (mark i) (cell i)))
      (λ i. next_latch (k % 5) (latch i) (mark i) (cell i))

  pub heads_more : (next : List ℕ) → next ≡ head_stepped now k → Staged head_mark latch_row (k + 1) (next_in_row s []) s next
  heads_more next e =
      stage_more head_mark latch_row k (next_in_row s []) s now next (omega arith) kl g
      (subst (Wrote head_mark latch_row k (λ row. next_in_row s [] row k) now) (sym e) head_wrote)

-- the inputs of one node, one more and all five
pub stepped_none : (s : List ℕ) (k : ℕ) → s ≡ heads_stepped 0 s k
unfolding heads_stepped
stepped_none s k = refl

pub stepped_more : (s now next : List ℕ) (k n : ℕ) → now ≡ heads_stepped n s k → next ≡ head_stepped now (k + n) → next ≡ heads_stepped (n + 1) s k
unfolding heads_stepped
stepped_more s now next k n e f = rw add-one (f ∙ ap (λ (x : List ℕ). head_stepped x (k + n)) e)

heads_inputs : (s now : List ℕ) (k n : ℕ) → k + n ≤ row_words → moving_words ≤ length s → Staged head_mark latch_row k (next_in_row s []) s now
    → Staged head_mark latch_row (k + n) (next_in_row s []) s (heads_stepped n now k)
unfolding heads_stepped
heads_inputs s now k zero l long g =
    let none : k ≡ k + 0 = omega arith in
    subst (λ (i : ℕ). Staged head_mark latch_row i (next_in_row s []) s now) none g
heads_inputs s now k (suc n) l long g =
    let more : k + n + 1 ≡ k + suc n = omega arith in
    subst (λ (i : ℕ). Staged head_mark latch_row i (next_in_row s []) s (head_stepped (heads_stepped n now k) (k + n))) more
    (heads_more s (heads_stepped n now k) (k + n) (omega arith) long (heads_inputs s now k n (omega arith) long g) _ refl)

-- one turn
module _ (s : List ℕ) (nodes mask : ℕ) (long : moving_words ≤ length s) (few : nodes ≤ 16)
    (stays : StaysBeside head_mark latch_row (next_in_row s []) s nodes mask)
    (walk : TakenPlaces) (now : List ℕ) (g : Walked head_mark latch_row nodes mask (next_in_row s []) s walk now) (after : TakenPlaces)
    (node : ℕ) (t : Gave walk node after) where
  pub heads_inside : node < 16
  heads_inside = omega (arith, walk_inside head_mark latch_row nodes mask (next_in_row s []) s (omega arith) few stays walk now g after node t)

  pub heads_turn : (next : List ℕ) → next ≡ heads_stepped 5 now (node * 5) → Walked head_mark latch_row nodes mask (next_in_row s []) s after next
  heads_turn next e =
      walk_more head_mark latch_row nodes mask (next_in_row s []) s (omega arith) few stays walk now g after node t next
      (subst (λ (i : ℕ). Staged head_mark latch_row i (next_in_row s []) s next) (let five : node * 5 + 5 ≡ (node + 1) * 5 = omega arith in five)
      (subst (Staged head_mark latch_row (node * 5 + 5) (next_in_row s []) s) (sym e)
      (heads_inputs s now (node * 5) 5 (let few_places : node < 16 = heads_inside in omega arith) long
      (walk_at head_mark latch_row nodes mask (next_in_row s []) s (omega arith) few stays walk now g after node t))))

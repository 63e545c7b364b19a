-- The header stage, from the words that were read and the tests that were taken.
-- Assumes nothing.
use Prim.Native.Nat.{ℕ, ◌+◌, ◌<◌, ◌≤◌}
use mathlib.Core.Path.{◌≡◌, sym, ◌∙◌, ap}
use native.Mathlib.Nat.{mod-lt}
use native.Mathlib.Omega.{arith}
use Rattle.words.proofs.TestLaws.{yes=, no=, yes≤, no≤}
use Rattle.packet.specs.Header.{route_of, first_code, shifted_word}
use Rattle.torus.proofs.RouteLaws.{output_small}
use Rattle.network.specs.Cycle.{output_for}
use Rattle.network.specs.Inner.Machine.{next_head_word, next_latch}

-- an output is one of five
pub output_for_small : (input w o : ℕ) → o ≡ output_for input w → o ≤ 4
unfolding output_for
output_for_small input w o e = output_small input (first_code (route_of w)) o e (mod-lt (route_of w) (omega arith))

-- the word that leaves the header stage
module _ (mark w : ℕ) where
  pub head_shifted : (v : ℕ) → v ≡ shifted_word w → mark ≡ 1 → v ≡ next_head_word mark w
  unfolding next_head_word
  head_shifted v e h = rw (yes= h) e

  pub head_same : (mark ≡ 1 → ⊥) → w ≡ next_head_word mark w
  unfolding next_head_word
  head_same ne = rw (no= ne)

-- the latch, from the mark m that was read
module _ (input latch mark w m : ℕ) (e : m ≡ mark) where
  pub latch_set : (v o : ℕ) → v ≡ w → o ≡ output_for input v → m ≡ 1 → o + 1 ≡ next_latch input latch mark w
  unfolding next_latch
  latch_set v o q r h = rw (yes= (sym e ∙ h)) (ap (λ (x : ℕ). x + 1) (r ∙ ap (output_for input) q))

  pub latch_dropped : 3 ≤ m → 0 ≡ next_latch input latch mark w
  unfolding next_latch
  latch_dropped h =
      let other : mark ≡ 1 → ⊥ = λ q. (let z : ⊥ = omega (arith, q) in z) in
      let late : 3 ≤ mark = omega arith in
      rw (no= other, yes≤ late)

  pub latch_held : (v : ℕ) → v ≡ latch → (m ≡ 1 → ⊥) → m < 3 → v ≡ next_latch input latch mark w
  unfolding next_latch
  latch_held v q ne h =
      let early : mark < 3 = omega arith in
      rw (no= (λ f. ne (e ∙ f)), no≤ early) q

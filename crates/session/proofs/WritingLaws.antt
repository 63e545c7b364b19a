-- The answers and the lent words of the calls that write, from their numbers and from what was written.
-- Assumes nothing.
use Rattle.std.proofs.Common.{◌≡◌, ℕ, ◌+◌, ◌*◌, Bool, true, false, List, set, sym, refl, ap, ◌∙◌}
use Rattle.words.specs.Tests.{◌=?◌}
use Rattle.words.specs.Words.{pick}
use Rattle.words.proofs.TestLaws.{yes=, no=}
use Rattle.network.specs.Registers.{room}
use Rattle.session.specs.Calls.{state_number, start_number, stored, Lent, Call, number, does, after}
use Rattle.words.proofs.NumberLaws.{then_first}

-- what a call leaves, by whether it is carried out
pub after_done : (x : Call) (w : Lent) → number x w ≡ 0 → after x w ≡ does x w
unfolding after
after_done x w e = rw (yes= e) refl

pub after_refused : (x : Call) (w : Lent) → (number x w ≡ 0 → ⊥) → after x w ≡ w
unfolding after
after_refused x w ne = rw (no= ne) refl

-- the lent words afterwards: as they were, or as they were written
module _ (x : Call) (w : Lent) {n : ℕ} (e : n ≡ number x w) where
  kept : (n ≡ 0 → ⊥) → w ≡ after x w
  kept ne = sym (after_refused x w (λ z. ne (e ∙ z)))

  written : n ≡ 0 → does x w ≡ after x w
  written z = sym (after_done x w (sym e ∙ z))

  pub state_kept : (n ≡ 0 → ⊥) → w.state ≡ (after x w).state
  state_kept ne = ap (λ (y : Lent). y.state) (kept ne)

  pub memory_kept : (n ≡ 0 → ⊥) → w.memory ≡ (after x w).memory
  memory_kept ne = ap (λ (y : Lent). y.memory) (kept ne)

  -- or one of the two, as the number says
  pub state_either : {s : List ℕ} → s ≡ pick (n =? 0) (does x w).state w.state → s ≡ (after x w).state
  unfolding after
  state_either f = f ∙ go (n =? 0) ∙ ap (λ k. (pick (k =? 0) (does x w) w).state) e
    where
      go : (t : Bool) → pick t (does x w).state w.state ≡ (pick t (does x w) w).state
      go true = refl
      go false = refl

  pub memory_either : {m : List ℕ} → m ≡ pick (n =? 0) (does x w).memory w.memory → m ≡ (after x w).memory
  unfolding after
  memory_either f = f ∙ go (n =? 0) ∙ ap (λ k. (pick (k =? 0) (does x w) w).memory) e
    where
      go : (t : Bool) → pick t (does x w).memory w.memory ≡ (pick t (does x w) w).memory
      go true = refl
      go false = refl

  pub state_written : {s : List ℕ} → n ≡ 0 → s ≡ (does x w).state → s ≡ (after x w).state
  state_written z f = f ∙ ap (λ (y : Lent). y.state) (written z)

  pub memory_written : {m : List ℕ} → n ≡ 0 → m ≡ (does x w).memory → m ≡ (after x w).memory
  memory_written z f = f ∙ ap (λ (y : Lent). y.memory) (written z)

-- the memory with a word stored
pub stored_is : (s m : List ℕ) (node address w : ℕ) {place : ℕ} {after : List ℕ} → after ≡ set m place w → place ≡ node * room s + address
    → after ≡ stored s m node address w
unfolding stored
stored_is s m node address w e f = e ∙ ap (λ k. set m k w) f

-- a number of 12 and 13 is the start's number
pub start_early : {n : ℕ} (s : List ℕ) (circuit read write count kind : ℕ) → n ≡ state_number s → (n ≡ 0 → ⊥)
    → n ≡ start_number s circuit read write count kind
unfolding start_number
start_early s circuit read write count kind e ne = then_first _ e ne

-- Laws of cells: the first of some cells that is there, and how many places of some pass a test.
-- Assumes nothing.
use Prim.Native.Nat.{ℕ, zero, suc, ◌<◌}
use mathlib.Core.Bool.{Bool, true, false, false≢true}
use mathlib.Core.Path.{◌≡◌, refl, ◌∙◌, ap}
use native.Mathlib.Decide.{ℕ_discrete}
use native.Mathlib.Omega.{arith}
use Rattle.words.specs.Words.{pick}
use Rattle.network.specs.View.{Cell, empty, header, payload}
use Rattle.network.specs.Cycle.{advance, join, gather, is_full, is_payload}

-- a cell that is not full is empty
pub not_full : (c : Cell) → (is_full c ≡ true → ⊥) → c ≡ empty
not_full empty h = refl
not_full (header word) h = absurd (h refl)
not_full (payload word last) h = absurd (h refl)

-- a payload word fills its cell
pub payload_full : (c : Cell) → is_payload c ≡ true → is_full c ≡ true
payload_full empty e = e
payload_full (header word) e = refl
payload_full (payload word last) e = refl

-- the header stage makes no word
pub advance_full : (c : Cell) → is_full (advance c) ≡ true → is_full c ≡ true
advance_full empty e = e
advance_full (header word) e = refl
advance_full (payload word last) e = refl

-- a word behind a test: the test passes
pub pick_passes : (b : Bool) (c : Cell) → is_full (pick b c empty) ≡ true → b ≡ true
pick_passes true c e = refl
pick_passes false c e = e

pub pick_full : (b : Bool) (c : Cell) → is_full (pick b c empty) ≡ true → is_full c ≡ true
pick_full true c e = e
pick_full false c e = absurd (false≢true e)

join_empty : (c : Cell) → join c empty ≡ c
join_empty empty = refl
join_empty (header word) = refl
join_empty (payload word last) = refl

-- of empty cells none is there
pub gather_none : (n : ℕ) (cells : ℕ → Cell) → ((i : ℕ) → i < n → cells i ≡ empty) → gather n cells ≡ empty
gather_none zero cells h = refl
gather_none (suc n) cells h = rw (gather_none n cells (λ i l. h i (omega arith)), h n (omega arith)) refl

-- where all others are empty, a cell is the first that is there
pub gather_one : (n : ℕ) (cells : ℕ → Cell) (i : ℕ) → i < n → ((m : ℕ) → m < n → (m ≡ i → ⊥) → cells m ≡ empty)
    → gather n cells ≡ cells i
gather_one zero cells i l h = absurd (omega arith)
gather_one (suc n) cells i l h = go (ℕ_discrete n i) (λ less. gather_one n cells i less (λ m ml ne. h m (omega arith) ne))
  where
    go : Dec (n ≡ i) → (i < n → gather n cells ≡ cells i) → join (gather n cells) (cells n) ≡ cells i
    go (yes e) before = rw (gather_none n cells (λ m ml. h m (omega arith) (λ q. omega (arith, q)))) (ap cells e)
    go (no ne) before = rw (h n (omega arith) ne) (join_empty (gather n cells) ∙ before (omega (arith, ne)))

-- a place of some cells at which a word is there
pub record FullAt (n : ℕ) (cells : ℕ → Cell) : Type 0 where
  pub place : ℕ
  pub below : place < n
  pub full : is_full (cells place) ≡ true

-- where some word is there, it is at some place
pub gather_full : (n : ℕ) (cells : ℕ → Cell) → is_full (gather n cells) ≡ true → FullAt n cells
gather_full zero cells e = absurd (false≢true e)
gather_full (suc n) cells e = go (gather n cells) e (gather_full n cells)
  where
    wider : FullAt n cells → FullAt (suc n) cells
    wider at = record { place = at.place; below = omega arith; full = at.full }

    go : (first : Cell) → is_full (join first (cells n)) ≡ true → (is_full first ≡ true → FullAt n cells) → FullAt (suc n) cells
    go empty q before = record { place = n; below = omega arith; full = q }
    go (header word) q before = wider (before refl)
    go (payload word last) q before = wider (before refl)

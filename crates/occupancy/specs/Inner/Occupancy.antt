-- A table of places that are taken or free: one bit a place, thirty-two places a word.
use Rattle.std.specs.Prelude.{ℕ, zero, suc, ◌+◌, ◌-◌, ◌*◌, ◌/◌, ◌%◌, ◌^◌, ◌<◌, ◌≤◌, List, [], ◌∷◌, Bool, true, false, not, ◌≡◌, length, set}
use Rattle.std.specs.Int.Bits.{bit_or}
use Rattle.words.specs.Tests.{◌or◌, ◌=?◌}
use Rattle.words.specs.Words.{word}

-- bit i of a number
unfoldable pub bit_at : ℕ → ℕ → ℕ
bit_at x i = x / 2 ^ i % 2

-- the place is taken
unfoldable pub taken : List ℕ → ℕ → Bool
taken table place = bit_at (word table (place / 32)) (place % 32) =? 1

-- so many places in a row
unfoldable pub run : ℕ → ℕ → List ℕ
run zero place = []
run (suc n) place = place ∷ run n (place + 1)

-- one of the places is taken
unfoldable pub any_taken : List ℕ → List ℕ → Bool
any_taken table [] = false
any_taken table (x ∷ xs) = taken table x or any_taken table xs

-- the place is in a list
unfoldable pub listed : ℕ → List ℕ → Bool
listed x [] = false
listed x (y ∷ ys) = x =? y or listed x ys

-- the sixty-four places from word q on, as one number
unfoldable pub window : List ℕ → ℕ → ℕ
window table q = word table q + word table (q + 1) * 2 ^ 32

-- ones at so many places from a bit on
unfoldable pub slot_mask : ℕ → ℕ → ℕ
slot_mask bit size = (2 ^ size - 1) * 2 ^ bit

-- the table with so many places from one on taken: the two words that can hold them, written anew
unfoldable pub take_run : List ℕ → ℕ → ℕ → List ℕ
take_run table place size =
    set (set table (place / 32) (bit_or (window table (place / 32)) (slot_mask (place % 32) size) % 2 ^ 32))
    (place / 32 + 1) (bit_or (window table (place / 32)) (slot_mask (place % 32) size) / 2 ^ 32)

-- after it, the places of the list are taken besides those before
pub record Takes (before after places : List ℕ) : Type 0 where
  pub same_length : length after ≡ length before
  pub besides : (x : ℕ) → taken after x ≡ (listed x places or taken before x)

-- the answer is yes where the places of a mask among those from word q on were free and now are taken, a mask of so many places from a bit on
pub record TakenIfFree (before after : List ℕ) (q mask : ℕ) (answer : Bool) : Type 0 where
  pub same_length : length after ≡ length before
  pub free : (bit size : ℕ) → mask ≡ slot_mask bit size → bit + size ≤ 64 → answer ≡ not (any_taken before (run size (32 * q + bit)))
  pub now_taken : (bit size : ℕ) → mask ≡ slot_mask bit size → bit + size ≤ 64 → answer ≡ true
      → Takes before after (run size (32 * q + bit))

-- the next taken place of a mask from one on, or one behind all: those passed are free
pub record NextTaken (mask from next : ℕ) : Type 0 where
  pub onward : from ≤ next
  pub passed : (place : ℕ) → from ≤ place → place < next → bit_at mask place ≡ 0

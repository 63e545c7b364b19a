-- The laws of a window: its bits are the sixty-four places from a word on, so that a mask finds the taken ones among a run.
-- Assumes nothing.
use Prim.Native.Nat.{ℕ, zero, suc, ◌+◌, ◌-◌, ◌*◌, ◌/◌, ◌%◌, ◌^◌, ◌<◌, ◌≤◌}
use mathlib.Core.List.{List}
use mathlib.Core.Path.{◌≡◌, sym, ap, ap₂, ◌∙◌}
use native.Mathlib.Omega.{arith}
use native.Mathlib.Decide.{dec_lt}
use native.Mathlib.Nat.{add_comm}
use lib.Bits.{bit_and}
use lib.Pow.{high, low}
use Rattle.words.specs.Tests.{◌or◌, ◌=?◌, ◌≠?◌}
use Rattle.words.specs.Words.{word}
use Rattle.occupancy.specs.Inner.Occupancy.{bit_at, taken, run, any_taken, window, slot_mask}
use Rattle.occupancy.proofs.BitLaws.{bit_low, bit_high, and_mask_none, low_none, low_more}

module _ (table : List ℕ) (q : ℕ) (small : word table q < 2 ^ 32) where
  -- the window's low part is its first word, and its high part the second
  pub window_low : window table q % 2 ^ 32 ≡ word table q
  unfolding window
  window_low =
      ap (λ (n : ℕ). n % 2 ^ 32) (add_comm (word table q) (word table (q + 1) * 2 ^ 32))
      ∙ low (word table (q + 1)) 32 small

  pub window_high : window table q / 2 ^ 32 ≡ word table (q + 1)
  unfolding window
  window_high =
      ap (λ (n : ℕ). n / 2 ^ 32) (add_comm (word table q) (word table (q + 1) * 2 ^ 32))
      ∙ high (word table (q + 1)) 32 small

  -- a bit of the window is a place
  pub window_bit : (i : ℕ) → i < 64 → taken table (32 * q + i) ≡ (bit_at (window table q) i =? 1)
  unfolding taken
  window_bit i h = go (dec_lt i 32)
    where
      go : Dec (i < 32) → (bit_at (word table ((32 * q + i) / 32)) ((32 * q + i) % 32) =? 1) ≡ (bit_at (window table q) i =? 1)
      go (yes l) =
          let e : (32 * q + i) / 32 ≡ q = omega arith in
          let f : (32 * q + i) % 32 ≡ i = omega arith in
          ap₂ (λ (m n : ℕ). bit_at (word table m) n =? 1) e f
          ∙ ap (λ (n : ℕ). n =? 1) (sym (ap (λ (n : ℕ). bit_at n i) window_low) ∙ bit_low (window table q) 32 i l)
      go (no l) =
          let e : (32 * q + i) / 32 ≡ q + 1 = omega arith in
          let f : (32 * q + i) % 32 ≡ i - 32 = omega arith in
          let g : 32 + (i - 32) ≡ i = omega arith in
          ap₂ (λ (m n : ℕ). bit_at (word table m) n =? 1) e f
          ∙ ap (λ (n : ℕ). n =? 1)
          (sym (ap (λ (n : ℕ). bit_at n (i - 32)) window_high) ∙ bit_high (window table q) 32 (i - 32) ∙ ap (bit_at (window table q)) g)

  -- a run within the window has a taken place where the bits of the run are not all 0
  pub any_bits : (n b : ℕ) → b + n ≤ 64 → any_taken table (run n (32 * q + b)) ≡ (window table q / 2 ^ b % 2 ^ n ≠? 0)
  unfolding any_taken run
  any_bits zero b h = sym (low_none (window table q) b)
  any_bits (suc n) b h =
      let e : 32 * q + b + 1 ≡ 32 * q + (b + 1) = omega arith in
      ap₂ ◌or◌ (window_bit b (omega arith)) (ap (λ (p : ℕ). any_taken table (run n p)) e ∙ any_bits n (b + 1) (omega arith))
      ∙ sym (low_more (window table q) b n)

-- the test of a run by its mask, with the window and the mask as they were worked out
pub any_mask : (table : List ℕ) (place size : ℕ) {v m : ℕ} → word table (place / 32) < 2 ^ 32 → size ≤ 16
    → v ≡ window table (place / 32) → m ≡ slot_mask (place % 32) size → (bit_and v m ≠? 0) ≡ any_taken table (run size place)
any_mask table place size small few window-is mask_is =
    let e : 32 * (place / 32) + place % 32 ≡ place = omega arith in
    ap₂ (λ (v m : ℕ). bit_and v m ≠? 0) window-is mask_is
    ∙ and_mask_none (window table (place / 32)) (place % 32) size
    ∙ sym (any_bits table (place / 32) small size (place % 32) (omega arith))
    ∙ ap (λ (p : ℕ). any_taken table (run size p)) e

-- The laws of the bits of a number: in its low and its high part, in a union, in a mask, and in the low part that a mask leaves.
-- Assumes nothing.
use Prim.Native.Nat.{ℕ, zero, suc, ◌+◌, ◌-◌, ◌*◌, ◌/◌, ◌%◌, ◌^◌, ◌<◌, ◌≤◌}
use mathlib.Core.Bool.{false}
use mathlib.Core.Path.{◌≡◌, refl, sym, ap, ◌∙◌}
use native.Mathlib.Omega.{arith}
use native.Mathlib.Decide.{dec_lt, dec_le}
use native.Mathlib.Nat.{mod-lt, mod-one, zero-lt-suc, pow-suc, le_refl, mul-div_cancel, mul_assoc, mul-mod_left, div-eq_of_lt, mul-pos, lt_of_lt_of_le, one-mul, mod-eq_of_lt}
use native.Mathlib.Numerals.{add-one}
use lib.Arith.{dbl_pred, digits_mod}
use lib.Bits.{bit_or, bit_and, or_shr, or_mod, and_high}
use lib.Pow.{field, pow-lt, shl_lt, mod-mod-pow, mod-pow-add, shr-shr, shl-shr, pow-add, pow_pos, pow_mono, ones_split, ones_lt, high, high_ones}
use Rattle.words.specs.Tests.{◌and◌, ◌or◌, ◌≤?◌, ◌<?◌, ◌=?◌, ◌≠?◌}
use Rattle.words.proofs.TestLaws.{and_both, and_no, and_no_right, yes≤, no≤, yes<, no<, yes=, no=, yes≠, no≠}
use Rattle.occupancy.specs.Inner.Occupancy.{bit_at, slot_mask}

-- a bit below k is a bit of the low part
pub bit_low : (v k i : ℕ) → i < k → bit_at (v % 2 ^ k) i ≡ bit_at v i
unfolding bit_at
bit_low v k i h =
    let e : k ≡ (k - (i + 1) + 1) + i = omega arith in
    ap (λ (n : ℕ). v % 2 ^ n / 2 ^ i % 2) e
    ∙ ap (λ (n : ℕ). n % 2) (field v (k - (i + 1) + 1) i)
    ∙ mod-mod-pow (v / 2 ^ i) (k - (i + 1)) 1

-- a bit from k on is a bit of the high part
pub bit_high : (v k i : ℕ) → bit_at (v / 2 ^ k) i ≡ bit_at v (k + i)
unfolding bit_at
bit_high v k i = ap (λ (n : ℕ). n % 2) (shr-shr v k i)

or_digit : (a b : ℕ) → a < 2 → b < 2 → (bit_or a b =? 1) ≡ (a =? 1 or b =? 1)
unfolding ◌or◌ ◌=?◌
or_digit zero b h l = refl
or_digit (suc zero) zero h l = refl
or_digit (suc zero) (suc zero) h l = refl
or_digit (suc zero) (suc (suc b)) h l = absurd (omega arith)
or_digit (suc (suc a)) b h l = absurd (omega arith)

-- a bit of a union is a bit of one of the two
pub bit_or_at : (a b i : ℕ) → (bit_at (bit_or a b) i =? 1) ≡ (bit_at a i =? 1 or bit_at b i =? 1)
unfolding bit_at
bit_or_at a b i =
    ap (λ (n : ℕ). n % 2 =? 1) (or_shr a b i)
    ∙ ap (λ (n : ℕ). n =? 1) (or_mod (a / 2 ^ i) (b / 2 ^ i) 1)
    ∙ or_digit (a / 2 ^ i % 2) (b / 2 ^ i % 2) (mod-lt _ (zero-lt-suc 1)) (mod-lt _ (zero-lt-suc 1))

ones_odd : (k : ℕ) → (2 ^ suc k - 1) % 2 ≡ 1
ones_odd k =
    ap (λ (n : ℕ). (n - 1) % 2) (pow-suc 2 k)
    ∙ ap (λ (n : ℕ). n % 2) (dbl_pred (pow_pos k))
    ∙ digits_mod (2 ^ k - 1) (le_refl 2)

-- the bits of a mask: none below it, ones in it, none above it
mask_under : (b n i : ℕ) → i < b → bit_at (slot_mask b n) i ≡ 0
unfolding bit_at slot_mask
mask_under b n i h =
    let d = b - (i + 1) in
    let e : b ≡ suc d + i = omega arith in
    let power : 2 ^ b ≡ 2 ^ d * 2 * 2 ^ i = ap (λ (m : ℕ). 2 ^ m) e ∙ pow-add 2 (suc d) i ∙ ap (λ (m : ℕ). m * 2 ^ i) (pow-suc 2 d) in
    ap (λ (m : ℕ). (2 ^ n - 1) * m / 2 ^ i % 2) power
    ∙ ap (λ (m : ℕ). m / 2 ^ i % 2) (sym (mul_assoc (2 ^ n - 1) (2 ^ d * 2) (2 ^ i)))
    ∙ ap (λ (m : ℕ). m % 2) (mul-div_cancel ((2 ^ n - 1) * (2 ^ d * 2)) (pow_pos i))
    ∙ ap (λ (m : ℕ). m % 2) (sym (mul_assoc (2 ^ n - 1) (2 ^ d) 2))
    ∙ mul-mod_left ((2 ^ n - 1) * 2 ^ d) 2

mask_shift : (b n d : ℕ) → bit_at (slot_mask b n) (b + d) ≡ (2 ^ n - 1) / 2 ^ d % 2
unfolding bit_at slot_mask
mask_shift b n d =
    ap (λ (m : ℕ). m % 2) (sym (shr-shr ((2 ^ n - 1) * 2 ^ b) b d))
    ∙ ap (λ (m : ℕ). m / 2 ^ d % 2) (shl-shr (2 ^ n - 1) b)

mask_in : (b n d : ℕ) → d < n → bit_at (slot_mask b n) (b + d) ≡ 1
mask_in b n d h =
    let e : n ≡ suc (n - (d + 1)) + d = omega arith in
    mask_shift b n d
    ∙ ap (λ (m : ℕ). (2 ^ m - 1) / 2 ^ d % 2) e
    ∙ ap (λ (m : ℕ). m / 2 ^ d % 2) (ones_split (suc (n - (d + 1))) d)
    ∙ ap (λ (m : ℕ). m % 2) (high (2 ^ suc (n - (d + 1)) - 1) d (ones_lt d))
    ∙ ones_odd (n - (d + 1))

mask_over : (b n d : ℕ) → n ≤ d → bit_at (slot_mask b n) (b + d) ≡ 0
mask_over b n d h =
    let less : 2 ^ n - 1 < 2 ^ d = omega (arith, ones_lt n, pow_mono h) in
    mask_shift b n d ∙ ap (λ (m : ℕ). m % 2) (div-eq_of_lt less)

-- a mask's bits
pub bit_mask : (b n i : ℕ) → (bit_at (slot_mask b n) i =? 1) ≡ (b ≤? i and i <? b + n)
bit_mask b n i = go (dec_le b i) (dec_lt i (b + n))
  where
    go : Dec (b ≤ i) → Dec (i < b + n) → (bit_at (slot_mask b n) i =? 1) ≡ (b ≤? i and i <? b + n)
    go (no h) l =
        let g : i < b = omega arith in
        no= (λ e. omega (arith, mask_under b n i g)) ∙ and_no _ (no≤ g)
    go (yes h) (yes l) =
        let e : i ≡ b + (i - b) = omega arith in
        yes= (ap (bit_at (slot_mask b n)) e ∙ mask_in b n (i - b) (omega arith)) ∙ sym (and_both (yes≤ h) (yes< l))
    go (yes h) (no l) =
        let e : i ≡ b + (i - b) = omega arith in
        let none : bit_at (slot_mask b n) i ≡ 0 = ap (bit_at (slot_mask b n)) e ∙ mask_over b n (i - b) (omega arith) in
        no= (λ e. omega arith) ∙ sym (and_no_right (b ≤? i) _ (no< (omega arith)))

-- what a mask leaves
pub and_mask_is : (v b n : ℕ) → bit_and v (slot_mask b n) ≡ v / 2 ^ b % 2 ^ n * 2 ^ b
unfolding slot_mask
and_mask_is v b n = ap (bit_and v) (sym (high_ones n b)) ∙ and_high v n b

-- it leaves nothing where the bits under it are all 0
pub and_mask_none : (v b n : ℕ) → (bit_and v (slot_mask b n) ≠? 0) ≡ (v / 2 ^ b % 2 ^ n ≠? 0)
and_mask_none v b n = ap (λ (m : ℕ). m ≠? 0) (and_mask_is v b n) ∙ go (v / 2 ^ b % 2 ^ n)
  where
    go : (m : ℕ) → (m * 2 ^ b ≠? 0) ≡ (m ≠? 0)
    go zero = no≠ (omega arith) ∙ sym (no≠ refl)
    go (suc m) =
        let more : 0 < suc m * 2 ^ b = mul-pos (zero-lt-suc m) (pow_pos b) in
        yes≠ (λ e. omega arith) ∙ sym (yes≠ (λ e. omega arith))

one_more : (r m : ℕ) → r < 2 → (m * 2 + r ≠? 0) ≡ (r =? 1 or m ≠? 0)
unfolding ◌or◌ ◌=?◌
one_more zero zero h = refl
one_more zero (suc m) h = yes≠ (λ e. omega arith) ∙ sym (yes≠ (λ e. omega arith))
one_more (suc zero) m h = yes≠ (λ e. omega arith)
one_more (suc (suc r)) m h = absurd (omega arith)

-- no bit of none, and of one more: the first or one of the others
pub low_none : (v b : ℕ) → (v / 2 ^ b % 2 ^ 0 ≠? 0) ≡ false
low_none v b = no≠ (mod-one (v / 2 ^ b))

pub low_more : (v b n : ℕ) → (v / 2 ^ b % 2 ^ suc n ≠? 0) ≡ (bit_at v b =? 1 or v / 2 ^ (b + 1) % 2 ^ n ≠? 0)
unfolding bit_at
low_more v b n =
    ap (λ (m : ℕ). v / 2 ^ b % 2 ^ m ≠? 0) (sym (add-one n))
    ∙ ap (λ (m : ℕ). m ≠? 0) (mod-pow-add (v / 2 ^ b) n 1)
    ∙ one_more (v / 2 ^ b % 2) (v / 2 ^ b / 2 % 2 ^ n) (mod-lt _ (zero-lt-suc 1))
    ∙ ap (λ (m : ℕ). v / 2 ^ b % 2 =? 1 or m % 2 ^ n ≠? 0) (shr-shr v b 1)

-- a mask within sixty-four bits
pub mask_small : (b n : ℕ) → b + n ≤ 64 → slot_mask b n < 2 ^ 64
unfolding slot_mask
mask_small b n h =
    let wide : n + b ≤ 64 = omega arith in
    lt_of_lt_of_le (shl_lt n b (ones_lt n)) (pow_mono wide)

-- the code's shifts, which cut at sixty-four bits, lose none of a mask's
pub one_shifted : (n : ℕ) → n ≤ 16 → 1 * 2 ^ n % 2 ^ 64 ≡ 2 ^ n
one_shifted n l =
    let few : n < 64 = omega arith in
    ap (λ (m : ℕ). m % 2 ^ 64) (one-mul (2 ^ n)) ∙ mod-eq_of_lt (pow-lt few)

pub mask_shifted : (b n : ℕ) → b < 32 → n ≤ 16 → (1 * 2 ^ n % 2 ^ 64 - 1) * 2 ^ b % 2 ^ 64 ≡ slot_mask b n
unfolding slot_mask
mask_shifted b n h l = ap (λ (m : ℕ). (m - 1) * 2 ^ b % 2 ^ 64) (one_shifted n l) ∙ mod-eq_of_lt (mask_small b n (omega arith))

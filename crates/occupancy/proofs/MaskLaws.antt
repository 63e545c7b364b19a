-- The laws of a mask's places: a union's, a single place's, and those that are passed on the way to the next taken one.
-- Assumes nothing.
use Prim.Native.Nat.{ℕ, zero, suc, ◌+◌, ◌-◌, ◌*◌, ◌/◌, ◌%◌, ◌^◌, ◌<◌, ◌≤◌}
use mathlib.Core.Bool.{Bool, true, false, false≢true}
use mathlib.Core.Path.{◌≡◌, refl, sym, ap, subst, ◌∙◌}
use native.Mathlib.Omega.{arith}
use native.Mathlib.Nat.{mod-lt, zero-lt-suc, one-mul, mod-eq_of_lt, div-one, div-eq_of_lt, lt_of_lt_of_le}
use native.Mathlib.Decide.{dec_lt}
use lib.Bits.{bit_or}
use lib.Count.{count_trailing_zeros, under}
use lib.Pow.{pow-lt, pow_mono, shr-shr, shl-shr}
use Rattle.words.specs.Tests.{◌or◌, ◌=?◌}
use Rattle.words.proofs.TestLaws.{yes=, no=}
use Rattle.occupancy.specs.Inner.Occupancy.{bit_at, NextTaken}
use Rattle.occupancy.proofs.BitLaws.{bit_or_at}

bit_small : (v i : ℕ) → bit_at v i < 2
unfolding bit_at
bit_small v i = mod-lt _ (zero-lt-suc 1)

-- a place that is free in a union is free in both
free_in : (a b : Bool) → (a or b) ≡ false → (a ≡ false) × (b ≡ false)
unfolding ◌or◌
free_in true b e = absurd (false≢true (sym e))
free_in false b e = (refl, e)

not_one : (b : ℕ) → b < 2 → (b =? 1) ≡ false → b ≡ 0
not_one zero h e = refl
not_one (suc zero) h e = absurd (false≢true (sym e ∙ yes= refl))
not_one (suc (suc b)) h e = absurd (omega arith)

no_one : (b : ℕ) → b ≡ 0 → (b =? 1) ≡ false
no_one b e = no= (λ f. omega arith)

pub union_free : (a b place : ℕ) → bit_at (bit_or a b) place ≡ 0 → (bit_at a place ≡ 0) × (bit_at b place ≡ 0)
union_free a b place e =
    let both = free_in (bit_at a place =? 1) (bit_at b place =? 1) (sym (bit_or_at a b place) ∙ no_one _ e) in
    (not_one _ (bit_small a place) both.0, not_one _ (bit_small b place) both.1)

-- the one place of a single place's mask is taken
pub only_taken : (place : ℕ) → place < 64 → bit_at (1 * 2 ^ place % 2 ^ 64) place ≡ 1
unfolding bit_at
only_taken place h =
    ap (λ (x : ℕ). x / 2 ^ place % 2) (mod-eq_of_lt (subst (λ (x : ℕ). x < 2 ^ 64) (sym (one-mul (2 ^ place))) (pow-lt h)))
    ∙ ap (λ (x : ℕ). x % 2) (shl-shr 1 place)

-- the digits below the lowest that is set
low_free : (d n i : ℕ) → i < count_trailing_zeros d n → n / 2 ^ i % 2 ≡ 0
unfolding count_trailing_zeros
low_free zero n i h = absurd (omega arith)
low_free (suc d) n i h = go (n % 2) refl i h (low_free d (n / 2))
  where
    go : (r : ℕ) → n % 2 ≡ r → (i : ℕ) → i < under r (count_trailing_zeros d (n / 2))
        → ((j : ℕ) → j < count_trailing_zeros d (n / 2) → n / 2 / 2 ^ j % 2 ≡ 0) → n / 2 ^ i % 2 ≡ 0
    go zero e zero l ih = ap (λ (x : ℕ). x % 2) (div-one n) ∙ e
    go zero e (suc j) l ih =
        let one_more : suc j ≡ 1 + j = omega arith in
        ap (λ (x : ℕ). n / 2 ^ x % 2) one_more ∙ ap (λ (x : ℕ). x % 2) (sym (shr-shr n 1 j)) ∙ ih j (omega arith)
    go (suc r) e i l ih = absurd (omega arith)

-- behind the places that were passed stands the next that is taken
next_within : (mask from zeros : ℕ) → zeros ≡ count_trailing_zeros 64 (mask / 2 ^ from) → NextTaken mask from (from + zeros)
unfolding bit_at
next_within mask from zeros e = record {
  onward = omega arith;
  passed = λ place a b.
      let split : place ≡ from + (place - from) = omega arith in
      ap (λ (x : ℕ). mask / 2 ^ x % 2) split
      ∙ ap (λ (x : ℕ). x % 2) (sym (shr-shr mask from (place - from)))
      ∙ low_free 64 (mask / 2 ^ from) (place - from) (omega (arith, e));
}

-- a mask of sixty-four places has none from there on
next_beyond : (mask from next : ℕ) → mask < 2 ^ 64 → 64 ≤ from → from ≤ next → NextTaken mask from next
unfolding bit_at
next_beyond mask from next few far on = record {
  onward = on;
  passed = λ place a b.
      let wide : 64 ≤ place = omega arith in
      ap (λ (x : ℕ). x % 2) (div-eq_of_lt (lt_of_lt_of_le few (pow_mono wide)));
}

pub next_taken_is : (mask from zeros : ℕ) → mask < 2 ^ 64 → from ≤ 64 → zeros ≡ count_trailing_zeros 64 (mask / 2 ^ (from % 64))
    → NextTaken mask from (from + zeros)
next_taken_is mask from zeros few h e = go (dec_lt from 64)
  where
    go : Dec (from < 64) → NextTaken mask from (from + zeros)
    go (yes l) =
        let same : from % 64 ≡ from = omega arith in
        next_within mask from zeros (e ∙ ap (λ (x : ℕ). count_trailing_zeros 64 (mask / 2 ^ x)) same)
    go (no n) = next_beyond mask from (from + zeros) few (omega (arith, n)) (omega arith)

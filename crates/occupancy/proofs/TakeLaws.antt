-- What a table holds after a run of places is taken: those places besides those before, in words as small as before.
-- Assumes nothing.
use Prim.Native.Nat.{ℕ, zero, suc, ◌+◌, ◌-◌, ◌*◌, ◌/◌, ◌%◌, ◌^◌, ◌<◌, ◌≤◌}
use mathlib.Core.Bool.{Bool, true, false, not, false≢true}
use mathlib.Core.List.{List, [], ◌∷◌}
use mathlib.Core.Path.{◌≡◌, refl, sym, ap, ap₂, ◌∙◌, subst}
use native.Mathlib.Omega.{arith}
use native.Mathlib.Decide.{dec_lt, ℕ_discrete}
use native.Mathlib.Nat.{mod-lt, zero-div, zero-mul, mod-add-div'}
use lib.Bits.{bit_or, bit_and, or_lt, or_comm, or_zero_r}
use lib.ListN.{length, set, replicate, length-set}
use lib.Pow.{pow_pos, shr_lt}
use lib.Seq.{get_or-set_same, get_or-set_other, set-get_or}
use Rattle.words.specs.Tests.{◌and◌, ◌or◌, ◌≤?◌, ◌<?◌, ◌=?◌, ◌≠?◌}
use Rattle.words.specs.Words.{word}
use Rattle.words.proofs.TestLaws.{and_both, and_no, and_no_right, or_yes, or_on, yes≤, no≤, yes<, no<, yes=, no=, yes≠, no≠}
use Rattle.words.proofs.WordLaws.{word_zeros}
use Rattle.occupancy.specs.Inner.Occupancy.{bit_at, taken, run, listed, window, slot_mask, any_taken, take_run, Takes, TakenIfFree}
use Rattle.occupancy.proofs.BitLaws.{bit_or_at, bit_mask, mask_small, and_mask_none}
use Rattle.occupancy.proofs.WindowLaws.{window_low, window_high, window_bit, any_bits}

-- the range of a run: before it, in it, past it
module _ (p n x : ℕ) where
  range_before : x < p → (p ≤? x and x <? p + n) ≡ false
  range_before h = sym (and_no _ (no≤ h))

  range_in : p ≤ x → x < p + n → (p ≤? x and x <? p + n) ≡ true
  range_in h l = and_both (yes≤ h) (yes< l)

  range_past : p + n ≤ x → (p ≤? x and x <? p + n) ≡ false
  range_past h = and_no_right (p ≤? x) _ (no< h)

-- the places of a run are those of its range
pub listed_run : (n p x : ℕ) → listed x (run n p) ≡ (p ≤? x and x <? p + n)
unfolding listed run
listed_run zero p x = go (dec_lt x p)
  where
    go : Dec (x < p) → false ≡ (p ≤? x and x <? p + 0)
    go (yes h) = sym (range_before p 0 x h)
    go (no h) = sym (range_past p 0 x (omega arith))
listed_run (suc n) p x = ap (λ (t : Bool). x =? p or t) (listed_run n (p + 1) x) ∙ sym (go (dec_lt x p) (ℕ_discrete x p) (dec_lt x (p + suc n)))
  where
    go : Dec (x < p) → Dec (x ≡ p) → Dec (x < p + suc n) → (p ≤? x and x <? p + suc n) ≡ (x =? p or (p + 1 ≤? x and x <? p + 1 + n))
    go (yes h) q l =
        range_before p (suc n) x h
        ∙ or_on (no= (λ e. omega arith)) (sym (range_before (p + 1) n x (omega arith)))
    go (no h) (yes e) l = range_in p (suc n) x (omega arith) (omega arith) ∙ or_yes _ (yes= e)
    go (no h) (no e) (yes l) = range_in p (suc n) x (omega arith) l ∙ or_on (no= e) (sym (range_in (p + 1) n x (omega arith) (omega arith)))
    go (no h) (no e) (no l) = range_past p (suc n) x (omega arith) ∙ or_on (no= e) (sym (range_past (p + 1) n x (omega arith)))

-- a run further on, seen from further on
listed_shift : (k n b i : ℕ) → listed (k + i) (run n (k + b)) ≡ (b ≤? i and i <? b + n)
listed_shift k n b i = listed_run n (k + b) (k + i) ∙ go (dec_lt i b) (dec_lt i (b + n))
  where
    go : Dec (i < b) → Dec (i < b + n) → (k + b ≤? k + i and k + i <? k + b + n) ≡ (b ≤? i and i <? b + n)
    go (yes h) l = range_before (k + b) n (k + i) (omega arith) ∙ sym (range_before b n i h)
    go (no h) (yes l) = range_in (k + b) n (k + i) (omega arith) (omega arith) ∙ sym (range_in b n i (omega arith) l)
    go (no h) (no l) = range_past (k + b) n (k + i) (omega arith) ∙ sym (range_past b n i (omega arith))

-- two words stored in a row: the words stay small, the other words stay as they were, and the two make the window
set_small : (m : ℕ) (l : List ℕ) (i a : ℕ) → ((x : ℕ) → word l x < m) → a < m → (x : ℕ) → word (set l i a) x < m
set_small m [] i a h g x = h x
set_small m (y ∷ l) zero a h g zero = g
set_small m (y ∷ l) zero a h g (suc x) = h (suc x)
set_small m (y ∷ l) (suc i) a h g zero = h zero
set_small m (y ∷ l) (suc i) a h g (suc x) = set_small m l i a (λ k. h (suc k)) g x

module _ (l : List ℕ) (i a b : ℕ) where
  two_small : (m : ℕ) → ((x : ℕ) → word l x < m) → a < m → b < m → (x : ℕ) → word (set (set l i a) (i + 1) b) x < m
  two_small m h f g = set_small m (set l i a) (i + 1) b (set_small m l i a h f) g

  two_other : (k : ℕ) → (k ≡ i → ⊥) → (k ≡ i + 1 → ⊥) → word (set (set l i a) (i + 1) b) k ≡ word l k
  two_other k other_first other-second = get_or-set_other (set l i a) (i + 1) k b 0 other-second ∙ get_or-set_other l i k a 0 other_first

  two_window : i + 1 < length l → window (set (set l i a) (i + 1) b) i ≡ a + b * 2 ^ 32
  unfolding window
  two_window h =
      ap₂ (λ (x y : ℕ). x + y * 2 ^ 32)
      (get_or-set_other (set l i a) (i + 1) i b 0 (λ e. omega arith) ∙ get_or-set_same l i a 0 (omega arith))
      (get_or-set_same (set l i a) (i + 1) b 0 (omega (arith, length-set l i a)))

window_small : (table : List ℕ) (q : ℕ) → ((x : ℕ) → word table x < 2 ^ 32) → window table q < 2 ^ 64
unfolding window
window_small table q small = omega (arith, small q, small (q + 1))

-- the two words from q on written anew, with the ones of a mask besides theirs
abbrev pub take_mask : List ℕ → ℕ → ℕ → List ℕ
take_mask table q mask =
    set (set table q (bit_or (window table q) mask % 2 ^ 32)) (q + 1) (bit_or (window table q) mask / 2 ^ 32)

-- the second word is small
pub second_small : (table : List ℕ) (q mask : ℕ) → ((x : ℕ) → word table x < 2 ^ 32) → mask < 2 ^ 64 → bit_or (window table q) mask / 2 ^ 32 < 2 ^ 32
second_small table q mask small h = shr_lt 32 32 (or_lt 64 _ _ (window_small table q small) h)

module _ (table : List ℕ) (q bit size : ℕ) where
  abbrev both : ℕ
  both = bit_or (window table q) (slot_mask bit size)

  abbrev after : List ℕ
  after = take_mask table q (slot_mask bit size)

  -- a place out of the window is as it was
  taken_other : (x : ℕ) → (x / 32 ≡ q → ⊥) → (x / 32 ≡ q + 1 → ⊥) → taken after x ≡ taken table x
  unfolding taken
  taken_other x other_first other-second =
      ap (λ (w : ℕ). bit_at w (x % 32) =? 1) (two_other table q (both % 2 ^ 32) (both / 2 ^ 32) (x / 32) other_first other-second)

  -- the window after is the union of the window before and the mask
  window_after : q + 1 < length table → window after q ≡ both
  window_after fits = two_window table q (both % 2 ^ 32) (both / 2 ^ 32) fits ∙ mod-add-div' both (2 ^ 32)

  module _ (small : (x : ℕ) → word table x < 2 ^ 32) (wide : bit + size ≤ 64) where
    -- the words stay small
    words_small : (x : ℕ) → word after x < 2 ^ 32
    words_small = two_small table q (both % 2 ^ 32) (both / 2 ^ 32) (2 ^ 32) small (mod-lt both (pow_pos 32))
        (second_small table q (slot_mask bit size) small (mask_small bit size wide))

    module _ (fits : q + 1 < length table) where
      -- a place in the window is taken where the mask has its bit, or it was taken before
      taken_bit : (i : ℕ) → i < 64 → taken after (32 * q + i) ≡ (listed (32 * q + i) (run size (32 * q + bit)) or taken table (32 * q + i))
      taken_bit i h =
          window_bit after q (words_small q) i h
          ∙ ap (λ (v : ℕ). bit_at v i =? 1) (window_after fits ∙ or_comm (window table q) (slot_mask bit size))
          ∙ bit_or_at (slot_mask bit size) (window table q) i
          ∙ ap₂ ◌or◌ (bit_mask bit size i ∙ sym (listed_shift (32 * q) size bit i)) (sym (window_bit table q (small q) i h))

      taken_after : (x : ℕ) → taken after x ≡ (listed x (run size (32 * q + bit)) or taken table x)
      taken_after x = go (dec_lt x (32 * q)) (dec_lt x (32 * q + 64))
        where
          go : Dec (x < 32 * q) → Dec (x < 32 * q + 64) → taken after x ≡ (listed x (run size (32 * q + bit)) or taken table x)
          go (yes h) l =
              or_on (listed_run size (32 * q + bit) x ∙ range_before (32 * q + bit) size x (omega arith))
              (taken_other x (λ e. omega arith) (λ e. omega arith))
          go (no h) (no l) =
              or_on (listed_run size (32 * q + bit) x ∙ range_past (32 * q + bit) size x (omega arith))
              (taken_other x (λ e. omega arith) (λ e. omega arith))
          go (no h) (yes l) =
              let e : 32 * q + (x - 32 * q) ≡ x = omega arith in
              rw e at (taken_bit (x - 32 * q) (omega arith))

      -- the mask's places are taken besides those before
      pub takes_mask : Takes table after (run size (32 * q + bit))
      takes_mask = record { same_length = simp length-set; besides = taken_after }

-- the answers of taking a mask's places: one of them was taken, or none was
module _ (table : List ℕ) (q mask : ℕ) (small : (x : ℕ) → word table x < 2 ^ 32) {v : ℕ} (w : v ≡ window table q) where
  found : (bit size : ℕ) → mask ≡ slot_mask bit size → bit + size ≤ 64 → (bit_and v mask ≠? 0) ≡ any_taken table (run size (32 * q + bit))
  found bit size m wide =
      ap₂ (λ (x y : ℕ). bit_and x y ≠? 0) w m ∙ and_mask_none (window table q) bit size ∙ sym (any_bits table q (small q) size bit wide)

  pub mask_taken : (bit_and v mask ≡ 0 → ⊥) → TakenIfFree table table q mask false
  mask_taken ne = record {
    same_length = refl;
    free = λ bit size m wide. ap not (sym (yes≠ ne) ∙ found bit size m wide);
    now_taken = λ bit size m wide e. absurd (false≢true e);
  }

  pub mask_free : q + 1 < length table → bit_and v mask ≡ 0 → (after : List ℕ) → after ≡ take_mask table q mask → TakenIfFree table after q mask true
  mask_free fits none after e = record {
    same_length = ap length e ∙ simp length-set;
    free = λ bit size m wide. ap not (sym (no≠ none) ∙ found bit size m wide);
    now_taken = λ bit size m wide t.
        subst (λ (x : List ℕ). Takes table x (run size (32 * q + bit))) (sym (e ∙ ap (take_mask table q) m))
        (takes_mask table q bit size small wide fits);
  }

-- a run of no places changes nothing
take_none : (table : List ℕ) (place : ℕ) → word table (place / 32) < 2 ^ 32 → take_run table place 0 ≡ table
unfolding take_run slot_mask
take_none table place small =
    let q = place / 32 in
    let same : bit_or (window table q) (slot_mask (place % 32) 0) ≡ window table q =
    ap (bit_or (window table q)) (zero-mul (2 ^ (place % 32))) ∙ or_zero_r (window table q) in
    ap (λ (w : ℕ). set (set table q (w % 2 ^ 32)) (q + 1) (w / 2 ^ 32)) same
    ∙ ap₂ (λ (a b : ℕ). set (set table q a) (q + 1) b) (window_low table q small) (window_high table q small)
    ∙ ap (λ (l : List ℕ). set l (q + 1) (word table (q + 1))) (set-get_or table q 0)
    ∙ set-get_or table (q + 1) 0

run_by_mask : (table : List ℕ) (place size : ℕ) → ((x : ℕ) → word table x < 2 ^ 32) → place / 32 + 1 < length table → place % 32 + size ≤ 64
    → Takes table (take_run table place size) (run size (32 * (place / 32) + place % 32))
unfolding take_run
run_by_mask table place size small fits wide = takes_mask table (place / 32) (place % 32) size small wide fits

-- the places of a run are taken besides those before
pub takes_run : (table : List ℕ) (place size : ℕ) → ((x : ℕ) → word table x < 2 ^ 32) → size ≤ 16
    → place + size + 32 ≤ 32 * length table → Takes table (take_run table place size) (run size place)
unfolding run listed ◌or◌
takes_run table place zero small few fits = rw (take_none table place (small (place / 32))) (record { same_length = refl; besides = λ x. refl })
takes_run table place (suc n) small few fits =
    let e : 32 * (place / 32) + place % 32 ≡ place = omega arith in
    subst (λ (p : ℕ). Takes table (take_run table place (suc n)) (run (suc n) p)) e
    (run_by_mask table place (suc n) small (omega arith) (omega arith))

-- a table of words 0: in it no place is taken
pub none_small : (n x : ℕ) → word (replicate n 0) x < 2 ^ 32
none_small n x = omega (arith, word_zeros n x)

pub none_taken : (n x : ℕ) → taken (replicate n 0) x ≡ false
unfolding taken bit_at
none_taken n x =
    ap (λ (w : ℕ). w / 2 ^ (x % 32) % 2 =? 1) (word_zeros n (x / 32))
    ∙ ap (λ (w : ℕ). w % 2 =? 1) (zero-div (2 ^ (x % 32)))
    ∙ no= (λ e. omega arith)

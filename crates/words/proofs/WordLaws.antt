-- The laws of the folds over words: one for 'one more', bounds, and what stands at a place.
-- Assumes nothing.
use mathlib.Core.Path.{◌≡◌, refl, sym, ap, ap₂, ◌∙◌}
use mathlib.Core.Bool.{Bool, true, false, false≢true}
use mathlib.Core.List.{List, [], ◌∷◌, ◌++◌}
use Prim.Native.Nat.{ℕ, suc, zero, ◌+◌, ◌-◌, ◌*◌, ◌≤◌, ◌<◌}
use native.Mathlib.Numerals.{add-one}
use native.Mathlib.Nat.{not-suc-le-zero, add-zero, zero-add, le_refl, mul-le-mul}
use native.Mathlib.Omega.{arith}
use native.Mathlib.Decide.{ℕ_discrete, dec_lt}
use lib.ListN.{length, get_or, take, set, replicate, length-append, length-set, length-replicate, get_or-append}
use lib.Seq.{get_or_at, ext_get_or, length-take-le, get_or-take, get_or-set_other, get_or-set_same}
use Rattle.words.specs.Words.{word, pick, tab, last_of, count_of, least_from}
use Rattle.words.specs.Inner.Puts.{put_all}

pub last_of_more : (test : ℕ → Bool) (n : ℕ) → last_of (n + 1) test ≡ pick (test n) (n + 1) (last_of n test)
unfolding last_of
last_of_more test n = rw add-one

pub last_of_le : (test : ℕ → Bool) (n : ℕ) → last_of n test ≤ n
unfolding last_of
last_of_le test zero = omega arith
last_of_le test (suc n) = go (test n) (last_of_le test n)
  where
    go : (b : Bool) → last_of n test ≤ n → pick b (suc n) (last_of n test) ≤ suc n
    go true h = omega arith
    go false h = omega arith

pub count_of_more : (test : ℕ → Bool) (n : ℕ) → count_of (n + 1) test ≡ pick (test n) (count_of n test + 1) (count_of n test)
unfolding count_of
count_of_more test n = rw (add-one n, add-one (count_of n test))

pub count_of_le : (test : ℕ → Bool) (n : ℕ) → count_of n test ≤ n
unfolding count_of
count_of_le test zero = omega arith
count_of_le test (suc n) = go (test n) (count_of_le test n)
  where
    go : (b : Bool) → count_of n test ≤ n → pick b (suc (count_of n test)) (count_of n test) ≤ suc n
    go true h = omega arith
    go false h = omega arith

-- where some number passes, the last one does
pub last_of_passes : (test : ℕ → Bool) (n : ℕ) → (last_of n test ≡ 0 → ⊥) → test (last_of n test - 1) ≡ true
unfolding last_of
last_of_passes test zero h = absurd (h refl)
last_of_passes test (suc n) h = go (test n) refl h (last_of_passes test n)
  where
    go : (b : Bool) → test n ≡ b → (pick b (suc n) (last_of n test) ≡ 0 → ⊥) → ((last_of n test ≡ 0 → ⊥) → test (last_of n test - 1) ≡ true)
        → test (pick b (suc n) (last_of n test) - 1) ≡ true
    go true e ne r = ap test (let z : suc n - 1 ≡ n = omega arith in z) ∙ e
    go false e ne r = r ne

-- a test that passes at no place, one that passes at a place and at none behind it, and two that agree
pub last_of_none : (n : ℕ) (test : ℕ → Bool) → ((k : ℕ) → k < n → test k ≡ false) → last_of n test ≡ 0
unfolding last_of
last_of_none zero test h = refl
last_of_none (suc n) test h = rw (h n (omega arith)) (last_of_none n test (λ k l. h k (omega arith)))

pub last_of_at : (n : ℕ) (test : ℕ → Bool) (k : ℕ) → k < n → test k ≡ true → ((j : ℕ) → k < j → j < n → test j ≡ false)
    → last_of n test ≡ suc k
unfolding last_of
last_of_at zero test k l e h = absurd (not-suc-le-zero l)
last_of_at (suc n) test k l e h = go (ℕ_discrete k n) (last_of_at n test k)
  where
    go : Dec (k ≡ n) → (k < n → test k ≡ true → ((j : ℕ) → k < j → j < n → test j ≡ false) → last_of n test ≡ suc k)
        → pick (test n) (suc n) (last_of n test) ≡ suc k
    go (yes q) r = rw (ap test (sym q) ∙ e) (ap suc (sym q))
    go (no ne) r = rw (h n (omega (arith, ne)) (omega arith)) (r (omega (arith, ne)) e (λ j a b. h j a (omega arith)))

pub last_of_same : (n : ℕ) (p q : ℕ → Bool) → ((k : ℕ) → k < n → p k ≡ q k) → last_of n p ≡ last_of n q
unfolding last_of
last_of_same zero p q h = refl
last_of_same (suc n) p q h = ap₂ (λ b k. pick b (suc n) k) (h n (omega arith)) (last_of_same n p q (λ k l. h k (omega arith)))

-- two tests that agree at each number below n
pub count_of_same : (n : ℕ) (p q : ℕ → Bool) → ((k : ℕ) → k < n → p k ≡ q k) → count_of n p ≡ count_of n q
unfolding count_of
count_of_same zero p q h = refl
count_of_same (suc n) p q h = ap₂ (λ b k. pick b (suc k) k) (h n (omega arith)) (count_of_same n p q (λ k l. h k (omega arith)))

-- a test that passes at no place, and one that passes at no two places
pub count_of_none : (n : ℕ) (test : ℕ → Bool) → ((i : ℕ) → i < n → test i ≡ false) → count_of n test ≡ 0
unfolding count_of
count_of_none zero test h = refl
count_of_none (suc n) test h = rw (h n (omega arith)) (count_of_none n test (λ i l. h i (omega arith)))

pub count_of_one : (n : ℕ) (test : ℕ → Bool)
    → ((i m : ℕ) → i < n → m < n → test i ≡ true → test m ≡ true → i ≡ m) → count_of n test ≤ 1
unfolding count_of
count_of_one zero test h = omega arith
count_of_one (suc n) test h = go (test n) refl (count_of_one n test (λ i m il ml. h i m (omega arith) (omega arith)))
  where
    other : test n ≡ true → (i : ℕ) → i < n → (b : Bool) → test i ≡ b → b ≡ false
    other e i l true q = absurd (omega (arith, h i n (omega arith) (omega arith) q e))
    other e i l false q = refl

    go : (b : Bool) → test n ≡ b → count_of n test ≤ 1 → pick b (suc (count_of n test)) (count_of n test) ≤ 1
    go true e before = omega (arith, count_of_none n test (λ i l. other e i l (test i) refl))
    go false e before = before

pub length_tab : (n : ℕ) (f : ℕ → ℕ) → length (tab n f) ≡ n
unfolding tab
length_tab zero f = refl
length_tab (suc n) f = simp (length-append, length_tab n f) (omega arith)

pub tab_at : (n : ℕ) (f : ℕ → ℕ) (k : ℕ) → k < n → get_or (tab n f) k 0 ≡ f k
unfolding tab
tab_at zero f k h = absurd (let z : ⊥ = omega arith in z)
tab_at (suc n) f k h = go (dec_lt k n) (tab_at n f k)
  where
    go : Dec (k < n) → (k < n → get_or (tab n f) k 0 ≡ f k) → get_or (tab n f ++ (f n ∷ [])) k 0 ≡ f k
    go (yes l) r = get_or-append (tab n f) (f n ∷ []) 0 k (rw length_tab l) ∙ r l
    go (no g) r =
        let e : k ≡ n = omega arith in
        rw e (get_or_at (tab n f) (f n) [] 0 n (length_tab n f))

-- a list that agrees with f at each place is the table of f
pub tab_is : (l : List ℕ) (n : ℕ) (f : ℕ → ℕ) → length l ≡ n → ((k : ℕ) → k < n → get_or l k 0 ≡ f k) → l ≡ tab n f
tab_is l n f e h =
    ext_get_or 0 l (tab n f) (e ∙ sym (length_tab n f))
    (λ k g. let g' : k < n = omega arith in h k g' ∙ sym (tab_at n f k g'))

-- a turn of the loop that fills l with the values of f
pub fill_more : (l : List ℕ) (k v : ℕ) (f : ℕ → ℕ) → k < length l → ((j : ℕ) → j < k → get_or l j 0 ≡ f j) → v ≡ f k
    → (j : ℕ) → j < k + 1 → get_or (set l k v) j 0 ≡ f j
fill_more l k v f h old new j g = go (dec_lt j k)
  where
    go : Dec (j < k) → get_or (set l k v) j 0 ≡ f j
    go (yes b) = get_or-set_other l k j v 0 (λ e. let z : ⊥ = omega (arith, e) in z) ∙ old j b
    go (no b) =
        let e : j ≡ k = omega arith in
        rw e (get_or-set_same l k v 0 h ∙ new)

-- words put in leave a list as long as it was
pub length_put_all : (s xs : List ℕ) (at : ℕ) → length (put_all s at xs) ≡ length s
unfolding put_all
length_put_all s [] at = refl
length_put_all s (x ∷ xs) at = length_put_all (set s at x) xs (at + 1) ∙ length-set s at x

-- they change nothing before their place
pub put_all_before : (s xs : List ℕ) (at : ℕ) (j : ℕ) → j < at → get_or (put_all s at xs) j 0 ≡ get_or s j 0
unfolding put_all
put_all_before s [] at j h = refl
put_all_before s (x ∷ xs) at j h =
    put_all_before (set s at x) xs (at + 1) j (omega arith)
    ∙ get_or-set_other s at j x 0 (λ e. let z : ⊥ = omega (arith, e) in z)

-- and at their place they stand, where they fit
pub put_all_at : (s xs : List ℕ) (at : ℕ) → at + length xs ≤ length s → (i : ℕ) → i < length xs
    → get_or (put_all s at xs) (at + i) 0 ≡ get_or xs i 0
unfolding put_all
put_all_at s [] at h i l = absurd (not-suc-le-zero l)
put_all_at s (x ∷ xs) at h zero l =
    rw add-zero (put_all_before (set s at x) xs (at + 1) at (omega arith) ∙ get_or-set_same s at x 0 (omega arith))
put_all_at s (x ∷ xs) at h (suc i) l =
    let e : at + suc i ≡ at + 1 + i = omega arith in
    rw e (put_all_at (set s at x) xs (at + 1) (omega (arith, length-set s at x)) i (omega arith))

-- one list behind another
pub put_all_append : (s xs ys : List ℕ) (at : ℕ) → put_all s at (xs ++ ys) ≡ put_all (put_all s at xs) (at + length xs) ys
unfolding put_all
put_all_append s [] ys at = rw add-zero refl
put_all_append s (x ∷ xs) ys at =
    let e : at + 1 + length xs ≡ at + suc (length xs) = omega arith in
    put_all_append (set s at x) xs ys (at + 1) ∙ ap (λ k. put_all (put_all (set s at x) (at + 1) xs) k ys) e

-- and one word behind a list
pub put_all_one : (s xs : List ℕ) (at x k : ℕ) → k ≡ at + length xs → set (put_all s at xs) k x ≡ put_all s at (xs ++ (x ∷ []))
unfolding put_all
put_all_one s xs at x k e = ap (λ j. set (put_all s at xs) j x) e ∙ sym (put_all_append s xs (x ∷ []) at)

-- a list that fits from the front on is what the words then begin with
pub put_all_front : (s xs : List ℕ) → length xs ≤ length s → take (length xs) (put_all s 0 xs) ≡ xs
put_all_front s xs l =
    let long : length xs ≤ length (put_all s 0 xs) = omega (arith, length_put_all s xs 0) in
    let same : length (take (length xs) (put_all s 0 xs)) ≡ length xs = length-take-le (length xs) (put_all s 0 xs) long in
    ext_get_or 0 (take (length xs) (put_all s 0 xs)) xs same
    (λ k h.
    let inside : k < length xs = omega arith in
    get_or-take (length xs) (put_all s 0 xs) k 0 inside
    ∙ ap (λ j. get_or (put_all s 0 xs) j 0) (sym (zero-add k))
    ∙ put_all_at s xs 0 (omega arith) k inside)

-- a list put in behind another: the two are one list
pub put_all_behind : (s x y : List ℕ) (a b : ℕ) {t u : List ℕ}
    → t ≡ put_all s a x
    → b ≡ a + length x
    → u ≡ put_all t b y
    → u ≡ put_all s a (x ++ y)
put_all_behind s x y a b e f g =
    g
    ∙ ap (λ (r : List ℕ). put_all r b y) e
    ∙ ap (λ k. put_all (put_all s a x) k y) f
    ∙ sym (put_all_append s x y a)

-- the least number is among those that were tried, or just past them
pub least_from_most : (test : ℕ → Bool) (n k : ℕ) → least_from n k test ≤ k + n
unfolding least_from
least_from_most test zero k = omega arith
least_from_most test (suc n) k = go (test k) refl (least_from_most test n (k + 1))
  where
    go : (b : Bool) → test k ≡ b → least_from n (k + 1) test ≤ k + 1 + n → least_from (suc n) k test ≤ k + suc n
    go true e h = rw (e, least_from) (omega arith)
    go false e h = rw (e, least_from) (omega arith)

-- and no number that passes the test is less
pub least_from_least : (test : ℕ → Bool) (n k m : ℕ) → k ≤ m → m < k + n → test m ≡ true → least_from n k test ≤ m
unfolding least_from
least_from_least test zero k m a b e = absurd (let z : ⊥ = omega arith in z)
least_from_least test (suc n) k m a b e = go (test k) refl (least_from_least test n (k + 1) m)
  where
    go : (t : Bool) → test k ≡ t → (k + 1 ≤ m → m < k + 1 + n → test m ≡ true → least_from n (k + 1) test ≤ m) → least_from (suc n) k test ≤ m
    go true q r = rw (q, least_from) a
    go false q r =
        let other : k ≡ m → ⊥ = λ p. false≢true (sym q ∙ ap test p ∙ e) in
        rw (q, least_from) (r (omega (arith, other)) (omega arith) e)

-- the least number, from the test
pub least_from_is : (test : ℕ → Bool) (n k r : ℕ) → k ≤ r → r < k + n → test r ≡ true → ((j : ℕ) → k ≤ j → j < r → test j ≡ false)
    → least_from n k test ≡ r
unfolding least_from
least_from_is test zero k r a b e f = absurd (let z : ⊥ = omega arith in z)
least_from_is test (suc n) k r a b e f = go (test k) refl (least_from_is test n (k + 1) r)
  where
    go : (t : Bool) → test k ≡ t
        → (k + 1 ≤ r → r < k + 1 + n → test r ≡ true → ((j : ℕ) → k + 1 ≤ j → j < r → test j ≡ false) → least_from n (k + 1) test ≡ r)
        → least_from (suc n) k test ≡ r
    go true q rest = rw (q, least_from) (here (ℕ_discrete k r))
      where
        here : Dec (k ≡ r) → k ≡ r
        here (yes p) = p
        here (no p) = absurd (false≢true (sym (f k (omega arith) (omega arith)) ∙ q))
    go false q rest =
        let other : k ≡ r → ⊥ = λ p. false≢true (sym q ∙ ap test p ∙ e) in
        rw (q, least_from) (rest (omega (arith, other)) (omega arith) e (λ j c d. f j (omega arith) d))

-- it is past all that were tried where none of them passes
pub least_from_none : (test : ℕ → Bool) (n k : ℕ) → ((j : ℕ) → k ≤ j → j < k + n → test j ≡ false) → least_from n k test ≡ k + n
unfolding least_from
least_from_none test zero k f = sym (add-zero k)
least_from_none test (suc n) k f =
    let here : test k ≡ false = f k (omega arith) (omega arith) in
    let next : k + 1 + n ≡ k + suc n = omega arith in
    rw (here, least_from) (least_from_none test n (k + 1) (λ j a b. f j (omega arith) (omega arith)) ∙ next)

-- what it is, said in one: it passes unless it is past them all, and none before it does
pub least_from_by : (test : ℕ → Bool) (n k r : ℕ) → k ≤ r → r ≤ k + n → (r < k + n → test r ≡ true)
    → ((j : ℕ) → k ≤ j → j < r → test j ≡ false) → least_from n k test ≡ r
least_from_by test n k r a b e f = go (dec_lt r (k + n))
  where
    go : Dec (r < k + n) → least_from n k test ≡ r
    go (yes l) = least_from_is test n k r a l (e l) f
    go (no g) =
        let past : k + n ≡ r = omega (arith, g) in
        least_from_none test n k (λ j c d. f j c (omega arith)) ∙ past

-- and back: it passes, and none before it does
pub least_from_passes : (test : ℕ → Bool) (n k : ℕ) → least_from n k test < k + n → test (least_from n k test) ≡ true
unfolding least_from
least_from_passes test zero k l = absurd (let z : ⊥ = omega arith in z)
least_from_passes test (suc n) k l = go (test k) refl (least_from_passes test n (k + 1)) l
  where
    go : (b : Bool) → test k ≡ b → (least_from n (k + 1) test < k + 1 + n → test (least_from n (k + 1) test) ≡ true)
        → elim b [ true ↦ k | false ↦ least_from n (k + 1) test ] < k + suc n
        → test (elim b [ true ↦ k | false ↦ least_from n (k + 1) test ]) ≡ true
    go true q r h = q
    go false q r h = r (omega arith)

pub least_from_before : (test : ℕ → Bool) (n k j : ℕ) → k ≤ j → j < least_from n k test → test j ≡ false
least_from_before test n k j a l = go (test j) refl
  where
    go : (b : Bool) → test j ≡ b → b ≡ false
    go true e = absurd (omega (arith, least_from_least test n k j a (omega (arith, least_from_most test n k)) e))
    go false e = refl

-- and never before the first
pub least_from_low : (test : ℕ → Bool) (n k : ℕ) → k ≤ least_from n k test
unfolding least_from
least_from_low test zero k = omega arith
least_from_low test (suc n) k = go (test k) (least_from_low test n (k + 1))
  where
    go : (t : Bool) → k + 1 ≤ least_from n (k + 1) test → k ≤ elim t [ true ↦ k | false ↦ least_from n (k + 1) test ]
    go true h = omega arith
    go false h = omega arith

-- words of a new array
pub word_zeros : (n k : ℕ) → word (replicate n 0) k ≡ 0
word_zeros zero k = refl
word_zeros (suc n) zero = refl
word_zeros (suc n) (suc k) = word_zeros n k

pub length_zeros : (n m : ℕ) → n ≤ m → length {A = ℕ} (take n (replicate m 0)) ≡ n
length_zeros n m h = length-take-le n (replicate m 0) (omega (arith, length-replicate {A = ℕ} m 0))

-- a product of two words fits in 64 bits, and so does a word more
pub product_small : (a b : ℕ) → a < 4294967296 → b < 4294967296 → a * b ≤ 18446744065119617025
product_small a b la lb = mul-le-mul {n₁ = a} {m₁ = b} {n₂ = 4294967295} {m₂ = 4294967295} (omega arith) (omega arith)

-- places in rows of one length: row and place within the row decide
pub row_and_place : (size a b c d : ℕ) → c < size → d < size → a * size + c ≡ b * size + d → (a ≡ b) × (c ≡ d)
row_and_place size a b c d p q e = go (dec_lt a b) (dec_lt b a)
  where
    go : Dec (a < b) → Dec (b < a) → (a ≡ b) × (c ≡ d)
    go (yes l) r = let m : suc a * size ≤ b * size = mul-le-mul l (le_refl size) in absurd (omega arith)
    go (no n) (yes l) = let m : suc b * size ≤ a * size = mul-le-mul l (le_refl size) in absurd (omega arith)
    go (no n) (no k) =
        let same : a ≡ b = omega (arith, n, k) in
        (same, omega (arith, ap (λ (t : ℕ). t * size) same))

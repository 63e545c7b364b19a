-- The digits that std writes of a word are the fewest that hold it.
use Rattle.std.proofs.Common.{◌≡◌, ℕ, suc, ◌+◌, ◌-◌, ◌/◌, ◌%◌, ◌^◌, ◌≤◌, ◌<◌, List, [], ◌∷◌, ◌++◌, length, sym, ap, subst, ◌∙◌, arith, add-one, length-append}
use Rattle.std.specs.Fmt.{decimal}
use Rattle.std.proofs.lemmas.Fmt.{decimal_by_steps}
use native.Mathlib.Nat.{pow-suc, pow-le-pow_right}
use native.Mathlib.Decide.{dec_le}
use Rattle.words.specs.Tests.{◌<?◌}
use Rattle.words.proofs.TestLaws.{yes<, no<}
use Rattle.words.proofs.WordLaws.{least_from_is}
use Rattle.listing.specs.Text.{digit_count, last_digits}

-- a power of ten with a larger exponent is no less
tens : (i j : ℕ) → i ≤ j → 10 ^ i ≤ 10 ^ j
tens i j l = pow-le-pow_right {n = 10} (omega arith) {i = i} {j = j} l

-- a word takes at most ten digits
at_most_ten : (n k : ℕ) → n < 4294967296 → (1 < k → 10 ^ (k - 1) ≤ n) → k ≤ 10
at_most_ten n k l f = go (dec_le k 10)
  where
    go : Dec (k ≤ 10) → k ≤ 10
    go (yes p) = p
    go (no p) =
        let more : 10 ^ 10 ≤ 10 ^ (k - 1) = tens 10 (k - 1) (omega arith) in
        let least : 10 ^ (k - 1) ≤ n = f (omega arith) in
        absurd (omega arith)

-- the digits that are counted are the fewest
count_is : (n k : ℕ) → n < 4294967296 → 0 < k → n < 10 ^ k → (1 < k → 10 ^ (k - 1) ≤ n) → k ≡ digit_count n
unfolding digit_count
count_is n k l some holds f =
    sym (least_from_is (λ j. n <? 10 ^ j) 10 1 k some (omega (arith, at_most_ten n k l f)) (yes< holds)
    (λ j a b.
    let step : 10 ^ j ≤ 10 ^ (k - 1) = tens j (k - 1) (omega arith) in
    let least : 10 ^ (k - 1) ≤ n = f (omega arith) in
    no< (omega arith)))

-- std's digits of a word are the last of it, and the fewest
record Digits (n : ℕ) (ds : List ℕ) : Type 0 where
  last : ds ≡ last_digits (length ds) n
  some : 0 < length ds
  holds : n < 10 ^ length ds
  fewest : 1 < length ds → 10 ^ (length ds - 1) ≤ n

digits_one : (n : ℕ) → n < 10 → Digits n ((48 + n) ∷ [])
unfolding last_digits
digits_one n l =
    let e : n ≡ n % 10 = omega arith in
    record { last = ap (λ m. (48 + m) ∷ []) e; some = omega arith; holds = omega arith; fewest = λ h. absurd (let z : ⊥ = omega arith in z) }

tens_more : (n k : ℕ) → 10 ≤ n → 0 < k → (1 < k → 10 ^ (k - 1) ≤ n / 10) → 10 ^ k ≤ n
tens_more n k l some f = go (dec_le k 1)
  where
    go : Dec (k ≤ 1) → 10 ^ k ≤ n
    go (yes one) =
        let e : 1 ≡ k = omega arith in
        subst (λ j. 10 ^ j ≤ n) e l
    go (no more) =
        let e : suc (k - 1) ≡ k = omega arith in
        subst (λ j. 10 ^ j ≤ n) e (omega (arith, pow-suc 10 (k - 1), f (omega arith)))

digits_more : (n : ℕ) (ds : List ℕ) → 10 ≤ n → Digits (n / 10) ds → Digits n (ds ++ ((48 + n % 10) ∷ []))
unfolding last_digits
digits_more n ds l d =
    let k = length ds in
    let long : length (ds ++ ((48 + n % 10) ∷ [])) ≡ suc k = length-append ds ((48 + n % 10) ∷ []) ∙ add-one k in
    let back : suc k - 1 ≡ k = omega arith in
    record {
      last = sym (ap (λ m. last_digits m n) long ∙ ap (λ (x : List ℕ). x ++ ((48 + n % 10) ∷ [])) (sym d.last));
      some = omega (arith, long);
      holds = subst (λ m. n < 10 ^ m) (sym long) (omega (arith, pow-suc 10 k, d.holds));
      fewest = λ h. subst (λ m. 10 ^ (m - 1) ≤ n) (sym long) (subst (λ m. 10 ^ m ≤ n) (sym back) (tens_more n k l d.some d.fewest));
    }

-- a word in decimal, as std has it
pub decimal_is : (n : ℕ) → n < 4294967296 → decimal n ≡ last_digits (digit_count n) n
decimal_is n l =
    let d : Digits n (decimal n) = decimal_by_steps Digits digits_one digits_more n (omega arith) in
    d.last ∙ ap (λ k. last_digits k n) (count_is n (length (decimal n)) l d.some d.holds d.fewest)

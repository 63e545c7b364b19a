-- Texts put into a buffer one behind the other, how long a field is, and its bytes from its digits.
-- Assumes nothing.
use Rattle.std.proofs.Common.{◌≡◌, ℕ, zero, suc, ◌+◌, ◌-◌, ◌^◌, ◌≤◌, ◌<◌, List, [], ◌∷◌, ◌++◌, length, take, drop, set, refl, sym, ap, ◌∙◌, arith, add-zero, append_assoc, length-append, length-set}
use Rattle.std.specs.Fmt.{decimal}
use Rattle.std.proofs.lemmas.List.{take-append-drop, take_more_set, drop-set-lt, drop-drop}
use Rattle.std.proofs.Math.Seq.{take-append_seam}
use borrow.Rule.Slice.PartMut.{put_mid}
use Rattle.words.specs.Tests.{◌<?◌}
use Rattle.words.specs.Inner.Puts.{put_all}
use Rattle.words.proofs.WordLaws.{least_from_most, put_all_one, put_all_behind}
use Rattle.listing.proofs.DigitLaws.{decimal_is}
use Rattle.listing.specs.Text.{digit_count, last_digits, field, landing_line, space, line_end, refused}

-- a list put in where it fits: what stood before it and behind it stays
put_all_is : (s xs : List ℕ) (at : ℕ) → at + length xs ≤ length s → put_all s at xs ≡ take at s ++ (xs ++ drop (at + length xs) s)
unfolding put_all
put_all_is s [] at h = sym (ap (λ k. take at s ++ drop k s) (add-zero at) ∙ take-append-drop at s)
put_all_is s (x ∷ xs) at h =
    let room : at < length s = omega arith in
    let e : at + 1 + length xs ≡ at + suc (length xs) = omega arith in
    put_all_is (set s at x) xs (at + 1) (omega (arith, length-set s at x))
    ∙ ap (λ (f : List ℕ). f ++ (xs ++ drop (at + 1 + length xs) (set s at x))) (take_more_set s at x room)
    ∙ append_assoc (take at s) (x ∷ []) (xs ++ drop (at + 1 + length xs) (set s at x))
    ∙ ap (λ (d : List ℕ). take at s ++ (x ∷ xs ++ d)) (drop-set-lt (at + 1 + length xs) s at x (omega arith))
    ∙ ap (λ k. take at s ++ (x ∷ xs ++ drop k s)) e

-- a field takes at most twelve bytes
length_digits : (k n : ℕ) → length (last_digits k n) ≡ k
unfolding last_digits
length_digits zero n = refl
length_digits (suc k) n = simp (length-append, length_digits k) (omega arith)

pub field_length : (n end : ℕ) → length (field n end) ≡ digit_count n + 1
unfolding field
field_length n end = simp (length-append, length_digits (digit_count n) n) refl

pub field_short : (n end : ℕ) → length (field n end) ≤ 12
unfolding digit_count
field_short n end = omega (arith, field_length n end, least_from_most (λ k. n <? 10 ^ k) 10 1)

-- a field, from what std says of a word in decimal
module _ (n end : ℕ) (w : n < 4294967296) (text : List ℕ) (e : text ≡ decimal n) where
  field_is : text ++ (end ∷ []) ≡ field n end
  unfolding field
  field_is = ap (λ (x : List ℕ). x ++ (end ∷ [])) (e ∙ decimal_is n w)

  pub field_place : (at : ℕ) → at + length text + 1 ≡ at + length (field n end)
  field_place at = omega (arith, ap length field_is, length-append text (end ∷ []))

  -- a field whose digits are the last that were written there: what was put there before them does not count
  pub field_bytes : (s t digits : List ℕ) (at : ℕ) → at + length text ≤ length s
      → digits ≡ text
      → take at t ≡ take at s
      → drop (at + length text) t ≡ drop (at + length text) s
      → set (put_mid at (at + length text - at) t digits) (at + length text) end ≡ put_all s at (field n end)
  field_bytes s t digits at h last before behind =
      let same : at + length text - at ≡ length text = omega arith in
      ap (λ k. set (put_mid at k t digits) (at + length text) end) same
      ∙ ap (λ (b : List ℕ). set (take at t ++ (digits ++ b)) (at + length text) end) (drop-drop (length text) at t ∙ behind)
      ∙ ap (λ (b : List ℕ). set (take at t ++ (b ++ drop (at + length text) s)) (at + length text) end) last
      ∙ ap (λ (b : List ℕ). set (b ++ (text ++ drop (at + length text) s)) (at + length text) end) before
      ∙ ap (λ (b : List ℕ). set b (at + length text) end) (sym (put_all_is s text at h))
      ∙ put_all_one s text at end (at + length text) refl
      ∙ ap (put_all s at) field_is

-- `refused ` at the start of a text, and a number put behind it
pub refused_put : (n : ℕ) {number : ℕ} → number ≡ n → (front rest : List ℕ) (count : ℕ) {after : List ℕ}
    → front ≡ refused
    → 20 ≤ length (front ++ rest)
    → count ≡ 8 + length (field number line_end)
    → after ≡ put_all (front ++ rest) 8 (field number line_end)
    → take count after ≡ refused ++ field n line_end
unfolding refused
refused_put n {number} e front rest count same room place bytes =
    let f : List ℕ = field number line_end in
    let s : List ℕ = refused ++ rest in
    let begun : front ++ rest ≡ s = ap (λ (x : List ℕ). x ++ rest) same in
    let fits : 8 + length f ≤ length s = omega (arith, room, ap length begun, field_short number line_end) in
    let long : length (refused ++ f) ≡ count = length-append refused f ∙ sym place in
    ap (take count) (bytes ∙ ap (λ (x : List ℕ). put_all x 8 f) begun ∙ put_all_is s f 8 fits ∙ sym (append_assoc refused f (drop (8 + length f) s)))
    ∙ ap (λ k. take k ((refused ++ f) ++ drop (8 + length f) s)) (sym long)
    ∙ take-append_seam (refused ++ f) (drop (8 + length f) s)
    ∙ ap (λ k. refused ++ field k line_end) e

-- a landing's line is as long as its fields, at most sixty bytes
line_length : (cycle node address payload kind : ℕ)
    → length (landing_line cycle node address payload kind)
    ≡ length (field cycle space) + (length (field node space) + (length (field address space) + (length (field payload space) + length (field kind line_end))))
unfolding landing_line
line_length cycle node address payload kind =
    omega (
      arith,
      length-append (field cycle space) (field node space ++ (field address space ++ (field payload space ++ field kind line_end))),
      length-append (field node space) (field address space ++ (field payload space ++ field kind line_end)),
      length-append (field address space) (field payload space ++ field kind line_end),
      length-append (field payload space) (field kind line_end),
    )

pub line_short : (cycle node address payload kind : ℕ) → length (landing_line cycle node address payload kind) ≤ 60
line_short cycle node address payload kind =
    omega (
      arith,
      line_length cycle node address payload kind,
      field_short cycle space,
      field_short node space,
      field_short address space,
      field_short payload space,
      field_short kind line_end,
    )

-- a line, field by field
module _ (at cycle node address payload kind : ℕ) {a b c d : ℕ}
    (p : a ≡ at + length (field cycle space))
    (q : b ≡ a + length (field node space))
    (r : c ≡ b + length (field address space))
    (s : d ≡ c + length (field payload space)) where
  pub line_place : {e : ℕ} → e ≡ d + length (field kind line_end) → e ≡ at + length (landing_line cycle node address payload kind)
  line_place t = omega (arith, t, line_length cycle node address payload kind)

  pub line_bytes : (start : List ℕ) {u v w x y : List ℕ}
      → u ≡ put_all start at (field cycle space)
      → v ≡ put_all u a (field node space)
      → w ≡ put_all v b (field address space)
      → x ≡ put_all w c (field payload space)
      → y ≡ put_all x d (field kind line_end)
      → y ≡ put_all start at (landing_line cycle node address payload kind)
  unfolding landing_line
  line_bytes start f g h i j =
      put_all_behind _ _ _ _ _ f p (put_all_behind _ _ _ _ _ g q (put_all_behind _ _ _ _ _ h r (put_all_behind _ _ _ _ _ i s j)))

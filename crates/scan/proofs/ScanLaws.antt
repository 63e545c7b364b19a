-- Where something is, looked for in all registers: the loops that gather masks, and that the masks cover the state.
-- Assumes nothing.
use Prim.Native.Nat.{ℕ, ◌+◌, ◌*◌, ◌/◌, ◌%◌, ◌^◌, ◌<◌, ◌≤◌}
use mathlib.Core.Bool.{true}
use mathlib.Core.List.{List}
use mathlib.Core.Path.{◌≡◌, sym, ◌∙◌, ap}
use native.Mathlib.Omega.{arith}
use native.Mathlib.Decide.{ℕ_discrete, dec_lt}
use lib.Bits.{bit_or}
use lib.Dec.{ltb, ltb→lt}
use lib.ListN.{length, set, length-set}
use lib.Seq.{get_or-set_other, get_or-set_same}
use Rattle.words.specs.Tests.{◌=?◌}
use Rattle.words.specs.Words.{word}
use Rattle.words.proofs.TestLaws.{yes=}
use Rattle.words.proofs.Below.{every_at}
use Rattle.sheet.specs.Sheet.{nodes, circuits}
use Rattle.sheet.specs.Inner.Passed.{Headed}
use Rattle.sheet.proofs.PassedLaws.{nodes_few}
use Rattle.occupancy.specs.Inner.Occupancy.{bit_at}
use Rattle.network.specs.Registers.{reg, sheet_in, row_words, to_go_row}
use Rattle.network.specs.Inner.Quiet.{empty_at}
use Rattle.network.specs.Inner.Live.{Covered}
use Rattle.network.proofs.QuietLaws.{Empty, empty_is}
use Rattle.links.proofs.PairLaws.{or_left, or_right}

-- the list filled so far: where a word of it is 0, nothing is at the place
pub record Joining (s : List ℕ) (end : ℕ) (list : List ℕ) (k : ℕ) : Type 0 where
  pub inside : k ≤ end
  pub long : length list ≡ row_words
  pub tells : (j : ℕ) → j < k → word list j ≡ 0 → empty_at s j ≡ true

pub joining_more : (s : List ℕ) (end : ℕ) (list : List ℕ) (k w : ℕ) → Joining s end list k → k < end → end ≤ row_words → (w =? 0) ≡ empty_at s k
    → Joining s end (set list k w) (k + 1)
joining_more s end list k w g l few e = record {
  inside = omega arith;
  long = length-set list k w ∙ g.long;
  tells = λ j h none. go j h none (ℕ_discrete j k);
}
  where
    go : (j : ℕ) → j < k + 1 → word (set list k w) j ≡ 0 → Dec (j ≡ k) → empty_at s j ≡ true
    go j h none (yes same) =
        let w-none : w ≡ 0 = sym (get_or-set_same list k w 0 (omega (arith, g.long))) ∙ ap (word (set list k w)) (sym same) ∙ none in
        ap (empty_at s) same ∙ sym e ∙ yes= w-none
    go j h none (no other) =
        g.tells j (omega (arith, other)) (sym (get_or-set_other list k j w 0 (λ q. other (omega arith))) ∙ none)

-- five words in a row that are 0
pub five_none : (list : List ℕ) (base : ℕ) → word list base ≡ 0 → word list (base + 1) ≡ 0 → word list (base + 2) ≡ 0 → word list (base + 3) ≡ 0
    → word list (base + 4) ≡ 0 → (k : ℕ) → base ≤ k → k < base + 5 → word list k ≡ 0
five_none list base a b c d e k low high =
    go (dec_lt base k) (dec_lt (base + 1) k) (dec_lt (base + 2) k) (dec_lt (base + 3) k)
  where
    go : Dec (base < k) → Dec (base + 1 < k) → Dec (base + 2 < k) → Dec (base + 3 < k) → word list k ≡ 0
    go (no p) x y z =
        let here : k ≡ base = omega (arith, p) in
        ap (word list) here ∙ a
    go (yes p) (no q) y z =
        let here : k ≡ base + 1 = omega (arith, q) in
        ap (word list) here ∙ b
    go (yes p) (yes q) (no r) z =
        let here : k ≡ base + 2 = omega (arith, r) in
        ap (word list) here ∙ c
    go (yes p) (yes q) (yes r) (no u) =
        let here : k ≡ base + 3 = omega (arith, u) in
        ap (word list) here ∙ d
    go (yes p) (yes q) (yes r) (yes u) =
        let here : k ≡ base + 4 = omega arith in
        ap (word list) here ∙ e

pub joined_none : (a b c d e : ℕ) → bit_or (bit_or (bit_or (bit_or a b) c) d) e ≡ 0 → (a ≡ 0) × (b ≡ 0) × (c ≡ 0) × (d ≡ 0) × (e ≡ 0)
joined_none a b c d e h =
    let h₁ = or_left (bit_or (bit_or (bit_or a b) c) d) e h in
    let h₂ = or_left (bit_or (bit_or a b) c) d h₁ in
    let h₃ = or_left (bit_or a b) c h₂ in
    (or_left a b h₃, or_right a b h₃, or_right (bit_or a b) c h₂, or_right (bit_or (bit_or a b) c) d h₁, or_right (bit_or (bit_or (bit_or a b) c) d) e h)

pub node_none : (list : List ℕ) (node : ℕ)
    → bit_or
    (bit_or (bit_or (bit_or (word list (node * 5)) (word list (node * 5 + 1))) (word list (node * 5 + 2))) (word list (node * 5 + 3)))
    (word list (node * 5 + 4)) ≡ 0
    → (k : ℕ) → k / 5 ≡ node → word list k ≡ 0
node_none list node e k h =
    let five = joined_none _ _ _ _ _ e in
    five_none list (node * 5) five.0 five.1 five.2 five.3 five.4 k (omega arith) (omega arith)

-- all nodes of the largest grid are in its mask
all_taken : (node : ℕ) → node < 16 → 0 < bit_at 65535 node
unfolding bit_at
all_taken node l = ltb→lt _ _ (every_at 16 (λ n. ltb 0 (65535 / 2 ^ n % 2)) tt node l)

-- one mask for all rows of the routers, all nodes, and the circuits that are amid a packet
covered_now : (s : List ℕ) (mask sending : ℕ) → nodes (sheet_in s) ≤ 16
    → ((k : ℕ) → k < nodes (sheet_in s) * 5 → bit_at mask (k / 5) ≡ 0 → empty_at s k ≡ true)
    → ((c : ℕ) → c < circuits (sheet_in s) → bit_at sending c ≡ 0 → reg s to_go_row c ≡ 0)
    → Covered s (record { links = mask; heads = mask; outs = mask; extras = mask; landed = 65535; sending = sending })
covered_now s mask sending few none_there goes = record {
  link_mark_is = λ k l none. (empty k l none).link_mark_is;
  link_word_is = λ k l none. (empty k l none).link_word_is;
  head_mark_is = λ k l none. (empty k l none).head_mark_is;
  head_word_is = λ k l none. (empty k l none).head_word_is;
  choice = λ k l none. (empty k l none).choice;
  out_mark_is = λ k l none. (empty k l none).out_mark_is;
  out_word_is = λ k l none. (empty k l none).out_word_is;
  extra_mark_at = λ k l h none. (empty k l none).extra_mark_at;
  extra_word_at = λ k l h none. (empty k l none).extra_word_at;
  landing = λ node l none. absurd (let taken = all_taken node (omega arith) in omega arith);
  to_go_at = goes;
}
  where
    empty : (k : ℕ) → k < nodes (sheet_in s) * 5 → bit_at mask (k / 5) ≡ 0 → Empty s k
    empty k l none = empty_is s k (none_there k l none)

-- the same from what the functions answer, where z is the state's sheet
pub covered_here : {s z : List ℕ} {count mask few sending : ℕ} → z ≡ sheet_in s → Headed (sheet_in s) → count ≡ nodes z
    → ((k : ℕ) → k < count * 5 → bit_at mask (k / 5) ≡ 0 → empty_at s k ≡ true) → few ≡ circuits z
    → ((c : ℕ) → c < few → bit_at sending c ≡ 0 → reg s to_go_row c ≡ 0)
    → Covered s (record { links = mask; heads = mask; outs = mask; extras = mask; landed = 65535; sending = sending })
covered_here {s} {z} {count} {mask} {few} {sending} own H e none_there f goes =
    let all_nodes : count ≡ nodes (sheet_in s) = e ∙ ap nodes own in
    let all-circuits : few ≡ circuits (sheet_in s) = f ∙ ap circuits own in
    covered_now s mask sending (nodes_few (sheet_in s) H) (λ k l. none_there k (omega arith)) (λ c l. goes c (omega arith))

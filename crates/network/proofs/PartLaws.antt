-- The sheet as a part of the state's words, over any number k of words before its length.
-- Assumes nothing.
use Prim.Native.Nat.{ℕ, ◌+◌, ◌-◌, ◌≤◌, min}
use mathlib.Core.List.{List, []}
use mathlib.Core.Path.{◌≡◌, sym, ◌∙◌, ap}
use native.Mathlib.Omega.{arith}
use native.Mathlib.Nat.{add-zero}
use lib.ListN.{length, take, drop, drop_of_length-le, length-drop}
use lib.Seq.{get_or-drop, drop-drop}
use Rattle.std.proofs.lemmas.List.{take_min}
use Rattle.words.specs.Words.{word}
use Rattle.network.specs.Registers.{moving_words, sheet_in}

abbrev part : ℕ → List ℕ → List ℕ
part k s = take (word (drop k s) 0) (drop 1 (drop k s))

module _ (k : ℕ) (s : List ℕ) where
  -- the words end before the length
  part_short : length s ≤ k → [] ≡ part k s
  part_short h = sym (ap (λ (l : List ℕ). take (word l 0) (drop 1 l)) (drop_of_length-le s h))

  module _ (n : ℕ) (e : n ≡ word s k) where
    part_from : take n (drop (k + 1) s) ≡ part k s
    part_from =
        let q : n ≡ word (drop k s) 0 = e ∙ sym (rw add-zero at (get_or-drop k s 0 0)) in
        ap (λ (i : ℕ). take i (drop (k + 1) s)) q ∙ ap (take (word (drop k s) 0)) (sym (drop-drop 1 k s))

    -- all that the length says is there, or less
    part_up_to : (e : ℕ) → e ≡ min (k + 1 + n) (length s) → take (e - (k + 1)) (drop (k + 1) s) ≡ part k s
    part_up_to e h =
        let d : length (drop (k + 1) s) ≡ length s - (k + 1) = length-drop (k + 1) s in
        let f : e - (k + 1) ≡ min n (length (drop (k + 1) s)) = omega arith in
        ap (λ (i : ℕ). take i (drop (k + 1) s)) f ∙ take_min n (drop (k + 1) s) ∙ part_from

-- so it is for the words before a state's sheet
module _ (s : List ℕ) where
  pub sheet_short : length s ≤ moving_words → [] ≡ sheet_in s
  unfolding sheet_in
  sheet_short h = part_short moving_words s h

  pub sheet_up_to : (n e : ℕ) → n ≡ word s moving_words → e ≡ min (moving_words + 1 + n) (length s)
      → take (e - (moving_words + 1)) (drop (moving_words + 1) s) ≡ sheet_in s
  unfolding sheet_in
  sheet_up_to n e d h = part_up_to moving_words s n d e h

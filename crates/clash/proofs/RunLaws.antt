-- The rows of a packet's wires in the table, one wire at a time.
-- Assumes nothing.
use Prim.Native.Nat.{ℕ, zero, suc, ◌+◌, ◌-◌, ◌*◌, ◌^◌, ◌<◌, ◌≤◌}
use mathlib.Core.Bool.{Bool, true, false}
use mathlib.Core.List.{List, [], ◌∷◌, ◌++◌}
use mathlib.Core.Path.{◌≡◌, refl, sym, ◌∙◌, ap, subst}
use native.Mathlib.Numerals.{sub-one}
use native.Mathlib.Omega.{arith}
use native.Mathlib.Nat.{not-suc-le-zero}
use lib.ListN.{length}
use Rattle.words.specs.Tests.{◌or◌, ◌=?◌}
use Rattle.words.specs.Words.{word}
use Rattle.words.proofs.TestLaws.{or_yes, or_on, or_swap, or_assoc}
use Rattle.occupancy.specs.Inner.Occupancy.{run, taken, any_taken, listed, take_run, Takes}
use Rattle.occupancy.proofs.TakeLaws.{takes_run}
use Rattle.clash.specs.Inner.Table.{places}

pub taken_append : (t xs ys : List ℕ) → any_taken t (xs ++ ys) ≡ (any_taken t xs or any_taken t ys)
unfolding any_taken ◌or◌
taken_append t [] ys = refl
taken_append t (x ∷ xs) ys =
    ap (λ (b : Bool). taken t x or b) (taken_append t xs ys) ∙ or_assoc (taken t x) (any_taken t xs) (any_taken t ys)

listed_append : (x : ℕ) (xs ys : List ℕ) → listed x (xs ++ ys) ≡ (listed x xs or listed x ys)
unfolding listed ◌or◌
listed_append x [] ys = refl
listed_append x (y ∷ xs) ys =
    ap (λ (b : Bool). x =? y or b) (listed_append x xs ys) ∙ or_assoc (x =? y) (listed x xs) (listed x ys)

-- taking no place, and taking places one list after the other
pub takes_none : (t : List ℕ) → Takes t t []
unfolding listed ◌or◌
takes_none t = record { same_length = refl; besides = λ x. refl }

pub takes_append : (t u v xs ys : List ℕ) → Takes t u xs → Takes u v ys → Takes t v (xs ++ ys)
takes_append t u v xs ys a b =
    record {
      same_length = b.same_length ∙ a.same_length;
      besides = λ x.
          b.besides x
          ∙ ap (λ (c : Bool). listed x ys or c) (a.besides x)
          ∙ or_assoc (listed x ys) (listed x xs) (taken t x)
          ∙ ap (λ (c : Bool). c or taken t x) (or_swap (listed x ys) (listed x xs) ∙ sym (listed_append x xs ys));
    }

-- the places from wire i on are a row, and those from the next wire on
module _ (wires delays : List ℕ) (stride cycle size : ℕ) where
  step : (i left : ℕ) → 0 < left
      → places wires delays stride cycle size i left
      ≡ run size (word wires i * stride + (cycle + word delays i)) ++ places wires delays stride cycle size (i + 1) (left - 1)
  unfolding places
  step i zero h = absurd (not-suc-le-zero h)
  step i (suc n) h = rw sub-one refl

  module _ (count i : ℕ) where
    abbrev from : ℕ → List ℕ
    from k = places wires delays stride cycle size k (count - k)

    module _ (h : i < count) (at : ℕ) (e : at ≡ word wires i * stride + (cycle + word delays i)) where
      row_more : run size at ++ from (i + 1) ≡ from i
      row_more =
          let m : count - i - 1 ≡ count - (i + 1) = omega arith in
          ap (λ (a : ℕ). run size a ++ from (i + 1)) e
          ∙ ap (λ (k : ℕ). run size (word wires i * stride + (cycle + word delays i)) ++ places wires delays stride cycle size (i + 1) k) (sym m)
          ∙ sym (step i (count - i) (omega arith))

      pub packet_hit : (t : List ℕ) {w : Bool} → w ≡ any_taken t (run size at) → w ≡ true → true ≡ any_taken t (from i)
      packet_hit t r y = or_yes _ (sym r ∙ y) ∙ sym (taken_append t _ _) ∙ ap (any_taken t) row_more

      pub packet_on : (t : List ℕ) {w : Bool} → w ≡ any_taken t (run size at) → w ≡ false → any_taken t (from (i + 1)) ≡ any_taken t (from i)
      packet_on t r y = or_on (sym r ∙ y) refl ∙ sym (taken_append t _ _) ∙ ap (any_taken t) row_more

      -- what is still to be taken behind a row that was taken
      pub packet_takes : (t u v : List ℕ) → Takes t u (run size at) → Takes u v (from (i + 1)) → Takes t v (from i)
      packet_takes t u v a b = subst (Takes t v) row_more (takes_append t u v (run size at) (from (i + 1)) a b)

    from_end : (left : ℕ) → left ≡ 0 → places wires delays stride cycle size i left ≡ []
    unfolding places
    from_end zero e = refl
    from_end (suc n) e = absurd (let e₀ : ⊥ = omega arith in e₀)

    module _ (h : count ≤ i) (t : List ℕ) where
      pub packet_clear : false ≡ any_taken t (from i)
      unfolding any_taken
      packet_clear = ap (any_taken t) (sym (from_end (count - i) (omega arith)))

      pub packet_done : Takes t t (from i)
      packet_done = subst (Takes t t) (sym (from_end (count - i) (omega arith))) (takes_none t)

-- a row that the table's code has taken
pub row_taken : (t u : List ℕ) (place size : ℕ) → ((x : ℕ) → word t x < 2 ^ 32) → size ≤ 16 → place + size + 32 ≤ 32 * length t
    → u ≡ take_run t place size → Takes t u (run size place)
row_taken t u place size w h f e = subst (λ (x : List ℕ). Takes t x (run size place)) (sym e) (takes_run t place size w h f)

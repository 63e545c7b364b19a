-- A table in which just the places of some lists are taken has a place of a list taken exactly where that list shares a place with
-- one of them.
-- Assumes nothing.
use Prim.Native.Nat.{ℕ, zero, suc, ◌+◌}
use mathlib.Core.Bool.{Bool, true, false, not}
use mathlib.Core.List.{List, [], ◌∷◌}
use mathlib.Core.Path.{◌≡◌, refl, sym, ◌∙◌, ap, ap₂}
use native.Mathlib.Numerals.{add-one}
use Rattle.words.specs.Tests.{all, any, ◌and◌, ◌or◌}
use Rattle.words.proofs.TestLaws.{or_swap}
use Rattle.words.proofs.AllLaws.{any_none, any_or}
use Rattle.occupancy.specs.Inner.Occupancy.{taken, any_taken, listed, Takes}
use Rattle.clash.specs.Inner.Table.{Free}

-- two lists share a place
unfoldable pub share : List ℕ → List ℕ → Bool
share [] ys = false
share (x ∷ xs) ys = listed x ys or share xs ys

-- just the places of the first i lists are taken
pub record HoldsPlaces (f : ℕ → List ℕ) (i : ℕ) (table : List ℕ) : Type 0 where
  pub just : (x : ℕ) → taken table x ≡ any i (λ k. listed x (f k))

pub holds_none : (f : ℕ → List ℕ) (table : List ℕ) → Free table → HoldsPlaces f 0 table
unfolding any
holds_none f table r = record { just = λ x. r.none x }

pub holds_more : (f : ℕ → List ℕ) (i : ℕ) (table after : List ℕ) → HoldsPlaces f i table → Takes table after (f i) → HoldsPlaces f (i + 1) after
unfolding any
holds_more f i table after h t =
    record {
      just = λ x.
          t.besides x
          ∙ ap (λ (b : Bool). listed x (f i) or b) (h.just x)
          ∙ or_swap (listed x (f i)) (any i (λ k. listed x (f k)))
          ∙ ap (λ (n : ℕ). any n (λ k. listed x (f k))) (sym (add-one i));
    }

any_shares : (f : ℕ → List ℕ) (i : ℕ) (table : List ℕ) → HoldsPlaces f i table → (xs : List ℕ) → any_taken table xs ≡ any i (λ k. share xs (f k))
unfolding any_taken share
any_shares f i table h [] = sym (any_none i (λ k. false) (λ k l. refl))
any_shares f i table h (x ∷ xs) =
    ap₂ ◌or◌ (h.just x) (any_shares f i table h xs)
    ∙ any_or i (λ k. listed x (f k)) (λ k. share xs (f k))

not_or : (a b : Bool) → not (a or b) ≡ (not a and not b)
unfolding ◌or◌ ◌and◌
not_or true b = refl
not_or false b = refl

not_any : (p : ℕ → Bool) (n : ℕ) → not (any n p) ≡ all n (λ j. not (p j))
unfolding any all
not_any p zero = refl
not_any p (suc n) = not_or (any n p) (p n) ∙ ap (λ (b : Bool). b and not (p n)) (not_any p n)

-- no place of a list is taken exactly where it shares none with each of the lists
pub free_where : (f : ℕ → List ℕ) (i : ℕ) (table : List ℕ) → HoldsPlaces f i table → (xs : List ℕ)
    → not (any_taken table xs) ≡ all i (λ k. not (share xs (f k)))
free_where f i table h xs = ap not (any_shares f i table h xs) ∙ not_any (λ k. share xs (f k)) i

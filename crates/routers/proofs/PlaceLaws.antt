-- Choices and tests of small numbers that come to the same; and a state that is too short for its rows has no nodes.
-- Assumes nothing.
use Prim.Native.Nat.{ℕ, ◌+◌, ◌<◌, ◌≤◌}
use mathlib.Core.Bool.{Bool, true, false, ◌&&◌}
use mathlib.Core.List.{List, []}
use mathlib.Core.Path.{◌≡◌, refl, sym, ◌∙◌, ap}
use native.Mathlib.Omega.{arith}
use native.Mathlib.Nat.{zero-mul}
use native.Mathlib.Decide.{dec_le}
use lib.ListN.{length}
use Rattle.words.specs.Tests.{◌and◌, ◌or◌, ◌≤?◌, ◌=?◌}
use Rattle.words.specs.Words.{pick}
use Rattle.words.proofs.TestLaws.{is=, yes≤, no≤, or_yes, or_on}
use Rattle.sheet.specs.Sheet.{nodes, rows}
use Rattle.network.specs.Registers.{sheet_in, moving_words}
use Rattle.network.proofs.PartLaws.{sheet_short}

pub and_yes : (a : Bool) → a and true ≡ a
unfolding ◌and◌
and_yes true = refl
and_yes false = refl

-- a choice of 0 or what is 0
pub zero_pick : (a : ℕ) → pick (a =? 0) 0 a ≡ a
zero_pick a = go (a =? 0) refl
  where
    go : (b : Bool) → (a =? 0) ≡ b → pick b 0 a ≡ a
    go true e = sym (is= a 0 e)
    go false e = refl

-- two tests together, as code has them
pub both_and : (a b : Bool) → (a && b) ≡ a and b
unfolding ◌and◌
both_and true b = refl
both_and false b = refl

-- one of two numbers is not 0
pub some_sum : (a b : ℕ) → (1 ≤? a + b) ≡ (1 ≤? a) or (1 ≤? b)
some_sum a b = go (dec_le 1 a)
  where
    go : Dec (1 ≤ a) → (1 ≤? a + b) ≡ (1 ≤? a) or (1 ≤? b)
    go (yes l) =
        let more : 1 ≤ a + b = omega arith in
        yes≤ more ∙ or_yes (1 ≤? b) (yes≤ l)
    go (no g) =
        let none : a < 1 = omega (arith, g) in
        let same : a + b ≡ b = omega arith in
        or_on (no≤ none) (ap (λ n. 1 ≤? n) same)

-- one more than a number is 2 or more
pub two_more : (c : ℕ) → (2 ≤? c + 1) ≡ (2 ≤? c) or (1 ≤? c)
two_more c = go (dec_le 2 c) (dec_le 1 c)
  where
    go : Dec (2 ≤ c) → Dec (1 ≤ c) → (2 ≤? c + 1) ≡ (2 ≤? c) or (1 ≤? c)
    go (yes l) d =
        let more : 2 ≤ c + 1 = omega arith in
        yes≤ more ∙ or_yes (1 ≤? c) (yes≤ l)
    go (no g) (yes l) =
        let few : c < 2 = omega (arith, g) in
        let more : 2 ≤ c + 1 = omega arith in
        or_on (no≤ few) (yes≤ more ∙ sym (yes≤ l))
    go (no g) (no h) =
        let few : c < 2 = omega (arith, g) in
        let none : c < 1 = omega (arith, h) in
        let less : c + 1 < 2 = omega arith in
        or_on (no≤ few) (no≤ less ∙ sym (no≤ none))

-- a state that is too short for its rows has no sheet, and so no nodes
pub no_nodes : (s : List ℕ) → length s < moving_words → nodes (sheet_in s) ≡ 0
no_nodes s h = ap nodes (sym (sheet_short s (omega (arith, h)))) ∙ zero-mul (rows [])

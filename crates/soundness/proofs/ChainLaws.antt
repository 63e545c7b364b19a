-- What a chain of `&&` and `||` computes, test by test: for `grind`, the laws of the shut operators of tests.
-- Assumes nothing.
use Prim.Native.Nat.{ℕ}
use mathlib.Core.Bool.{Bool, true, false, not}
use mathlib.Core.Path.{◌≡◌, refl}
use lib.Dec.{leb, ltb, eqb}
use Rattle.std.proofs.lemmas.Bool.Decides.{nat_tests}
use Rattle.words.specs.Tests.{◌and◌, ◌or◌, ◌≤?◌, ◌<?◌, ◌=?◌, ◌≠?◌}

pub and_true : (b : Bool) → true and b ≡ b
unfolding ◌and◌
and_true b = refl

pub and_false : (b : Bool) → false and b ≡ false
unfolding ◌and◌
and_false b = refl

pub or_true : (b : Bool) → true or b ≡ true
unfolding ◌or◌
or_true b = refl

pub or_false : (b : Bool) → false or b ≡ b
unfolding ◌or◌
or_false b = refl

pub test≤ : (a b : ℕ) → (a ≤? b) ≡ leb a b
unfolding ◌≤?◌
test≤ a b = refl

pub test< : (a b : ℕ) → (a <? b) ≡ ltb a b
unfolding ◌<?◌
test< a b = refl

pub test= : (a b : ℕ) → (a =? b) ≡ eqb a b
unfolding ◌=?◌
test= a b = refl

pub test≠ : (a b : ℕ) → (a ≠? b) ≡ not (eqb a b)
unfolding ◌≠?◌
test≠ a b = refl

pub ruleset chains = (and_true, and_false, or_true, or_false, test≤, test<, test=, test≠, nat_tests)

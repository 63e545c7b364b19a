-- Choices by a test, and a test as a number, as code has them; and what the tables of the outputs say of their two rows.
-- Assumes nothing.
use Prim.Native.Nat.{ℕ}
use mathlib.Core.Bool.{Bool, true, false}
use mathlib.Core.List.{List}
use mathlib.Core.Path.{◌≡◌, refl, sym, ap}
use native.Mathlib.Omega.{arith}
use mir.Val.{bool_byte}
use Rattle.words.specs.Words.{word, pick}
use Rattle.words.proofs.TestLaws.{yes=, no=}
use Rattle.network.specs.Registers.{out_mark, out_word}
use Rattle.network.specs.Inner.Stages.{out_from}

-- choices that come to the same
pub same_pick : (b : Bool) (a : ℕ) → pick b a a ≡ a
same_pick true a = refl
same_pick false a = refl

-- a test as a number
pub byte_picked : (b : Bool) → bool_byte b ≡ pick b 1 0
byte_picked true = refl
byte_picked false = refl

-- the marks are in the first row, the words in the second
pub out_mark_is : (marks cells : List ℕ) (k : ℕ) → word marks k ≡ out_from marks cells out_mark k
unfolding out_from
out_mark_is marks cells k = sym (ap (λ (t : Bool). pick t (word marks k) (word cells k)) (yes= refl))

pub out_word_is : (marks cells : List ℕ) (k : ℕ) → word cells k ≡ out_from marks cells out_word k
unfolding out_from
out_word_is marks cells k =
    let other : out_word ≡ out_mark → ⊥ = λ e. (let z : ⊥ = omega (arith, e) in z) in
    sym (ap (λ (t : Bool). pick t (word marks k) (word cells k)) (no= other))

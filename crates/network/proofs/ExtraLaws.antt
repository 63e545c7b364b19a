-- Which links have an extra register: those of the vertical sides, where the grid's vertical links are long.
-- Assumes nothing.
use Prim.Native.Nat.{ℕ, ◌+◌, ◌≤◌}
use mathlib.Core.Bool.{Bool, true, false}
use mathlib.Core.List.{List}
use mathlib.Core.Path.{◌≡◌, refl, sym, ◌∙◌, ap}
use native.Mathlib.Omega.{arith}
use Rattle.words.specs.Tests.{◌and◌}
use Rattle.words.specs.Words.{pick}
use Rattle.torus.specs.Torus.{is_vertical}
use Rattle.torus.specs.Route.{link_cycles}
use Rattle.sheet.specs.Sheet.{is_long}
use Rattle.network.specs.Cycle.{has_extra}
use Rattle.network.specs.Registers.{sheet_in, out_mark, out_word, extra_mark, extra_word}
use Rattle.network.specs.Inner.Machine.{end_mark, end_word}

module _ (z : List ℕ) (output : ℕ) where
  pub extra_long : is_long z ≡ true → has_extra z output ≡ is_vertical output
  unfolding has_extra ◌and◌
  extra_long e = ap (λ (b : Bool). b and is_vertical output) e

  pub extra_short : is_long z ≡ false → has_extra z output ≡ false
  unfolding has_extra ◌and◌
  extra_short e = ap (λ (b : Bool). b and is_vertical output) e

  -- by the sides alone: no other output has one on any grid
  pub extra_level : is_vertical output ≡ false → has_extra z output ≡ false
  unfolding has_extra ◌and◌
  extra_level e = rw e (go (is_long z))
    where
      go : (b : Bool) → (b and false) ≡ false
      go true = refl
      go false = refl

-- and the cycles that the link takes
pub link_with : (z : List ℕ) (output : ℕ) → has_extra z output ≡ true → link_cycles (is_long z) output ≡ 1
unfolding link_cycles has_extra
link_with z output e = ap (λ (b : Bool). pick b 1 0) e

pub link_without : (z : List ℕ) (output : ℕ) → has_extra z output ≡ false → link_cycles (is_long z) output ≡ 0
unfolding link_cycles has_extra
link_without z output e = ap (λ (b : Bool). pick b 1 0) e

-- the rows of what comes out of a link: the outputs' rows, or those of the extra registers
module _ (s : List ℕ) (output : ℕ) where
  pub end_low : out_mark ≤ end_mark s output
  end_low = go (has_extra (sheet_in s) output)
    where
      go : (b : Bool) → out_mark ≤ pick b extra_mark out_mark
      go true = omega arith
      go false = omega arith

  pub end_high : end_mark s output ≤ extra_mark
  end_high = go (has_extra (sheet_in s) output)
    where
      go : (b : Bool) → pick b extra_mark out_mark ≤ extra_mark
      go true = omega arith
      go false = omega arith

  pub end_behind : end_mark s output + 1 ≡ end_word s output
  end_behind = go (has_extra (sheet_in s) output)
    where
      go : (b : Bool) → pick b extra_mark out_mark + 1 ≡ pick b extra_word out_word
      go true = refl
      go false = refl

  -- by a vertical side as the grid has them, by another side the outputs'
  pub end_vertical : is_vertical output ≡ true → (row : ℕ) → row ≡ pick (is_long (sheet_in s)) extra_mark out_mark → row ≡ end_mark s output
  end_vertical v row e = e ∙ go (is_long (sheet_in s)) refl
    where
      go : (b : Bool) → is_long (sheet_in s) ≡ b → pick b extra_mark out_mark ≡ end_mark s output
      go true q = sym (ap (λ (t : Bool). pick t extra_mark out_mark) (extra_long (sheet_in s) output q ∙ v))
      go false q = sym (ap (λ (t : Bool). pick t extra_mark out_mark) (extra_short (sheet_in s) output q))

  pub end_level : is_vertical output ≡ false → out_mark ≡ end_mark s output
  end_level v = sym (ap (λ (t : Bool). pick t extra_mark out_mark) (extra_level (sheet_in s) output v))

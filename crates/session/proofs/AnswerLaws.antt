-- The first number that applies, as code finds it by tests in turn: for `grind`, the laws of numbers of answers.
-- Assumes nothing.
use Rattle.std.proofs.Common.{◌≡◌, ◌<◌, ℕ, true, false, refl, sym, arith}
use Rattle.words.specs.Numbers.{unless, ◌then◌}
use Rattle.words.proofs.NumberLaws.{then_first, then_next}
use Rattle.refusal.specs.declared.Refusal.{Refusal}
use Rattle.refusal.specs.Numbers.{refusal_number}
use Rattle.refusal.proofs.AnswerLaws.{is_some}
use Rattle.soundness.proofs.ChainLaws.{chains}

pub none_then : (b : ℕ) → (0 then b) ≡ b
none_then b = sym (then_next refl refl)

pub some_then : (e : Refusal) (b : ℕ) → (refusal_number e then b) ≡ refusal_number e
some_then e b = sym (then_first b refl (is_some e))

-- a number of a literal
pub positive_then : (n b : ℕ) → 0 < n → (n then b) ≡ n
positive_then n b l = sym (then_first b refl (λ z. omega arith))

pub unless_true : (n : ℕ) → unless n true ≡ 0
unfolding unless
unless_true n = refl

pub unless_false : (n : ℕ) → unless n false ≡ n
unfolding unless
unless_false n = refl

pub ruleset numbers = (chains, none_then, some_then, positive_then, unless_true, unless_false)

-- The numbers of answers: none of a refusal is 0, and one that `?` hands on keeps its number.
-- Assumes nothing.
use Rattle.std.specs.Prelude.{◌≡◌, true, false, Result, is_err, IsErr, IsErrAnd}
use Rattle.std.specs.declared.result.Result.TheVariants.{Ok, Err}
use Rattle.std.proofs.Common.{refl, ap, arith}
use Rattle.refusal.specs.declared.Refusal.{Refusal}
use Rattle.refusal.specs.Numbers.{refusal_number, number_of}

pub is_some : (e : Refusal) → refusal_number e ≡ 0 → ⊥
is_some e h = grind arith

pub handed_on : {A : Type 0} (r : Result A Refusal) (e : Refusal) → IsErr r × IsErrAnd r (λ x. x ≡ e) → number_of r ≡ refusal_number e
handed_on (Ok x) e h = grind arith
handed_on (Err x) e h = ap refusal_number h.1

-- an answer without a refusal, and one with
pub passed : {A : Type 0} (r : Result A Refusal) → is_err r ≡ false → number_of r ≡ 0
passed (Ok x) h = refl
passed (Err e) h = grind arith

pub failed : {A : Type 0} (r : Result A Refusal) → is_err r ≡ true → number_of r ≡ 0 → ⊥
failed (Ok x) h = grind arith
failed (Err e) h = is_some e

-- `exports::entries_place` meets its contract: no words have no place; where the number is 0 a schedule of others has one.
use Rattle.std.proofs.Common.{ℕ, ◌+◌, ap, ◌∙◌, arith}
use Rattle.std.proofs.lemmas.Bool.Decides.{nat_tests}
use Rattle.checker.proofs.AnswerLaws.{handed_some}
use Rattle.exports.proofs.PackedLaws.{place_none, place_some}
use Rattle.exports.proofs.entries_place.Goals as goal

pub returns-then-is_empty : goal.returns-then-is_empty
returns-then-is_empty c = place_none c.args.sheet.now _ (grind (arith, nat_tests))

pub schedule_place-requires : goal.schedule_place-requires
schedule_place-requires c = handed_some c.args.sheet.now _ c.requires (grind (arith, nat_tests))

pub returns : goal.returns
returns c = ap (λ (n : ℕ). n + 2) c.schedule_place.ensures.0 ∙ place_some c.args.sheet.now _ (grind (arith, nat_tests))

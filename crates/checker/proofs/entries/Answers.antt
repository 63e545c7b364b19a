-- `checker::entries` meets its contract: where the number is 0 the sheet is divided into its parts and the schedule exists; that of no words
-- has no entries.
use Rattle.std.proofs.Common.{◌≡◌, sym, ◌∙◌, length, arith}
use Rattle.std.proofs.lemmas.Bool.Decides.{nat_tests}
use Rattle.refusal.proofs.AnswerLaws.{passed, failed}
use Rattle.checker.proofs.AnswerLaws.{handed_some, part_empty, part_none, part_some}
use Rattle.checker.proofs.entries.Goals as goal
use Rattle.checker.proofs.entries.Goals.{then-is_err-via-then-is_err, then-is_err-via-else-is_err+then-is_empty}

pub returns-then-is_err : goal.returns-then-is_err
returns-then-is_err c =
    elim c.then-is_err.branch [
      | then-is_err-via-then-is_err w ↦
          part_empty _ _ _ c.check_entries.ensures (failed _ (sym c.is_err.ensures.value ∙ w.if-is_err.true))
      | then-is_err-via-else-is_err+then-is_empty w ↦
          let none : length c.args.z.now ≡ 0 = grind (arith, nat_tests, w.is_empty.ensures, w.if-is_empty.true) in
          part_none _ _ _ c.check_entries.ensures (passed _ (sym c.is_err.ensures.value ∙ w.if-is_err.false)) none
    ]

pub entries_of-requires : goal.entries_of-requires
entries_of-requires c =
    let some : length c.args.z.now ≡ 0 → ⊥ = grind (arith, nat_tests) in
    handed_some _ _ (sym c.check_entries.ensures ∙ passed _ (sym c.is_err.ensures.value ∙ c.if-is_err.false)) some

pub returns : goal.returns
returns c =
    let some : length c.args.z.now ≡ 0 → ⊥ = grind (arith, nat_tests) in
    c.entries_of.ensures
    ∙ part_some _ _ _ c.check_entries.ensures (passed _ (sym c.is_err.ensures.value ∙ c.if-is_err.false)) some

-- `batch::lists::start_lists` meets its contract: a refusal leaves state and answers; else the transfers are those of the lists' places.
use Rattle.std.proofs.Common.{refl, ◌∙◌}
use Rattle.refusal.proofs.AnswerLaws.{is_some, handed_on}
use Rattle.batch.proofs.ListsLaws.{lists_passed, lists_kept, lists_written}
use Rattle.batch.proofs.lists.start_lists.Goals as goal

pub returns-in_err-check : goal.returns-in_err-check
returns-in_err-check c =
    let kept = lists_kept _ _ _ _ _ _ _ c.in_err-check.ensures (is_some _) in record { answer = handed_on _ _ c.from_residual.ensures ∙ c.in_err-check.ensures; state = kept.0; answers = kept.1 }

pub start_each-requires : goal.start_each-requires
start_each-requires c = lists_passed _ _ _ _ _ _ _ c.in_ok-check.ensures refl

pub returns : goal.returns
returns c =
    let left = c.start_each.ensures in
    let written = lists_written _ _ _ _ _ _ _ c.in_ok-check.ensures refl left.state left.answers in record { answer = c.in_ok-check.ensures; state = written.0; answers = written.1 }

-- `batch::records::start_all` meets its contract: a refusal leaves state and answers; else the list's transfers are those by its places.
use Rattle.std.proofs.Common.{◌++◌, List, length, drop, sym, refl, ap, ◌∙◌}
use Rattle.refusal.proofs.AnswerLaws.{is_some, handed_on}
use Rattle.session.specs.declared.Transfer.{Transfer}
use Rattle.session.specs.Calls.{started_all, answers_all}
use Rattle.session.proofs.NumberLaws.{list_passed}
use Rattle.batch.proofs.BatchLaws.{all_passes, first_all, all_kept, all_written}
use Rattle.batch.proofs.records.start_all.Goals as goal

pub returns-in_err-check_list : goal.returns-in_err-check_list
returns-in_err-check_list c =
    let kept = all_kept c.args.transfers.now _ _ c.in_err-check_list.ensures (is_some _) in record { answer = handed_on _ _ c.from_residual.ensures ∙ c.in_err-check_list.ensures; state = kept.0; answers = kept.1 }

pub start_each-requires : goal.start_each-requires
start_each-requires c = (
  all_passes _ _ _ (sym c.in_ok-check_list.ensures),
  (list_passed _ _ _ (sym c.in_ok-check_list.ensures)).answered,
)

pub returns : goal.returns
returns c =
    let a = c.args in
    let ts = a.transfers.now in
    let left = c.start_each.ensures in
    let written = all_written ts a.s.now a.answers.now c.in_ok-check_list.ensures refl (left.state ∙ ap (started_all a.s.now) (first_all ts))
    (left.answers ∙ ap (λ (us : List Transfer). answers_all a.s.now us ++ drop (length ts) a.answers.now) (first_all ts)) in record { answer = c.in_ok-check_list.ensures; state = written.0; answers = written.1 }

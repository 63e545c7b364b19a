use Rattle.std.proofs.Common.{refl, sym, ◌∙◌, arith}
use Rattle.refusal.proofs.AnswerLaws.{is_some, handed_on}
use Rattle.landings.proofs.CallLaws.{start_none, start_more, start_refused, start_done_is}
use Rattle.landings.proofs.calls.start_all.Goals as goal

pub loop-k-init : goal.loop-k-init
loop-k-init c = start_none _ _ _ c.requires.4

pub returns-in_err-start_transfer : goal.returns-in_err-start_transfer
returns-in_err-start_transfer c =
    let kept = handed_on _ _ c.from_residual.ensures in
    let start = c.in_err-start_transfer.ensures in
    let each = start_refused _ _ _ _ _ _ c.loop-k.invariant c.loop-k-test.true (omega arith) (kept ∙ start.number) start.state (λ z. is_some _ (sym kept ∙ z)) in
    record { number = each.0; state = each.1 }

pub loop-k-preserved : goal.loop-k-preserved
loop-k-preserved c =
    let start = c.in_ok-start_transfer.ensures in
    start_more _ _ _ _ _ _ c.loop-k.invariant c.loop-k-test.true (omega arith) start.number start.state refl

pub returns : goal.returns
returns c =
    let each = start_done_is _ _ _ _ _ c.loop-k.invariant c.loop-k.auto.k-end (omega arith) in
    record { number = each.0; state = each.1 }

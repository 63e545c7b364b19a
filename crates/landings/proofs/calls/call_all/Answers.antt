-- The load decides, or the starts upon the loaded state do.
use Rattle.std.proofs.Common.{refl, sym, ◌∙◌, arith}
use Rattle.refusal.proofs.AnswerLaws.{is_some, handed_on}
use Rattle.landings.proofs.CallLaws.{place_is, load_passes, call_refused, call_started}
use Rattle.landings.proofs.MessageLaws.{transfers_there, count_is, count_few, all_there}
use Rattle.landings.proofs.calls.call_all.Goals as goal

pub returns-in_err-load : goal.returns-in_err-load
returns-in_err-load c =
    let kept = handed_on _ _ c.from_residual.ensures in
    let load = c.in_err-load.ensures in
    let each = call_refused _ _ _ c.requires.1 (kept ∙ load.answer) load.state (λ z. is_some _ (sym kept ∙ z)) in
    record { number = each.0; state = each.1 }

pub word_in-requires : goal.word_in-requires
word_in-requires c =
    (transfers_there _ c.requires.0 _ (place_is _ c.requires.1 c.requires.2)).0

pub start_all-requires : goal.start_all-requires
start_all-requires c =
    let place = place_is _ c.requires.1 c.requires.2 in (
      place,
      count_is _ c.requires.0 _ place c.word_in.ensures,
      count_few _ c.requires.0 _ place c.word_in.ensures,
      omega (arith, all_there _ c.requires.0 _ place c.word_in.ensures),
      load_passes _ _ _ c.requires.1 c.in_ok-load.ensures.answer c.load.ensures.state refl,
    )

pub returns : goal.returns
returns c =
    let each = call_started _ _ _ c.requires.1 c.in_ok-load.ensures.answer c.load.ensures.state _
    refl (count_is _ c.requires.0 _ (place_is _ c.requires.1 c.requires.2) c.word_in.ensures)
    c.start_all.ensures.number c.start_all.ensures.state in record { number = each.0; state = each.1 }

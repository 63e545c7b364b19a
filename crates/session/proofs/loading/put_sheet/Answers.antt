-- `session::loading::put_sheet` meets its contract: zeros, the length and the sheet's words are put in turn.
use Rattle.std.proofs.Common.{sym, ◌∙◌, rules, arith, length-take-le}
use Rattle.session.proofs.LoadingLaws.{loaded_is}
use Rattle.session.proofs.loading.put_sheet.Goals as goal

pub slice_bounds-fill-end-2 : goal.slice_bounds-fill-end-2
slice_bounds-fill-end-2 c = sym (length-take-le _ _ (omega arith))

pub returns : goal.returns
returns c = c.copy_words.ensures ∙ loaded_is _ _ _ c.requires.1 (c.fill.ensures.after (λ y e. search rules))

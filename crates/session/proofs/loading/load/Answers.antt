-- `session::loading::load` meets its contract: what is loaded is what the words stand for.
use Rattle.std.proofs.Common.{sym, ◌∙◌, arith}
use Rattle.std.proofs.lemmas.Bool.Decides.{nat_tests}
use Rattle.sheet.proofs.MeantLaws.{meant_none, meant_some}
use Rattle.session.proofs.LoadingLaws.{load_answers, load_leaves}
use Rattle.session.proofs.loading.load.Goals as goal

pub returns-then-is_empty : goal.returns-then-is_empty
returns-then-is_empty c =
    let same = c.blank_sheet-blank.ensures ∙ sym (meant_none _ (grind (arith, nat_tests))) in record { answer = load_answers _ _ _ _ same c.load_words.ensures.answer; state = load_leaves _ _ _ _ same c.load_words.ensures.state }

pub returns : goal.returns
returns c =
    let same = sym (meant_some _ (grind (arith, nat_tests))) in record { answer = load_answers _ _ _ _ same c.load_words-2.ensures.answer; state = load_leaves _ _ _ _ same c.load_words-2.ensures.state }

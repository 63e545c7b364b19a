-- `session::loading::check_load` meets its contract: the sheet's number first, then 12 and 14 by the lengths.
use Rattle.std.proofs.Common.{refl, ◌∙◌, arith}
use Rattle.refusal.proofs.AnswerLaws.{is_some, handed_on}
use Rattle.sheet.proofs.CheckLaws.{number_first, number_ranged, number_served, number_unserved}
use Rattle.words.proofs.NumberLaws.{then_first}
use Rattle.session.specs.Calls.{load_words_number}
use Rattle.session.proofs.AnswerLaws.{numbers}
use Rattle.session.proofs.loading.check_load.Goals as goal

pub returns-in_err-check_rules : goal.returns-in_err-check_rules
unfolding load_words_number
returns-in_err-check_rules c =
    handed_on _ _ c.from_residual.ensures ∙ then_first _ (number_first _ c.in_err-check_rules.ensures (is_some _)) (is_some _)

pub keeps_rule26-requires : goal.keeps_rule26-requires
keeps_rule26-requires c = number_ranged _ c.in_ok-check_rules.ensures refl

pub returns-then-not-keeps_rule26 : goal.returns-then-not-keeps_rule26
unfolding load_words_number
returns-then-not-keeps_rule26 c =
    let e = number_unserved _ c.in_ok-check_rules.ensures refl c.keeps_rule26.ensures c.if-not-keeps_rule26.true in grind (arith, numbers)

pub returns-then-s-lt-STATE_WORDS : goal.returns-then-s-lt-STATE_WORDS
unfolding load_words_number
returns-then-s-lt-STATE_WORDS c =
    let e = number_served _ c.in_ok-check_rules.ensures refl c.keeps_rule26.ensures c.if-not-keeps_rule26.false in grind (arith, numbers)

pub whole_memory_of-requires : goal.whole_memory_of-requires
whole_memory_of-requires c = (number_ranged _ c.in_ok-check_rules.ensures refl).framed.headed

pub returns-then-m-whole_memory_of : goal.returns-then-m-whole_memory_of
unfolding load_words_number
returns-then-m-whole_memory_of c =
    let e = number_served _ c.in_ok-check_rules.ensures refl c.keeps_rule26.ensures c.if-not-keeps_rule26.false in grind (arith, numbers)

pub returns : goal.returns
unfolding load_words_number
returns c =
    let e = number_served _ c.in_ok-check_rules.ensures refl c.keeps_rule26.ensures c.if-not-keeps_rule26.false in grind (arith, numbers)

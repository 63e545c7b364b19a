-- `landings::input::check_input` meets its contract: the three tests are those of the message, in its order.
use Rattle.landings.proofs.MessageLaws.{no_length, sheet_over, sheet_ends, sheet_on_is}
use Rattle.landings.proofs.input.check_input.Goals as goal

pub returns-then-bytes-lt4 : goal.returns-then-bytes-lt4
returns-then-bytes-lt4 c = no_length _ c.if-bytes-lt4.true

pub returns-then-count-gt-SHEET_WORDS : goal.returns-then-count-gt-SHEET_WORDS
returns-then-count-gt-SHEET_WORDS c = sheet_over _ c.if-bytes-lt4.false c.word_in-count.ensures c.if-count-gt-SHEET_WORDS.true

pub returns-then-bytes-n : goal.returns-then-bytes-n
returns-then-bytes-n c = sheet_ends _ c.if-bytes-lt4.false c.word_in-count.ensures c.if-count-gt-SHEET_WORDS.false c.if-bytes-n.true

pub returns : goal.returns
returns c =
    sheet_on_is _ c.if-bytes-lt4.false c.word_in-count.ensures c.if-count-gt-SHEET_WORDS.false c.if-bytes-n.false
    c.check_sheet.ensures

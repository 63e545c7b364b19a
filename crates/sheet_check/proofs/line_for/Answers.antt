-- `sheet_check::line_for` meets its contract: the tests are those of the line, in its order.
use Rattle.sheet_check.proofs.LineLaws.{part_ready}
use mathlib.Core.Path.{sym, ◌∙◌}
use Rattle.sheet_check.proofs.LineLaws.{no_length, too_large, sheet_ends, whole}
use Rattle.sheet.specs.Sheet.{sheet_words}
use Rattle.words.proofs.WordLaws.{length_zeros}
use Rattle.sheet_check.proofs.line_for.Goals as goal

pub returns-then-bytes-lt4 : goal.returns-then-bytes-lt4
returns-then-bytes-lt4 c = no_length _ c.if-bytes-lt4.true

pub returns-then-count-gt-SHEET_WORDS : goal.returns-then-count-gt-SHEET_WORDS
returns-then-count-gt-SHEET_WORDS c = too_large _ c.if-bytes-lt4.false _ c.word_in-count.ensures c.if-count-gt-SHEET_WORDS.true

pub returns-then-bytes-n : goal.returns-then-bytes-n
returns-then-bytes-n c = sheet_ends _ c.if-bytes-lt4.false _ c.word_in-count.ensures c.if-count-gt-SHEET_WORDS.false c.if-bytes-n.true

pub slice_bounds-judged-end : goal.slice_bounds-judged-end
slice_bounds-judged-end c = sym (length_zeros _ sheet_words c.if-count-gt-SHEET_WORDS.false)

pub judged-requires : goal.judged-requires
judged-requires c = part_ready _ sheet_words _ c.if-count-gt-SHEET_WORDS.false c.if-bytes-n.false c.word_in-count.ensures

pub returns : goal.returns
returns c =
    c.judged.ensures ∙ whole _ c.if-bytes-lt4.false _ c.word_in-count.ensures c.if-count-gt-SHEET_WORDS.false c.if-bytes-n.false

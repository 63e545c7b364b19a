-- `sheet::head::rows_of` meets its contract: the rows are the head's second word, without the mark of long links where it has that.
use Rattle.sheet.proofs.HeadLaws.{rows_long, rows_short}
use Rattle.sheet.proofs.head.rows_of.Goals as goal

pub returns-then-word-ge-LONG_MARK : goal.returns-then-word-ge-LONG_MARK
returns-then-word-ge-LONG_MARK c = rows_long _ _ c.get-word.ensures c.if-word-ge-LONG_MARK.true

pub returns-else-word-ge-LONG_MARK : goal.returns-else-word-ge-LONG_MARK
returns-else-word-ge-LONG_MARK c = rows_short _ _ c.get-word.ensures c.if-word-ge-LONG_MARK.false

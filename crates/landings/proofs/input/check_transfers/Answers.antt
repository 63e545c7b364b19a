-- `landings::input::check_transfers` meets its contract: the two tests come first, then the cycles behind the transfers decide.
use Rattle.landings.proofs.MessageLaws.{transfers_end, transfers_over, cycles_place_is, transfers_on}
use native.Mathlib.Omega.{arith}
use Rattle.landings.proofs.input.check_transfers.Goals as goal

pub returns-then-bytes-at : goal.returns-then-bytes-at
returns-then-bytes-at c = transfers_end _ _ c.requires.0 c.if-bytes-at.true

pub returns-then-count-gt-MOST_TRANSFERS : goal.returns-then-count-gt-MOST_TRANSFERS
returns-then-count-gt-MOST_TRANSFERS c = transfers_over _ _ c.requires.0 c.if-bytes-at.false c.word_in-count.ensures c.if-count-gt-MOST_TRANSFERS.true

pub check_cycles-requires : goal.check_cycles-requires
check_cycles-requires c = (cycles_place_is _ _ c.requires.0 c.if-bytes-at.false c.word_in-count.ensures, omega arith)

pub returns : goal.returns
returns c =
    transfers_on _ _ c.requires.0 c.if-bytes-at.false c.word_in-count.ensures c.if-count-gt-MOST_TRANSFERS.false c.check_cycles.ensures

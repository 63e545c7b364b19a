-- `landings::input::cycles_in` meets its contract: the transfers are five words each, so their number gives the place.
use Rattle.landings.proofs.MessageLaws.{transfers_there, count_few, all_there, cycles_is}
use native.Mathlib.Omega.{arith}
use Rattle.landings.proofs.input.cycles_in.Goals as goal

pub overflow_add-at : goal.overflow_add-at
overflow_add-at c = omega (arith, (transfers_there _ c.requires.0 _ c.requires.1).1)

pub word_in-requires : goal.word_in-requires
word_in-requires c = (transfers_there _ c.requires.0 _ c.requires.1).0

pub overflow_add-at-2 : goal.overflow_add-at-2
overflow_add-at-2 c =
    omega (
      arith,
      (transfers_there _ c.requires.0 _ c.requires.1).1,
      count_few _ c.requires.0 _ c.requires.1
          c.word_in.ensures,
    )

pub word_in-requires-2 : goal.word_in-requires-2
word_in-requires-2 c = all_there _ c.requires.0 _ c.requires.1 c.word_in.ensures

pub returns : goal.returns
returns c = cycles_is _ c.requires.0 _ c.requires.1 c.word_in.ensures c.word_in-2.ensures

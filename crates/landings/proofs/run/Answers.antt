-- `landings::run` meets its contract: the sheet is the input's, and its memories fit in the room.
use Rattle.landings.proofs.CallLaws.{sheet_good}
use Rattle.landings.proofs.MessageLaws.{whole, sheet_is, memory_size_is}
use Rattle.words.proofs.WordLaws.{length_zeros}
use native.Mathlib.Omega.{arith}
use mathlib.Core.Path.{sym, refl, ◌∙◌}
use Rattle.landings.proofs.run.Goals as goal

pub read_words-requires : goal.read_words-requires
read_words-requires g c = omega (arith, (whole _ c.requires.0).sheet_there)

pub memory_size-size-requires : goal.memory_size-size-requires
memory_size-size-requires g c =
    sheet_good _ c.requires.0 (sheet_is _ c.requires.1 c.read_words.ensures)

pub slice_bounds-memory-end : goal.slice_bounds-memory-end
slice_bounds-memory-end g c =
    omega (
      arith,
      memory_size_is _ c.requires.1 c.read_words.ensures c.memory_size-size.ensures,
      (whole _
          c.requires.0).small_memory,
    )

pub slice_bounds-run_session-end-2 : goal.slice_bounds-run_session-end-2
slice_bounds-run_session-end-2 g c =
    sym (length_zeros _ 4096 (omega (
      arith,
      memory_size_is _ c.requires.1 c.read_words.ensures
          c.memory_size-size.ensures,
      (whole _ c.requires.0).small_memory,
    )))

pub run_session-requires : goal.run_session-requires
run_session-requires g c = (
  record {
    runs = c.requires.0;
    own_sheet = sheet_is _ c.requires.1 c.read_words.ensures;
    zeros = refl;
    enough =
        length_zeros _ 4096 (omega (
          arith,
          memory_size_is _ c.requires.1 c.read_words.ensures
              c.memory_size-size.ensures,
          (whole _ c.requires.0).small_memory,
        )) ∙ memory_size_is _ c.requires.1
        c.read_words.ensures c.memory_size-size.ensures;
  },
  c.requires.2,
)

pub returns-clause-sheet : goal.returns-clause-sheet
returns-clause-sheet g c = sheet_is _ c.requires.1 c.read_words.ensures

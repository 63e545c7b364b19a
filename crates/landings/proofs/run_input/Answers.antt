-- `landings::run_input` meets its contract: the input's sheet fits in the room.
use Rattle.landings.proofs.MessageLaws.{whole}
use Rattle.words.proofs.WordLaws.{length_zeros}
use native.Mathlib.Omega.{arith}
use mathlib.Core.Path.{sym, ◌∙◌}
use Rattle.sheet.specs.Sheet.{sheet_words}
use Rattle.landings.proofs.run_input.Goals as goal

pub word_in-n-requires : goal.word_in-n-requires
word_in-n-requires g c = omega (arith, (whole _ c.requires.0).some)

pub slice_bounds-sheet-end : goal.slice_bounds-sheet-end
slice_bounds-sheet-end g c = omega (arith, c.word_in-n.ensures, (whole _ c.requires.0).small_sheet)

pub slice_bounds-run-end : goal.slice_bounds-run-end
slice_bounds-run-end g c = sym (length_zeros _ sheet_words (omega (arith, c.word_in-n.ensures, (whole _ c.requires.0).small_sheet)))

pub run-requires : goal.run-requires
run-requires g c = (
  c.requires.0,
  length_zeros _ sheet_words (omega (arith, c.word_in-n.ensures, (whole _ c.requires.0).small_sheet)) ∙
      c.word_in-n.ensures,
  c.requires.1,
)

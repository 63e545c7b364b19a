-- `landings::input::check_sheet` meets its contract: the words that were read are the sheet, and its number comes before the rest.
use Rattle.landings.proofs.MessageLaws.{checked_refused, checked_on, memory_size_is}
use mathlib.Core.Path.{refl, sym}
use native.Mathlib.Omega.{arith}
use Rattle.sheet.proofs.CheckLaws.{check_passes}
use Rattle.std.proofs.lemmas.Result.{err_from_is_err_and}
use Rattle.refusal.proofs.AnswerLaws.{is_some}
use Rattle.landings.proofs.input.check_sheet.Goals as goal

pub returns-in_err-verdict : goal.returns-in_err-verdict
returns-in_err-verdict c =
    let p = err_from_is_err_and c.from_residual.result c.from_residual.ensures.1 in
    rw (p.1, p.2) (checked_refused _ c.requires.1 c.read_words.ensures c.in_err-verdict.ensures (is_some _))

pub memory_size-size-requires : goal.memory_size-size-requires
memory_size-size-requires c = check_passes _ (sym c.in_ok-verdict.ensures)

pub check_memory-requires : goal.check_memory-requires
check_memory-requires c =
    (omega arith, omega arith, memory_size_is _ c.requires.1 c.read_words.ensures c.memory_size-size.ensures)

pub returns : goal.returns
returns c =
    checked_on _ c.requires.1 c.read_words.ensures c.in_ok-verdict.ensures refl
    c.check_memory.ensures

-- `session::writing::store` meets its contract: a refusal leaves the memory, and else the word is set at the node's address.
use Rattle.std.proofs.Common.{refl}
use Rattle.refusal.proofs.AnswerLaws.{is_some}
use Rattle.session.proofs.WritingLaws.{memory_kept, memory_written, stored_is}
use Rattle.session.proofs.writing.store.Goals as goal

pub returns-in_err-check_place-clause-memory : goal.returns-in_err-check_place-clause-memory
returns-in_err-check_place-clause-memory c = memory_kept _ _ c.in_err-check_place.ensures (is_some _)

pub returns-clause-memory : goal.returns-clause-memory
returns-clause-memory c = memory_written _ _ c.in_ok-check_place.ensures refl (stored_is _ _ _ _ _ c.put.ensures c.place_of.ensures)

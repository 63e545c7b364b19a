-- `session::cycling::cycle` meets its contract: a refusal by 12 to 14 leaves all words; else the words have passed.
use Rattle.std.proofs.Common.{sym, ◌∙◌}
use Rattle.refusal.proofs.AnswerLaws.{is_some, handed_on}
use Rattle.session.proofs.CyclingLaws.{cycle_early}
use Rattle.session.proofs.WritingLaws.{state_kept, memory_kept}
use Rattle.session.proofs.cycling.cycle.Goals as goal

pub returns-in_err-check_memory : goal.returns-in_err-check_memory
returns-in_err-check_memory c =
    let e = cycle_early _ _ c.in_err-check_memory.ensures (is_some _) in record { answer = handed_on _ _ c.from_residual.ensures ∙ e; state = state_kept _ _ e (is_some _); memory = memory_kept _ _ e (is_some _) }

pub cycle_sound-requires : goal.cycle_sound-requires
cycle_sound-requires c = sym c.in_ok-check_memory.ensures

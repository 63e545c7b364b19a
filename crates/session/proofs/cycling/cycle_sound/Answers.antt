-- `session::cycling::cycle_sound` meets its contract: words that passed 12 to 14 are what a cycle in place requires; its number is the fault's.
use Rattle.session.proofs.CyclingLaws.{passed_ready, cycle_fault_is}
use Rattle.session.proofs.WritingLaws.{state_either, memory_either}
use Rattle.session.proofs.cycling.cycle_sound.Goals as goal

pub step-requires : goal.step-requires
step-requires c = passed_ready _ _ c.requires

pub returns : goal.returns
returns c = let e = cycle_fault_is _ _ c.requires c.step.ensures.number in record { answer = e; state = state_either _ _ e c.step.ensures.state; memory = memory_either _ _ e c.step.ensures.memory }

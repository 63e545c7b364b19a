-- `session::cycling::cycle_live` meets its contract: words that passed 12 to 14 are what a cycle in place requires; its number is the fault's.
use Rattle.session.proofs.CyclingLaws.{passed_ready, cycle_fault_is}
use Rattle.session.proofs.WritingLaws.{state_either, memory_either}
use Rattle.session.proofs.cycling.cycle_live.Goals as goal

pub step_live-requires : goal.step_live-requires
step_live-requires c = (passed_ready _ _ c.requires.0, c.requires.1)

pub returns : goal.returns
returns c = let e = cycle_fault_is _ _ c.requires.0 c.step_live.ensures.number in record { number = e; state = state_either _ _ e c.step_live.ensures.state; memory = memory_either _ _ e c.step_live.ensures.memory; covered = c.step_live.ensures.covered }

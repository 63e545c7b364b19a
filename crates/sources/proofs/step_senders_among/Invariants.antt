-- `sources::step_senders_among` meets its contract: in the loop the circuits that the walk has left behind have stepped, those that were passed rest, and no register that a circuit reads is written before its turn.
use Rattle.sources.proofs.SenderLaws.{Stepping}
use Rattle.sources.proofs.step_senders_among.Given as goal

abbrev pub invariant-loop-c : goal.invariant-loop-c
invariant-loop-c l = Stepping l.initial.s l.acting l.count l.s l.sending l.c-iterator

-- `accept::working::longest_period` meets its contract: in the loop no period of the schedules before `j` exceeds `longest`.
use Rattle.accept.proofs.WorkingLaws.{Longest}
use Rattle.accept.proofs.working.longest_period.Given as goal

abbrev pub invariant-loop-j : goal.invariant-loop-j
invariant-loop-j l = Longest l.frame.words.now l.j l.longest

-- Each turn makes the next start; behind a refusal nothing is done.
use Rattle.landings.proofs.CallLaws.{Starting}
use Rattle.landings.proofs.calls.start_all.Given as goal

abbrev pub invariant-loop-k : goal.invariant-loop-k
invariant-loop-k l = Starting l.bytes l.count l.initial.s l.s l.k

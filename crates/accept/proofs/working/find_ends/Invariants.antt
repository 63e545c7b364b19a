-- `accept::working::find_ends` meets its contract: in the loop the numbers of the circuits before `k` are found;
-- a circuit's nodes are in the grid, so each number fits a word.
use Rattle.accept.proofs.WorkingLaws.{Finding}
use Rattle.accept.proofs.working.find_ends.Given as goal

abbrev pub invariant-loop-k : goal.invariant-loop-k
invariant-loop-k l = Finding l.circuits.frame.words.now l.k l.ends

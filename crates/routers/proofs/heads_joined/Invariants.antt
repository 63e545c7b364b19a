-- `routers::heads_joined` meets its contract: in the loop the marks of the inputs so far are 0 where what they make is.
use Rattle.routers.proofs.InputLaws.{HeadsJoined}
use Rattle.routers.proofs.heads_joined.Given as goal

abbrev pub invariant-loop-input : goal.invariant-loop-input
invariant-loop-input l = HeadsJoined l.s l.k l.input l.joined

-- `quiet::routers_joined` meets its contract: in the loop the words joined so far are 0 where every place so far is empty.
use mathlib.Core.Path.{◌≡◌}
use Rattle.words.specs.Tests.{all, ◌=?◌}
use Rattle.network.specs.Inner.Quiet.{empty_at}
use Rattle.quiet.proofs.routers_joined.Given as goal

abbrev pub invariant-loop-k : goal.invariant-loop-k
invariant-loop-k l = (l.joined =? 0) ≡ all l.k (empty_at l.s)

-- `routers::step_node_heads` meets its contract: the header stages before `input` have been stepped.
use mathlib.Core.Path.{◌≡◌}
use Rattle.routers.specs.Inner.Stepping.{heads_stepped}
use Rattle.routers.proofs.step_node_heads.Given as goal

abbrev pub invariant-loop-input : goal.invariant-loop-input
invariant-loop-input l = l.s ≡ heads_stepped l.input l.initial.s l.k

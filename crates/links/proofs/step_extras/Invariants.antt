-- `links::step_extras` meets its contract: each turn writes the two extra registers of one node; without long links there is none.
use Prim.Native.Nat.{◌*◌}
use mathlib.Core.List.{[]}
use Rattle.network.specs.Registers.{extra_mark, extra_word}
use Rattle.network.specs.Inner.Machine.{next_in_row}
use Rattle.network.proofs.FillLaws.{Staged}
use Rattle.links.proofs.step_extras.Given as goal

abbrev pub invariant-loop-node : goal.invariant-loop-node
invariant-loop-node l = Staged extra_mark extra_word (l.node * 5) (next_in_row l.initial.s []) l.initial.s l.s

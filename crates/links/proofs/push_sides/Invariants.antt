-- `links::push_sides` meets its contract: the links before `side` one after the other.
use mathlib.Core.Path.{◌≡◌}
use Rattle.links.specs.Inner.Linking.{KeptBeside, pushed_sides}
use Rattle.links.proofs.push_sides.Given as goal

abbrev pub invariant-loop-side : goal.invariant-loop-side
invariant-loop-side l = (l.s ≡ pushed_sides l.side l.initial.s l.grid.cols l.grid.rows l.node l.vertical) × KeptBeside l.live l.initial.s l.s

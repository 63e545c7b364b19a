-- `links::sides_joined` meets its contract: where what is joined is 0, nothing comes out of the sides before `side`.
use mathlib.Core.Path.{◌≡◌}
use Rattle.links.proofs.LinkLaws.{NoneTo}
use Rattle.links.proofs.sides_joined.Given as goal

abbrev pub invariant-loop-side : goal.invariant-loop-side
invariant-loop-side l = l.joined ≡ 0 → NoneTo l.s l.node l.vertical l.side

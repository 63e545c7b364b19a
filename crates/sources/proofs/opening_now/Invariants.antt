-- `sources::opening_now` meets its contract: in the loop the circuits before `c` that open a packet are in the mask.
use mathlib.Core.Bool.{false}
use mathlib.Core.Path.{◌≡◌}
use Rattle.sources.specs.Inner.Acting.{opens_in}
use Rattle.sources.proofs.ActingLaws.{Beside}
use Rattle.sources.proofs.opening_now.Given as goal

abbrev pub invariant-loop-c : goal.invariant-loop-c
invariant-loop-c l = Beside (λ k. opens_in l.s k ≡ false) l.opening l.c

-- `scan::sending_in` meets its contract: in the loop the circuits before `c` that the mask has not have nothing to go.
use mathlib.Core.Path.{◌≡◌}
use Rattle.network.specs.Registers.{reg, to_go_row}
use Rattle.sources.proofs.ActingLaws.{Beside}
use Rattle.scan.proofs.sending_in.Given as goal

abbrev pub invariant-loop-c : goal.invariant-loop-c
invariant-loop-c l = Beside (λ n. reg l.s to_go_row n ≡ 0) l.mask l.c

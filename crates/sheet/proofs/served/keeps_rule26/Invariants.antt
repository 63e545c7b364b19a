-- `sheet::served::keeps_rule26` meets its contract. Number 26: in the loop every circuit before `c` has its mark.
use mathlib.Core.Bool.{true}
use mathlib.Core.Path.{◌≡◌}
use Rattle.words.specs.Tests.{all}
use Rattle.sheet.specs.Sheet.{circuits}
use Rattle.sheet.specs.Rules.{is_served}
use Rattle.sheet.proofs.served.keeps_rule26.Given as goal

abbrev pub invariant-loop-c : goal.invariant-loop-c
invariant-loop-c l = (l.c-end ≡ circuits l.z) × (all l.c (is_served l.z) ≡ true)

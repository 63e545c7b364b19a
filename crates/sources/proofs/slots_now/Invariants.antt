-- `sources::slots_now` meets its contract: in the loop the entries before `i` are in the table, of those passed none begins; behind a later entry none begins, and while none begins the table has zeros alone.
use Rattle.network.specs.Registers.{reg, clock_row, in_force_place}
use Rattle.sources.proofs.BeginLaws.{Filling}
use Rattle.sources.proofs.slots_now.Given as goal

abbrev pub invariant-loop-i : goal.invariant-loop-i
invariant-loop-i l = Filling l.z (reg l.s clock_row in_force_place) l.cycle l.entries l.slots l.count l.begins l.i

-- `sources::entries_passed` meets its contract: all entries of the steps that are passed begin before the cycle.
use Prim.Native.Nat.{◌*◌}
use Rattle.sources.specs.Inner.Slots.{BegunBefore}
use Rattle.sources.proofs.entries_passed.Given as goal

abbrev pub invariant-loop-step : goal.invariant-loop-step
invariant-loop-step l = BegunBefore l.entries l.cycle (l.step * 16)

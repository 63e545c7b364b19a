-- `probes::probe_cycles` meets its contract: words that 12 to 14 refuse stay; else each turn is the next inner cycle, until one is refused.
use Rattle.session.specs.Calls.{lend}
use Rattle.probes.proofs.CyclesLaws.{Running}
use Rattle.probes.proofs.probe_cycles.Given as goal

abbrev pub invariant-loop-done : goal.invariant-loop-done
invariant-loop-done l = Running l.count (lend l.initial.s l.initial.m) l.s l.m l.done

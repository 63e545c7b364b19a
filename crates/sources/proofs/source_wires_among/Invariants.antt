-- `sources::source_wires_among` meets its contract: in the loop the circuits that the walk has left behind are on the wires, those that were passed put nothing there, and `fault` says whether one of them was at fault.
use Rattle.sources.proofs.WireLaws.{Wiring}
use Rattle.sources.proofs.source_wires_among.Given as goal

abbrev pub invariant-loop-c : goal.invariant-loop-c
invariant-loop-c l = Wiring l.s l.z l.m l.acting l.count l.marks l.cells l.fault l.wires l.c-iterator

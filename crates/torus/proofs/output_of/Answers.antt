-- `torus::output_of` meets its contract: within each code the entry side is that code or another; a code that is none of 0, 1, 2 is 3.
use native.Mathlib.Omega.{arith}
use Rattle.torus.proofs.RouteLaws.{output_memory, output_side}
use Rattle.torus.proofs.output_of.Goals as goal

pub returns-in-0-entry : goal.returns-in-0-entry
returns-in-0-entry c = output_memory c.in-0.is c.in-0-entry.is

pub returns-in_default-entry : goal.returns-in_default-entry
returns-in_default-entry c = output_side c.in-0.is c.in_default-entry.in_default-entry-own.rest.1

pub returns-in-1-entry : goal.returns-in-1-entry
returns-in-1-entry c = output_memory c.in-1.is c.in-1-entry.is

pub returns-in_default-entry-2 : goal.returns-in_default-entry-2
returns-in_default-entry-2 c = output_side c.in-1.is c.in_default-entry-2.in_default-entry-2-own.rest.1

pub returns-in-2-entry : goal.returns-in-2-entry
returns-in-2-entry c = output_memory c.in-2.is c.in-2-entry.is

pub returns-in_default-entry-3 : goal.returns-in_default-entry-3
returns-in_default-entry-3 c = output_side c.in-2.is c.in_default-entry-3.in_default-entry-3-own.rest.1

pub returns-in-3 : goal.returns-in-3
returns-in-3 c = output_memory (omega arith) c.in-3.is

pub returns-in_default-entry-4 : goal.returns-in_default-entry-4
returns-in_default-entry-4 c = output_side (omega arith) c.in_default-entry-4.in_default-entry-4-own.rest.1

-- `landings::output::write_part` meets its contract: the output is no longer than 16 lines of 60 bytes a cycle, so the place stays in range.
use Rattle.landings.proofs.OutputLaws.{output_short}
use native.Mathlib.Omega.{arith}
use Rattle.landings.proofs.output.write_part.Goals as goal

pub overflow_add-place : goal.overflow_add-place
overflow_add-place g c = omega (arith, c.requires.0, output_short c.args.bytes.now)

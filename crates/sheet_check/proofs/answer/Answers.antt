use Rattle.std.proofs.Common.{ap}
use Rattle.sheet_check.specs.Line.{passes, text_of}
use Rattle.sheet_check.proofs.answer.Goals as goal

pub returns-in-Ok : goal.returns-in-Ok
unfolding passes
returns-in-Ok c = ap text_of c.in-Ok.ensures

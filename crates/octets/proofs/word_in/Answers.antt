-- `octets::word_in` meets its contract: four bytes make a word.
use Rattle.std.proofs.Common.{arith}
use Rattle.octets.specs.Octets.{word_in}
use Rattle.octets.proofs.word_in.Goals as goal

pub returns : goal.returns
unfolding word_in
returns c = omega (arith, c.from_le_bytes.ensures)

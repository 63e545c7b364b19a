-- `network::row_reg` meets its contract: the place is the register's.
use Rattle.std.proofs.Common.{ap, arith}
use Rattle.words.specs.Words.{word}
use Rattle.network.specs.Registers.{reg}
use Rattle.network.proofs.row_reg.Goals as goal

pub returns : goal.returns
unfolding reg
returns c = ap (word c.args.s.now) (omega arith)

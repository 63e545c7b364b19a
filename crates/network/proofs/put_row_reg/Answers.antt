-- `network::put_row_reg` meets its contract: the place is the register's, and the word is the one that is handed over.
use Rattle.std.proofs.Common.{ap₂, set, arith}
use Rattle.network.proofs.put_row_reg.Goals as goal

pub returns : goal.returns
returns c = ap₂ (set c.args.s.now) (omega arith) (omega arith)

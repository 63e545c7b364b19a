-- `network::reg` meets its contract: the word at the row's start and k is the definition's.
use Rattle.network.specs.Registers.{reg}
use Rattle.network.proofs.reg.Goals as goal

pub returns : goal.returns
unfolding reg
returns c = c.get.ensures

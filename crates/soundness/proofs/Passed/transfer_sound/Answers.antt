-- `Passed::transfer_sound` meets its contract: the definition in the order in which code tests it.
use Rattle.std.proofs.Common.{arith}
use Rattle.soundness.proofs.ChainLaws.{chains}
use Rattle.soundness.proofs.SoundnessLaws.{transfer_is}
use Rattle.soundness.proofs.Passed.transfer_sound.Goals as goal

pub returns-then-left-eq0 : goal.returns-then-left-eq0
returns-then-left-eq0 c = let e = transfer_is c.args.self.now.state.now c.args.c in grind (arith, chains)

pub returns-else-left-eq0 : goal.returns-else-left-eq0
returns-else-left-eq0 c = let e = transfer_is c.args.self.now.state.now c.args.c in let own = c.args.self.now.own in grind (arith, chains)

pub returns-else-reg-left : goal.returns-else-reg-left
returns-else-reg-left c = let e = transfer_is c.args.self.now.state.now c.args.c in grind (arith, chains)

-- `sources::step_senders` meets its contract: the mask has every circuit, so that nothing is asked beside it.
use Rattle.std.proofs.Common.{arith}
use Rattle.network.proofs.LiveLaws.{all_circuits}
use Rattle.sources.proofs.step_senders.Goals as goal

pub step_senders_among-requires : goal.step_senders_among-requires
step_senders_among-requires c =
    let few = c.requires.0.framed.headed.circuits_high in (
      c.requires.0,
      c.requires.1,
      record {
        none_to_go = λ k l e. absurd (all_circuits k (omega arith) e);
        none_opens = λ k l e. absurd (all_circuits k (omega arith) e);
      },
    )

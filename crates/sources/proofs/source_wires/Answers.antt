-- `sources::source_wires` meets its contract: the mask has every circuit, so that nothing is asked beside it.
use Rattle.std.proofs.Common.{arith}
use mathlib.Core.Path.{◌∙◌}
use Rattle.network.proofs.LiveLaws.{all_circuits}
use Rattle.sources.proofs.WireLaws.{refused_is}
use Rattle.sources.proofs.source_wires.Goals as goal

pub source_wires_among-requires : goal.source_wires_among-requires
source_wires_among-requires c =
    let few = c.requires.1.framed.headed.circuits_high in (
      c.requires.0,
      record {
        none_to_go = λ k l e. absurd (all_circuits k (omega arith) e);
        none_opens = λ k l e. absurd (all_circuits k (omega arith) e);
      },
      c.requires.2,
      c.requires.3,
      c.requires.4,
    )

pub returns-clause-fault : goal.returns-clause-fault
returns-clause-fault c = c.is_err.ensures.value ∙ refused_is _ _ c.source_wires_among.ensures.fault

-- `sources::Sender::header` meets its contract: the three parts fit, since the state is sendable, so a header is built.
use Rattle.sources.proofs.SentLaws.{parts, header_refused}
use Rattle.sources.proofs.Sender.header.Goals as goal

pub returns-in-Err : goal.returns-in-Err
returns-in-Err c =
    let p = parts _ _ _ _ _ c.reg-kind.ensures c.reg-address.ensures c.slot.ensures.route in
    absurd (header_refused _ _ c.requires.0 _ c.args.self.now.inside c.requires.1 _ _ _ p _ c.new.ensures _ c.in-Err.is)

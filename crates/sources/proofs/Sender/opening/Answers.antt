-- `sources::Sender::opening` meets its contract: a circuit that opens a packet is in its mask, any other opens none.
use mathlib.Core.Path.{sym, ◌∙◌}
use Rattle.sources.proofs.BeginLaws.{no_slot}
use Rattle.sources.proofs.ActingLaws.{none_begun}
use Rattle.sources.proofs.Sender.opening.Goals as goal
use Rattle.sources.proofs.Sender.opening.Goals.{else-get-ne0-via-then-get-ne0+else-opens, else-get-ne0-via-else-get-ne0}

pub returns-else-get-ne0 : goal.returns-else-get-ne0
returns-else-get-ne0 c = let s = c.args.self.now in
    elim c.else-get-ne0.branch [
      | else-get-ne0-via-then-get-ne0+else-opens w ↦ λ free. sym w.opens.ensures ∙ w.if-opens.false
      | else-get-ne0-via-else-get-ne0 w ↦ λ free. none_begun _ _ (no_slot _ _ s.paired _ s.table _ s.inside _ c.get.ensures w.if-get-ne0.false)
    ]

-- `inbound::is_inbound` meets its contract: no packet is arriving, and then some place has a header for the region or none has.
use mathlib.Core.Path.{refl, ◌∙◌}
use native.Mathlib.Omega.{arith}
use Rattle.std.proofs.Common.{rules}
use Rattle.words.proofs.RangeLaws.{any_range}
use Rattle.network.specs.Inbound.{header_inbound}
use Rattle.inbound.proofs.SearchLaws.{receives, inbound_arriving, inbound_placed}
use Rattle.inbound.proofs.is_inbound.Goals as goal

pub returns-then-is_arriving : goal.returns-then-is_arriving
returns-then-is_arriving c =
    let a = c.args in
    c.if-is_arriving.true ∙ inbound_arriving a.s.now a.circuit (receives a.s.now a.circuit c.sheet_of-z.ensures c.at.ensures)
    c.is_arriving.ensures c.if-is_arriving.true

pub returns-else-is_arriving : goal.returns-else-is_arriving
returns-else-is_arriving c =
    let a = c.args in
    inbound_placed a.s.now a.circuit c.sheet_of-z.ensures (receives a.s.now a.circuit c.sheet_of-z.ensures c.at.ensures)
    c.is_arriving.ensures c.if-is_arriving.false (omega arith)
    (any_range (header_inbound a.s.now c.at.result.receive) refl refl c.any.ensures.ran (λ x b q k. search rules))

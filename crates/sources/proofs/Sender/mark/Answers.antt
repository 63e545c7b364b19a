-- `sources::Sender::mark` meets its contract: 1 where a packet opens, else by the words that are to go.
use native.Mathlib.Omega.{arith}
use Rattle.sources.proofs.SourceLaws.{mark_opens, mark_rests, mark_last, mark_more}
use Rattle.sources.proofs.Sender.mark.Goals as goal

pub returns-then-opens : goal.returns-then-opens
returns-then-opens c = mark_opens _ _ _ c.opens.ensures c.if-opens.true

pub returns-in-0 : goal.returns-in-0
returns-in-0 c = mark_rests _ _ _ c.opens.ensures c.if-opens.false _ c.reg.ensures c.in-0.is

pub returns-in-1 : goal.returns-in-1
returns-in-1 c = mark_last _ _ _ c.opens.ensures c.if-opens.false _ c.reg.ensures c.in-1.is

pub returns-in_default : goal.returns-in_default
returns-in_default c = mark_more _ _ _ c.opens.ensures c.if-opens.false _ c.reg.ensures (λ z. omega arith) (λ z. omega arith)

-- `sources::Sender::word` meets its contract: the header where a packet opens, else by the words that are to go.
use Rattle.sources.proofs.SentLaws.{opens_left, word_opens, word_rests, word_sends}
use Rattle.sources.proofs.Sender.word.Goals as goal

pub header-requires : goal.header-requires
header-requires c = (c.requires, opens_left _ _ _ c.opens.ensures c.if-opens.true)

pub returns-then-opens : goal.returns-then-opens
returns-then-opens c = word_opens _ _ _ c.opens.ensures _ _ c.header.ensures c.if-opens.true

pub returns-then-reg-eq0 : goal.returns-then-reg-eq0
returns-then-reg-eq0 c = word_rests _ _ _ c.opens.ensures _ c.if-opens.false _ c.reg.ensures c.if-reg-eq0.true

pub returns-else-reg-eq0 : goal.returns-else-reg-eq0
returns-else-reg-eq0 c = word_sends _ _ _ c.opens.ensures _ c.if-opens.false _ c.reg.ensures _ c.payload.ensures c.if-reg-eq0.false

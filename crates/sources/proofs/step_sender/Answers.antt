-- `sources::step_sender` meets its contract: the tests are those of the circuit's move, and each move writes its registers; none is to go for a circuit that has no words left, that rests, or that has sent its packet's last word.
use Rattle.sources.proofs.SenderLaws.{step_none, step_opens, step_rests, step_sends, sent_last}
use Rattle.sources.proofs.step_sender.Goals as goal

pub returns-then-left-eq0-clause-state : goal.returns-then-left-eq0-clause-state
returns-then-left-eq0-clause-state c = step_none _ _ _ c.reg-left.ensures c.requires.3 c.if-left-eq0.true

pub returns-then-slot-ne0-clause-state : goal.returns-then-slot-ne0-clause-state
returns-then-slot-ne0-clause-state c = step_opens _ _ _ c.reg-left.ensures c.if-left-eq0.false _ c.slot-slot.ensures.size c.if-slot-ne0.true _ c.min.ensures _ c.put_reg.ensures

pub returns-then-to_go-eq0-clause-state : goal.returns-then-to_go-eq0-clause-state
returns-then-to_go-eq0-clause-state c = step_rests _ _ _ c.reg-left.ensures c.if-left-eq0.false _ c.slot-slot.ensures.size c.if-slot-ne0.false _ c.reg-to_go.ensures c.if-to_go-eq0.true

pub returns-then-to_go-eq1 : goal.returns-then-to_go-eq1
returns-then-to_go-eq1 c = record { state = step_sends _ _ _ c.reg-left.ensures c.if-left-eq0.false _ c.slot-slot.ensures.size c.if-slot-ne0.false _ c.reg-to_go.ensures c.if-to_go-eq0.false _ c.send_word.ensures; sending = λ free. sent_last _ c.requires.0 _ c.requires.2 _ c.reg-to_go.ensures c.if-to_go-eq1.true _ c.send_word.ensures }

pub returns-clause-state : goal.returns-clause-state
returns-clause-state c = step_sends _ _ _ c.reg-left.ensures c.if-left-eq0.false _ c.slot-slot.ensures.size c.if-slot-ne0.false _ c.reg-to_go.ensures c.if-to_go-eq0.false _ c.send_word.ensures

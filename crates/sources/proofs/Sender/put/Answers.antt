-- `sources::Sender::put` meets its contract: where the circuit puts a mark, only its source's wire changes, and the faults are those of that wire.
use Rattle.sources.proofs.WireLaws.{idle_fault, idle_marks, idle_words, put_fault, put_marks, put_words}
use Rattle.sources.proofs.Sender.put.Goals as goal

pub returns-then-mark-eq0 : goal.returns-then-mark-eq0
returns-then-mark-eq0 c = record {
  fault = idle_fault _ _ _ c.mark-mark.ensures c.if-mark-eq0.true;
  marks = idle_marks _ _ _ c.mark-mark.ensures c.if-mark-eq0.true _ c.requires.1;
  cells = idle_words _ _ _ c.mark-mark.ensures c.if-mark-eq0.true _ _ c.requires.2;
}

pub returns : goal.returns
returns c = record {
  fault = put_fault _ _ c.requires.0 _ c.args.self.now.inside _ c.mark-mark.ensures c.if-mark-eq0.false _ c.at-node.ensures _ c.requires.1 _ _
      c.put_on_wire-crowds.ensures.taken c.reopens.ensures;
  marks = put_marks _ _ c.requires.0 _ c.args.self.now.inside _ c.mark-mark.ensures c.if-mark-eq0.false _ c.at-node.ensures _ c.requires.1 _
      c.put_on_wire-crowds.ensures.marks;
  cells = put_words _ _ c.requires.0 _ c.args.self.now.inside _ c.mark-mark.ensures c.if-mark-eq0.false _ c.at-node.ensures _ c.requires.1 _ _
      c.word.ensures _ _ c.requires.2 c.put_on_wire-crowds.ensures.cells;
}

-- `receivers::receiving::next_receiver` meets its contract, mark by mark: a word that lands has a small address.
use Rattle.std.proofs.Common.{arith}
use Rattle.receivers.proofs.UnitLaws.{mark_header, mark_last, mark_held, kind_header, kind_held, address_header, address_next, address_held}
use Rattle.receivers.proofs.receiving.next_receiver.Goals as goal

pub returns-then-word_mark-eq1 : goal.returns-then-word_mark-eq1
returns-then-word_mark-eq1 c =
    let mark = c.memory_mark-word_mark.ensures in
    let header = c.if-word_mark-eq1.true in
    record {
      mark = mark_header _ _ _ mark header;
      kind = kind_header _ _ _ mark _ _ c.memory_word.ensures c.kind.ensures header;
      address = address_header _ _ _ mark _ _ c.memory_word.ensures c.address.ensures header;
    }

pub returns-in-0 : goal.returns-in-0
returns-in-0 c =
    let mark = c.memory_mark-word_mark.ensures in
    let other = c.if-word_mark-eq1.false in
    record {
      mark = mark_held _ _ _ mark _ c.reg-mark.ensures other (omega arith);
      kind = kind_held _ _ _ mark _ c.reg-kind.ensures other;
      address = address_held _ _ _ mark _ c.reg-address.ensures other (omega arith);
    }

pub returns-in-2 : goal.returns-in-2
returns-in-2 c =
    let mark = c.memory_mark-word_mark.ensures in
    let other = c.if-word_mark-eq1.false in
    record {
      mark = mark_held _ _ _ mark _ c.reg-mark.ensures other (omega arith);
      kind = kind_held _ _ _ mark _ c.reg-kind.ensures other;
      address = address_next _ _ _ mark _ c.reg-address.ensures other (omega arith);
    }

pub returns-in_default : goal.returns-in_default
returns-in_default c =
    let mark = c.memory_mark-word_mark.ensures in
    let other = c.if-word_mark-eq1.false in
    record {
      mark = mark_last _ _ _ mark other (omega arith);
      kind = kind_held _ _ _ mark _ c.reg-kind.ensures other;
      address = address_next _ _ _ mark _ c.reg-address.ensures other (omega arith);
    }

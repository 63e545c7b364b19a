-- `sources::Sender::slot` meets its contract: the table has the entry that begins, and its length and route are the slot's.
use Rattle.sources.proofs.BeginLaws.{no_slot, no_route, slot_inside, slot_size, slot_route_is}
use Rattle.sources.proofs.Sender.slot.Goals as goal

pub returns-then-found-eq0 : goal.returns-then-found-eq0
returns-then-found-eq0 c = let s = c.args.self.now in record {
  size = no_slot _ _ s.paired _ s.table _ s.inside _ c.get-found.ensures c.if-found-eq0.true;
  route = no_route _ _ s.paired _ s.table _ s.inside _ c.get-found.ensures c.if-found-eq0.true;
}

pub at-requires : goal.at-requires
at-requires c = let s = c.args.self.now in
    slot_inside _ _ s.paired _ s.table _ s.inside _ c.get-found.ensures c.if-found-eq0.false _ c.reg-schedule.ensures _ c.entries_of.ensures

pub returns : goal.returns
returns c = let s = c.args.self.now in record {
  size = slot_size _ _ s.paired _ s.table _ s.inside _ c.get-found.ensures c.if-found-eq0.false _ c.reg-schedule.ensures
      _ c.entries_of.ensures _ c.at.ensures;
  route = slot_route_is _ _ s.paired _ s.table _ s.inside _ c.get-found.ensures c.if-found-eq0.false _ c.reg-schedule.ensures
      _ c.entries_of.ensures _ c.at.ensures;
}

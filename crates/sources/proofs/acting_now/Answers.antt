-- `sources::acting_now` meets its contract: where a slot begins, the circuits that open a packet join those amid one; where none begins, none opens.
use Rattle.sources.proofs.ActingLaws.{acting_some, acting_none}
use Rattle.sources.proofs.acting_now.Goals as goal

pub returns-then-slots_now : goal.returns-then-slots_now
returns-then-slots_now c = record { table = c.slots_now.ensures.table; acting = acting_some _ _ c.requires.0 _ c.requires.3 _ c.opening_now.ensures }

pub returns : goal.returns
returns c = record { table = c.slots_now.ensures.table; acting = acting_none _ _ c.requires.0 _ c.requires.3 _ c.slots_now.ensures.table (c.slots_now.ensures.none c.if-slots_now.false) }

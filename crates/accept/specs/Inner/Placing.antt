-- An entry's wires in a table that has so many words a wire: its slot begins at a word and a bit of it, and each wire is taken there, by its
-- delay later. So all of a packet's places on a wire lie in the two words from that one on.
use Rattle.std.specs.Prelude.{ℕ, ◌+◌, ◌*◌, ◌/◌, ◌<◌, ◌≤◌, List, map, true, false, ◌≡◌}
use Rattle.torus.specs.Route.{Use, leads, no_side, router_cycles, codes, follow}
use Rattle.torus.specs.Inner.Paths.{wires_per_node}
use Rattle.sheet.specs.declared.entries.Entry.{Entry}
use Rattle.sheet.specs.Sheet.{columns, rows, is_long, schedules, nodes, period}
use Rattle.sheet.specs.Slots.{source_of, destination_of}
use Rattle.sheet.specs.Wires.{occupied}
use Rattle.sheet.specs.Rules.{each_entry, entry_leads, entry_ends, rule4, rule7_at, rule8_at, rule11_at}
use Rattle.sheet.specs.Inner.Passed.{Framed}
use Rattle.occupancy.specs.Inner.Occupancy.{any_taken, Takes}
use Rattle.routes.specs.Inner.Joined.{Joined, circuit_span}
use Rattle.clash.specs.Inner.Table.{place_of, entry_places}
use Rattle.accept.specs.Inner.Working.{Neighbours, ends_word, Ends}

-- the words of a wire in a schedule of a period: room for the period's cycles, and a word more
abbrev pub row_words : ℕ → ℕ
row_words P = P / 32 + 2

-- the places of a wire in a table of so many words a wire
abbrev pub row_places : ℕ → ℕ
row_places stride = 32 * stride

-- an entry whose numbers are in their ranges, in a table with room for each wire of the grid
pub record Placeable (room : ℕ) (near z : List ℕ) (ends stride : ℕ) (e : Entry) : Type 0 where
  pub joined : Joined z e
  pub offset_small : e.offset < 1024
  pub size_low : 2 ≤ e.size
  pub size_high : e.size ≤ 16
  pub in_row : e.offset / 32 + 2 ≤ stride
  pub stride_small : stride ≤ 34
  pub ends_are : ends ≡ ends_word z e.circuit
  pub neighbours : Neighbours (columns z) (rows z) near
  pub holds_wires : nodes z * wires_per_node * stride ≤ room

-- the entry's route leads from its source's router to its destination in no more cycles than the span, none of the places of its outputs was
-- taken, and now they are
pub record FollowedFree (before after z : List ℕ) (stride : ℕ) (e : Entry) : Type 0 where
  pub uses : List Use
  pub hops : ℕ
  pub vertical : ℕ
  pub led : follow codes (columns z) (rows z) (is_long z) (source_of z e.circuit) no_side router_cycles e.route
      ≡ leads uses (destination_of z e.circuit) hops vertical
  pub in_time : router_cycles * hops + vertical ≤ circuit_span z e.circuit
  pub free : any_taken before (map (place_of (row_places stride)) (occupied uses e.size e.offset)) ≡ false
  pub now_taken : Takes before after (map (place_of (row_places stride)) (occupied uses e.size e.offset))

-- the entry's route leads to its destination, none of its places was taken, and now they are
pub record PlacedFree (before after z : List ℕ) (stride : ℕ) (e : Entry) : Type 0 where
  pub leads_there : entry_leads z e ≡ true
  pub free : any_taken before (entry_places (row_places stride) z e) ≡ false
  pub now_taken : Takes before after (entry_places (row_places stride) z e)

-- a sheet whose circuits have passed, what was worked out of it, and a table with room for schedule j
pub record Schedulable (room : ℕ) (near z ends : List ℕ) (j : ℕ) : Type 0 where
  pub framed : Framed z
  pub circuits_fit : rule4 z ≡ true
  pub here : j < schedules z
  pub neighbours : Neighbours (columns z) (rows z) near
  pub ends_are : Ends z ends
  pub holds_wires : nodes z * wires_per_node * row_words (period z j) ≤ room

-- schedule j keeps the numbers 7 to 11
pub record ScheduleKept (z : List ℕ) (j : ℕ) : Type 0 where
  pub fits : rule7_at z j ≡ true
  pub ascends : rule8_at z j ≡ true
  pub leads : each_entry z j (entry_leads z) ≡ true
  pub ends : each_entry z j (entry_ends z (period z j)) ≡ true
  pub apart : rule11_at z j ≡ true

-- the first n schedules keep the numbers 7 to 11
pub record KeptAll (z : List ℕ) (n : ℕ) : Type 0 where
  pub each : (j : ℕ) → j < n → ScheduleKept z j

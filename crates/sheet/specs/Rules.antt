-- The rules 1 to 11 of document 01, "Refusals, in checking order", and 26 of document 02, L8: each as a test that a sheet keeps the
-- rule, and the number of the first rule that it does not keep. All sums are of natural numbers: nothing wraps.
use Rattle.std.specs.Prelude.{ℕ, ◌+◌, ◌-◌, ◌*◌, List, [], ◌∷◌, ◌++◌, Bool, true, false, not, length}
use Rattle.words.specs.Tests.{all, any, between, ◌and◌, ◌or◌, ◌≤?◌, ◌<?◌, ◌=?◌, ◌≠?◌}
use Rattle.torus.specs.Route.{Use, Route, leads, nowhere, route_from, router_cycles}
use Rattle.sheet.specs.declared.circuits.Region.{Region}
use Rattle.sheet.specs.declared.circuits.Circuit.{Circuit}
use Rattle.sheet.specs.declared.entries.Entry.{Entry}
use Rattle.sheet.specs.Sheet.{meant, columns, rows, is_long, memory_words, circuits, schedules, nodes, circuit_at, stated_entries, schedule_place, period, entries_of, entry_count, entry_at}
use Rattle.sheet.specs.Slots.{source_of, destination_of}
use Rattle.sheet.specs.Flight.{hops_of}
use Rattle.sheet.specs.Wires.{WireCycle, occupied, meet}

-- Number 1: the sheet has its five head words.
unfoldable pub rule1 : List ℕ → Bool
rule1 z = 5 ≤? length z

-- Number 2: each head number is in its range.
unfoldable pub rule2 : List ℕ → Bool
rule2 z =
    between 2 4 (columns z)
    and between 2 4 (rows z)
    and between 1 16384 (memory_words z)
    and between 0 64 (circuits z)
    and between 1 8 (schedules z)

-- Number 3: each schedule begins within the sheet and states at most 256 entries, and the last one ends where the sheet ends.
unfoldable pub schedule_fits : List ℕ → ℕ → Bool
schedule_fits z j = schedule_place z j + 2 ≤? length z and stated_entries z (schedule_place z j) ≤? 256

unfoldable pub rule3 : List ℕ → Bool
rule3 z = all (schedules z) (schedule_fits z) and schedule_place z (schedules z) =? length z

-- a region has a word, and ends within the memory
unfoldable pub region_fits : ℕ → Region → Bool
region_fits memory r = 1 ≤? r.size and r.offset + r.size ≤? memory

-- Number 4: each circuit joins two different nodes of the grid, and its two regions fit.
unfoldable pub circuit_fits : ℕ → ℕ → Circuit → Bool
circuit_fits count memory c =
    c.read.node <? count
    and c.receive.node <? count
    and c.read.node ≠? c.receive.node
    and region_fits memory c.read
    and region_fits memory c.receive

unfoldable pub rule4 : List ℕ → Bool
rule4 z = all (circuits z) (λ k. circuit_fits (nodes z) (memory_words z) (circuit_at z k))

-- (a, b) comes before (c, d): by the first, and by the second where the first are equal
unfoldable pub precedes : ℕ → ℕ → ℕ → ℕ → Bool
precedes a b c d = a <? c or a =? c and b <? d

-- Number 5: each circuit comes before the next one, by destination and receive offset.
unfoldable pub circuit_precedes : Circuit → Circuit → Bool
circuit_precedes a b = precedes a.receive.node a.receive.offset b.receive.node b.receive.offset

unfoldable pub rule5 : List ℕ → Bool
rule5 z = all (circuits z - 1) (λ k. circuit_precedes (circuit_at z k) (circuit_at z (k + 1)))

-- two regions share no word: they are at different nodes, or one ends before the other begins
unfoldable pub apart : Region → Region → Bool
apart a b = a.node ≠? b.node or a.offset + a.size ≤? b.offset or b.offset + b.size ≤? a.offset

-- Number 6: each circuit's receive region is apart from every other circuit's receive region and from every read region.
unfoldable pub receive_apart : List ℕ → ℕ → ℕ → Bool
receive_apart z j k =
    (j =? k or apart (circuit_at z j).receive (circuit_at z k).receive) and apart (circuit_at z j).receive (circuit_at z k).read

unfoldable pub rule6 : List ℕ → Bool
rule6 z = all (circuits z) (λ j. all (circuits z) (receive_apart z j))

-- a test of each entry of schedule j
unfoldable pub each_entry : List ℕ → ℕ → (Entry → Bool) → Bool
each_entry z j test = all (entry_count (entries_of z j)) (λ i. test (entry_at (entries_of z j) i))

-- Number 7: each period is in its range, each offset is below its period, and each length, circuit and route is in its range.
unfoldable pub entry_fits : ℕ → ℕ → Entry → Bool
entry_fits count P e = e.offset <? P and between 2 16 e.size and e.circuit <? count and e.route ≤? 65535

unfoldable pub rule7_at : List ℕ → ℕ → Bool
rule7_at z j = between 9 1024 (period z j) and each_entry z j (entry_fits (circuits z) (period z j))

unfoldable pub rule7 : List ℕ → Bool
rule7 z = all (schedules z) (rule7_at z)

-- Number 8: each entry comes before the next one of its schedule, by offset and circuit.
unfoldable pub entry_precedes : Entry → Entry → Bool
entry_precedes a b = precedes a.offset a.circuit b.offset b.circuit

unfoldable pub rule8_at : List ℕ → ℕ → Bool
rule8_at z j =
    all (entry_count (entries_of z j) - 1) (λ i. entry_precedes (entry_at (entries_of z j) i) (entry_at (entries_of z j) (i + 1)))

unfoldable pub rule8 : List ℕ → Bool
rule8 z = all (schedules z) (rule8_at z)

-- where an entry's route leads from its circuit's source
unfoldable pub entry_route : List ℕ → Entry → Route
entry_route z e = route_from (columns z) (rows z) (is_long z) (source_of z e.circuit) e.route

-- a route leads to a node in at most so many hops
abbrev pub reaches : Route → ℕ → ℕ → Bool
reaches (leads uses node hops vertical) to most = node =? to and hops ≤? most
reaches nowhere to most = false

-- Number 9: each route leads to its circuit's destination with no bits left, in no more hops than the distance.
unfoldable pub entry_leads : List ℕ → Entry → Bool
entry_leads z e = reaches (entry_route z e) (destination_of z e.circuit) (hops_of z e.circuit)

unfoldable pub rule9 : List ℕ → Bool
rule9 z = all (schedules z) (λ j. each_entry z j (entry_leads z))

-- the hops of a route: document 01's word for its side outputs
abbrev pub route_hops : Route → ℕ
route_hops (leads uses node hops vertical) = hops
route_hops nowhere = 0

-- how many of them are over long links (document 02's v)
abbrev pub route_vertical : Route → ℕ
route_vertical (leads uses node hops vertical) = vertical
route_vertical nowhere = 0

-- Number 10: offset + length − 1 + 3 × hops + v is at most the period + 2.
unfoldable pub entry_ends : List ℕ → ℕ → Entry → Bool
entry_ends z P e =
    e.offset + e.size - 1 + router_cycles * route_hops (entry_route z e) + route_vertical (entry_route z e) ≤? P + 2

unfoldable pub rule10 : List ℕ → Bool
rule10 z = all (schedules z) (λ j. each_entry z j (entry_ends z (period z j)))

abbrev pub uses_of : Route → List Use
uses_of (leads uses node hops vertical) = uses
uses_of nowhere = []

-- the wires that an entry occupies, each in which cycles, whether its slot is filled or not
unfoldable pub entry_occupied : List ℕ → Entry → List WireCycle
entry_occupied z e = occupied (uses_of (entry_route z e)) e.size e.offset

-- Number 11: no two entries of one schedule occupy one wire in one cycle.
unfoldable pub rule11_at : List ℕ → ℕ → Bool
rule11_at z j =
    all (entry_count (entries_of z j))
    (λ i. all i (λ k. not (meet (entry_occupied z (entry_at (entries_of z j) i)) (entry_occupied z (entry_at (entries_of z j) k)))))

unfoldable pub rule11 : List ℕ → Bool
rule11 z = all (schedules z) (rule11_at z)

-- one of a schedule's entries is a slot of circuit c
unfoldable pub serves : List ℕ → ℕ → Bool
serves entries c = any (entry_count entries) (λ i. (entry_at entries i).circuit =? c)

-- some schedule has an entry of circuit c
unfoldable pub is_served : List ℕ → ℕ → Bool
is_served z c = any (schedules z) (λ j. serves (entries_of z j) c)

-- Number 26: each circuit has an entry in some schedule.
unfoldable pub rule26 : List ℕ → Bool
rule26 z = all (circuits z) (is_served z)

-- a rule: the number of its refusal, and the test that a sheet keeps it
pub record Rule : Type 0 where
  pub number : ℕ
  pub keeps : List ℕ → Bool

-- the rules in checking order: those of the frame, of the circuits, and of the entries
abbrev pub frame_rules : List Rule
frame_rules =
    record { number = 1; keeps = rule1 } ∷ record { number = 2; keeps = rule2 } ∷ record { number = 3; keeps = rule3 } ∷ []

abbrev pub circuit_rules : List Rule
circuit_rules =
    record { number = 4; keeps = rule4 } ∷ record { number = 5; keeps = rule5 } ∷ record { number = 6; keeps = rule6 } ∷ []

abbrev pub entry_rules : List Rule
entry_rules =
    record { number = 7; keeps = rule7 }
    ∷ record { number = 8; keeps = rule8 }
    ∷ record { number = 9; keeps = rule9 }
    ∷ record { number = 10; keeps = rule10 }
    ∷ record { number = 11; keeps = rule11 }
    ∷ []

abbrev pub sheet_rules : List Rule
sheet_rules = frame_rules ++ (circuit_rules ++ entry_rules)

-- the number of the first rule of a list that a sheet does not keep, 0 where it keeps them all
unfoldable pub first_broken : List Rule → List ℕ → ℕ
first_broken [] z = 0
first_broken (r ∷ rules) z = elim (r.keeps z) [ true ↦ first_broken rules z | false ↦ r.number ]

-- the first of the numbers 1 to 11 of a sheet's words as they stand, 0 where it keeps these rules
unfoldable pub verdict : List ℕ → ℕ
verdict z = first_broken sheet_rules z

-- the first of the numbers 1 to 11 of the words that a caller hands over
abbrev pub sheet_number : List ℕ → ℕ
sheet_number z = verdict (meant z)

-- the rules of the checker and of load: 26 directly after 11
abbrev pub check_rules : List Rule
check_rules = sheet_rules ++ (record { number = 26; keeps = rule26 } ∷ [])

-- the checker's number of the words that a caller hands over: 0 where the sheet passes, else the number of its refusal
abbrev pub check_number : List ℕ → ℕ
check_number z = first_broken check_rules (meant z)

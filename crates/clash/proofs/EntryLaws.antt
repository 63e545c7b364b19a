-- An entry that has passed the rules 9 and 10: its wires lie in the table, its places are those of its route, and two entries meet
-- exactly where their places share one.
-- Assumes nothing.
use Prim.Native.Nat.{ℕ, ◌+◌, ◌*◌, ◌<◌, ◌≤◌}
use mathlib.Core.Bool.{Bool, true, false, not, false≢true}
use mathlib.Core.List.{List, map}
use mathlib.Core.Path.{◌≡◌, refl, sym, ◌∙◌, ap, subst}
use native.Mathlib.Omega.{arith}
use native.Mathlib.Nat.{zero-add}
use lib.ListN.{length, replicate, length-map, length-replicate}
use Rattle.words.specs.Tests.{all}
use Rattle.words.specs.Words.{word}
use Rattle.words.specs.Inner.Puts.{put_all}
use Rattle.words.proofs.AllLaws.{all_none, all_more, all_done, all_fails, all_at, all_same}
use Rattle.words.proofs.WordLaws.{put_all_at}
use Rattle.torus.specs.Inner.Grid.{InGrid}
use Rattle.torus.specs.Route.{Use, Route, leads, nowhere, route_from}
use Rattle.torus.specs.Inner.Paths.{path_of}
use Rattle.torus.specs.Inner.Delays.{last_delay}
use Rattle.std.specs.Prelude.{Option}
use Rattle.std.specs.declared.option.Option.TheVariants.{Some, None}
use Rattle.torus.specs.declared.Path.{Path}
use Rattle.torus.proofs.RouteLaws.{SmallUses, wires_of, delays_of, uses_small, uses_length, hops_high, wires_small, delays_small}
use Rattle.sheet.specs.declared.entries.Entry.{Entry}
use Rattle.sheet.specs.declared.circuits.Circuit.{Circuit}
use Rattle.sheet.specs.Sheet.{columns, rows, is_long, nodes, schedules, circuit_at, period, entries_of, entry_count, entry_at}
use Rattle.sheet.specs.Wires.{occupied, meet}
use Rattle.sheet.specs.Slots.{destination_of}
use Rattle.sheet.specs.Flight.{hops_of}
use Rattle.sheet.specs.Rules.{entry_route, entry_leads, entry_occupied, reaches, uses_of, each_entry, rule9, rule11_at}
use Rattle.sheet.specs.Inner.Passed.{Routed}
use Rattle.sheet.proofs.PassedLaws.{entry_small, period_range}
use Rattle.sheet.proofs.TimeLaws.{entry_in_time}
use Rattle.occupancy.specs.Inner.Occupancy.{any_taken, Takes}
use Rattle.clash.specs.Inner.Table.{place_of, entry_places, places, Held, Free, TakenOrKept, Placeable, HoldsAllWires}
use Rattle.clash.proofs.ShareLaws.{share, HoldsPlaces, holds_none, holds_more, free_where}
use Rattle.clash.proofs.WireLaws.{Fitting, meet_places, packet_places, fitting_packet, row_ends}

module _ (room : ℕ) (z : List ℕ) (e : Entry) (stride : ℕ) (p : Placeable room z e stride) where
  -- the route leads somewhere
  record LeadingEntry : Type 0 where
    uses : List Use
    node : ℕ
    hops : ℕ
    vertical : ℕ
    route : entry_route z e ≡ leads uses node hops vertical

  leading : LeadingEntry
  unfolding entry_leads
  leading = go (entry_route z e) refl p.leads_there
    where
      go : (r : Route) → entry_route z e ≡ r
          → reaches r (destination_of z e.circuit) (hops_of z e.circuit) ≡ true → LeadingEntry
      go (leads uses node hops vertical) q h = record { uses = uses; node = node; hops = hops; vertical = vertical; route = q }
      go nowhere q h = absurd (false≢true h)

  module _ (l : LeadingEntry) where
    -- the delay of the route's last use
    abbrev last : ℕ
    last = last_delay (leads l.uses l.node l.hops l.vertical)

    small : SmallUses (nodes z * 6) last l.uses
    unfolding entry_route
    small = uses_small _ _ _ _ _ p.source_inside _ _ _ _ l.route

    counted : length l.uses ≡ l.hops + 2
    unfolding entry_route
    counted = uses_length _ _ _ _ _ p.source_inside _ _ _ _ l.route

    few : l.hops ≤ 7
    unfolding entry_route
    few = hops_high _ _ _ _ _ p.source_inside _ _ _ _ l.route

    ends : e.offset + last + e.size ≤ stride
    ends = omega (arith, p.in_time, ap last_delay l.route)

    occupied_is : occupied l.uses e.size e.offset ≡ entry_occupied z e
    unfolding entry_occupied
    occupied_is = ap (λ (r : Route). occupied (uses_of r) e.size e.offset) (sym l.route)

    fitting : Fitting stride (entry_occupied z e)
    fitting =
        subst (Fitting stride) occupied_is
        (fitting_packet stride (nodes z * 6) last l.uses e.size e.offset small ends)

    -- the answer of following the entry's route
    leads_on : None ≡ path_of (entry_route z e) → ⊥
    leads_on q = let none : None ≡ path_of (leads l.uses l.node l.hops l.vertical) = q ∙ ap path_of l.route in cc

    module _ (path : Path) (q : Some path ≡ path_of (entry_route z e)) where
      path_is : Some path ≡ path_of (leads l.uses l.node l.hops l.vertical)
      path_is = q ∙ ap path_of l.route

      abbrev field : (Path → ℕ) → Option Path → ℕ
      field f None = 0
      field f (Some x) = f x

      hops_is : path.hops ≡ l.hops
      hops_is = ap (field (λ x. x.hops)) path_is

      row : (xs : List ℕ) → length xs ≡ length l.uses → (k : ℕ) → k < length l.uses
          → word (put_all (replicate 9 0) 0 xs) (0 + k) ≡ word xs k
      row xs h k b =
          put_all_at (replicate 9 0) xs 0 (omega (arith, length-replicate {A = ℕ} 9 0, counted, few)) k (omega arith)

      wire_at_is : (k : ℕ) → k < length l.uses → word path.wires (0 + k) ≡ word (wires_of l.uses) k
      wire_at_is k b =
          ap (field (λ x. word x.wires (0 + k))) path_is ∙ row (wires_of l.uses) (length-map l.uses _) k b

      delay_at_is : (k : ℕ) → k < length l.uses → word path.delays (0 + k) ≡ word (delays_of l.uses) k
      delay_at_is k b =
          ap (field (λ x. word x.delays (0 + k))) path_is ∙ row (delays_of l.uses) (length-map l.uses _) k b

      held_of : Held room path.wires path.delays (path.hops + 2) stride e.offset e.size
      held_of = record {
        few = omega (arith, hops_is, few);
        stride_small = p.stride_small;
        cycle_small = omega (arith, ends, p.stride_small);
        size_low = p.size_low;
        size_high = p.size_high;
        fits = λ i h.
            let b : i < length l.uses = omega (arith, counted, hops_is) in
            let w : word path.wires i ≡ word (wires_of l.uses) i = ap (word path.wires) (sym (zero-add i)) ∙ wire_at_is i b in
            let d : word path.delays i ≡ word (delays_of l.uses) i = ap (word path.delays) (sym (zero-add i)) ∙ delay_at_is i b in
            let soon = delays_small (nodes z * 6) last l.uses small i b in
            let end = row_ends stride (nodes z * 6) (word path.wires i) (e.offset + word path.delays i + e.size)
            (omega (arith, w, wires_small (nodes z * 6) last l.uses small i b)) (omega (arith, d, soon, ends)) in
            omega (arith, end, p.holds_wires);
      }

      places_of : places path.wires path.delays stride e.offset e.size 0 (path.hops + 2) ≡ entry_places stride z e
      unfolding entry_places
      places_of =
          let n : path.hops + 2 ≡ length l.uses = omega (arith, counted, hops_is) in
          ap (places path.wires path.delays stride e.offset e.size 0) n
          ∙ packet_places stride path.wires path.delays e.size e.offset l.uses 0 wire_at_is delay_at_is
          ∙ ap (map (place_of stride)) occupied_is

  pub entry_fitting : Fitting stride (entry_occupied z e)
  entry_fitting = fitting leading

  -- what is read of the entry's circuit, and the route followed
  module _ (circuit : Circuit) (c : circuit ≡ circuit_at z e.circuit) where
    pub source_read : InGrid (columns z) (rows z) circuit.read.node
    source_read = subst (λ (k : Circuit). InGrid (columns z) (rows z) k.read.node) (sym c) p.source_inside

    followed : path_of (route_from (columns z) (rows z) (is_long z) circuit.read.node e.route) ≡ path_of (entry_route z e)
    unfolding entry_route
    followed = ap (λ (k : Circuit). path_of (route_from (columns z) (rows z) (is_long z) k.read.node e.route)) c

    pub entry_leads_on : None ≡ path_of (route_from (columns z) (rows z) (is_long z) circuit.read.node e.route) → ⊥
    entry_leads_on q = leads_on leading (q ∙ followed)

    module _ (path : Path) (q : Some path ≡ path_of (route_from (columns z) (rows z) (is_long z) circuit.read.node e.route)) where
      pub entry_held : Held room path.wires path.delays (path.hops + 2) stride e.offset e.size
      entry_held = held_of leading path (q ∙ followed)

      pub entry_places_is : places path.wires path.delays stride e.offset e.size 0 (path.hops + 2) ≡ entry_places stride z e
      entry_places_is = places_of leading path (q ∙ followed)

      pub entry_hops_is : path.hops ≤ 7
      entry_hops_is = omega (arith, hops_is leading path (q ∙ followed), few leading)

-- each entry of a schedule that passed the rules is such an entry
pub placeable : (room : ℕ) (z : List ℕ) → Routed z → (j : ℕ) → j < schedules z → (i : ℕ) → i < entry_count (entries_of z j)
    → HoldsAllWires room z (period z j + 6) → Placeable room z (entry_at (entries_of z j) i) (period z j + 6)
unfolding rule9 each_entry
placeable room z r j h i l m =
    let small = entry_small z r.ranged j h i l in
    let leading = all_at _ (entry_count (entries_of z j)) (all_at _ (schedules z) r.routes_lead j h) i l in
    record {
      source_inside = small.source_inside;
      leads_there = leading;
      in_time = entry_in_time z r j h i l;
      size_low = omega (arith, small.size_low);
      size_high = small.size_high;
      stride_small = omega (arith, (period_range z r.ranged j h).1);
      holds_wires = m;
    }

-- the answer of placing an entry
pub hit_answer : (t xs ys : List ℕ) {w : Bool} → w ≡ any_taken t xs → w ≡ true → xs ≡ ys → TakenOrKept t t ys false
hit_answer t xs ys m y e =
    record { free = ap not (sym y ∙ m ∙ ap (any_taken t) e); now_taken = λ q. absurd (false≢true q); kept = λ q. refl }

pub take_answer : (t u xs ys : List ℕ) {w : Bool} → w ≡ any_taken t xs → w ≡ false → Takes t u xs → xs ≡ ys → TakenOrKept t u ys true
take_answer t u xs ys m y r e =
    record {
      free = ap not (sym y ∙ m ∙ ap (any_taken t) e);
      now_taken = λ q. subst (Takes t u) e r;
      kept = λ q. absurd (false≢true (sym q));
    }

-- with the entries before it in the table, an entry is placed exactly where it meets none of them
module _ (z : List ℕ) (j stride : ℕ) (entries : List ℕ) (room : ℕ) where
  abbrev places_at : ℕ → List ℕ
  places_at i = entry_places stride z (entry_at entries i)

  abbrev meet_at : ℕ → ℕ → Bool
  meet_at i k = meet (entry_occupied z (entry_at entries i)) (entry_occupied z (entry_at entries k))

  -- just the first i entries of schedule j are in the table, and no two of them meet
  pub record Placing (i : ℕ) (table : List ℕ) : Type 0 where
    pub entries_are : entries ≡ entries_of z j
    pub each : (k : ℕ) → k < entry_count entries → Placeable room z (entry_at entries k) stride
    pub room_is : length table ≡ room
    pub holds : HoldsPlaces places_at i table
    pub apart : all i (λ k. all k (λ m. not (meet_at k m))) ≡ true

  pub placing_start : (table : List ℕ) → length table ≡ room → Routed z → j < schedules z → HoldsAllWires (length table) z (period z j + 6) → Free table
      → entries ≡ entries_of z j → stride ≡ period z j + 6 → Placing 0 table
  placing_start table n r h m f p q =
      record {
        entries_are = p;
        each = λ k l.
            subst (λ (x : ℕ). Placeable room z (entry_at entries k) x) (sym q)
            (subst (λ (x : List ℕ). Placeable room z (entry_at x k) (period z j + 6)) (sym p)
            (placeable room z r j h k (subst (λ (x : List ℕ). k < entry_count x) p l) (subst (λ (x : ℕ). HoldsAllWires x z (period z j + 6)) n m)));
        room_is = n;
        holds = holds_none places_at table f;
        apart = sym (all_none _);
      }

  -- the test of a schedule, from the entries that were read
  rule_is : entries ≡ entries_of z j → all (entry_count entries) (λ k. all k (λ n. not (meet_at k n))) ≡ rule11_at z j
  unfolding rule11_at
  rule_is p =
      ap (λ (x : List ℕ). all (entry_count x) (λ k. all k (λ n. not (meet (entry_occupied z (entry_at x k)) (entry_occupied z (entry_at x n)))))) p

  module _ (i : ℕ) (table : List ℕ) (g : Placing i table) where
    pub placing_length : length table ≡ room
    placing_length = g.room_is

    module _ (h : i < entry_count entries) (e : Entry) (q : e ≡ entry_at entries i) where
      pub placing_next : Placeable (length table) z e stride
      placing_next =
          subst (λ (n : ℕ). Placeable n z e stride) (sym g.room_is)
          (subst (λ (x : Entry). Placeable room z x stride) (sym q) (g.each i h))

      module _ (after : List ℕ) {r : Bool} (m : TakenOrKept table after (entry_places stride z e) r) where
        share_is : (k : ℕ) → k < i → not (share (places_at i) (places_at k)) ≡ not (meet_at i k)
        unfolding entry_places
        share_is k l =
            ap not (sym (meet_places stride _ _ (entry_fitting _ _ _ _ (g.each i h)) (entry_fitting _ _ _ _ (g.each k (omega arith)))))

        answer_is : r ≡ all i (λ k. not (meet_at i k))
        answer_is =
            m.free
            ∙ ap (λ (x : Entry). not (any_taken table (entry_places stride z x))) q
            ∙ free_where places_at i table g.holds (places_at i)
            ∙ all_same i _ _ share_is

        pub placing_more : r ≡ true → Placing (i + 1) after
        placing_more y =
            let t : Takes table after (places_at i) = subst (λ (x : Entry). Takes table after (entry_places stride z x)) q (m.now_taken y) in
            record {
              entries_are = g.entries_are;
              each = g.each;
              room_is = t.same_length ∙ g.room_is;
              holds = holds_more places_at i table after g.holds t;
              apart = all_more _ i g.apart (sym answer_is ∙ y);
            }

        pub placing_fails : r ≡ false → false ≡ rule11_at z j
        placing_fails y =
            all_fails (λ k. all k (λ n. not (meet_at k n))) (entry_count entries) i h (sym answer_is ∙ y) ∙ rule_is g.entries_are

        pub failed_length : r ≡ false → length after ≡ room
        failed_length y = ap length (m.kept y) ∙ g.room_is

    pub placing_done : i ≤ entry_count entries → entry_count entries ≤ i → true ≡ rule11_at z j
    placing_done a b =
        all_done (λ k. all k (λ n. not (meet_at k n))) (entry_count entries) i g.apart a b ∙ rule_is g.entries_are

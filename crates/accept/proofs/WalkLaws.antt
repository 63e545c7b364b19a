-- A walk along an entry's route that takes each wire's places as it goes: what is taken so far, and how the rest of the route goes on.
-- Assumes nothing.
use Prim.Native.Nat.{ℕ, ◌+◌, ◌-◌, ◌*◌, ◌/◌, ◌%◌, ◌^◌, ◌<◌, ◌≤◌}
use mathlib.Core.Bool.{Bool, true, false, not, false≢true}
use mathlib.Core.Logic.{◌⊎◌, inl, inr, ⊎_elim}
use mathlib.Core.List.{List, [], ◌∷◌, ◌++◌, map, append_assoc, append-nil}
use mathlib.Core.Path.{◌≡◌, refl, sym, ◌∙◌, ap, ap₂, subst}
use native.Mathlib.Omega.{arith}
use native.Mathlib.Decide.{ℕ_discrete}
use native.Mathlib.Nat.{add-zero, zero-add, mul_assoc, mul_comm, mul-le-mul, mul-le-mul_right, add-mul, one-mul, mod-eq_of_lt, mod-lt, zero-lt-suc}
use lib.ListN.{length}
use lib.Pow.{pow-add}
use Rattle.words.specs.Tests.{◌or◌}
use Rattle.words.specs.Words.{word, pick}
use Rattle.words.proofs.TestLaws.{yes=, no=, yes≤, is≤, and_both, or_on, or_false}
use Rattle.torus.specs.Torus.{neighbour_of, opposite_of}
use Rattle.torus.specs.Route.{Wire, source, side, memory, Use, Route, leads, nowhere, no_side, memory_output, router_cycles, link_cycles, hop_cycles, output_of, over_side, from_source, codes, follow, route_from}
use Rattle.torus.specs.Inner.Grid.{InGrid}
use Rattle.torus.specs.Inner.Paths.{wire_number, wires_per_node}
use Rattle.torus.proofs.NeighbourLaws.{neighbour_back}
use Rattle.torus.proofs.RouteLaws.{follow_on, follow_out}
use Rattle.sheet.specs.declared.entries.Entry.{Entry}
use Rattle.sheet.specs.Sheet.{columns, rows, is_long, nodes}
use Rattle.sheet.specs.Slots.{source_of, destination_of}
use Rattle.sheet.specs.Wires.{WireCycle, during, occupied}
use Rattle.sheet.specs.Flight.{hops_of, vertical_of}
use Rattle.sheet.specs.Rules.{entry_route, entry_leads, entry_occupied, reaches, uses_of}
use Rattle.occupancy.specs.Inner.Occupancy.{run, slot_mask, listed, taken, any_taken, Takes, TakenIfFree}
use Rattle.occupancy.proofs.BitLaws.{mask_small}
use Rattle.clash.specs.Inner.Table.{place_of, entry_places}
use Rattle.clash.proofs.RunLaws.{taken_append, takes_none, takes_append}
use Rattle.clash.proofs.WireLaws.{map_append, row_places_is}
use Rattle.routes.specs.Inner.Joined.{circuit_span}
use Rattle.routes.proofs.RouteRules.{span_most, same_test}
use Rattle.accept.specs.Inner.Working.{ends_word}
use Rattle.accept.specs.Inner.Placing.{row_places, Placeable, FollowedFree, PlacedFree}
use Rattle.accept.proofs.SpanLaws.{span_between, step_inside, span_step, span_none}

-- a route behind some uses, hops and long links
abbrev pub behind : List Use → ℕ → ℕ → Route → Route
behind before hops vertical (leads uses node more long) = leads (before ++ uses) node (more + hops) (long + vertical)
behind before hops vertical nowhere = nowhere

append_one : (xs ys : List Use) (u : Use) → xs ++ (u ∷ ys) ≡ (xs ++ (u ∷ [])) ++ ys
append_one [] ys u = refl
append_one (x ∷ xs) ys u = ap (λ (l : List Use). x ∷ l) (append_one xs ys u)

-- a hop more goes from the route to what is before it
behind_more : (before : List Use) (hops vertical link : ℕ) (u : Use) (r : Route)
    → behind before hops vertical (over_side u link r) ≡ behind (before ++ (u ∷ [])) (hops + 1) (vertical + link) r
behind_more before hops vertical link u (leads uses node more long) =
    let h : more + 1 + hops ≡ more + (hops + 1) = omega arith in
    let v : long + link + vertical ≡ long + (vertical + link) = omega arith in
    ap (λ (l : List Use). leads l node (more + 1 + hops) (long + link + vertical)) (append_one before uses u)
    ∙ ap₂ (λ (a b : ℕ). leads ((before ++ (u ∷ [])) ++ uses) node a b) h v
behind_more before hops vertical link u nowhere = refl

-- where one of two tests holds of neither
neither : (a b : Bool) → a or b ≡ false → (a ≡ false) × (b ≡ false)
unfolding ◌or◌
neither true b e = absurd (false≢true (sym e))
neither false b e = (refl, e)

-- what is free now was free before some places were taken
free_before : (t u xs ys : List ℕ) → Takes t u xs → any_taken u ys ≡ false → any_taken t ys ≡ false
unfolding any_taken
free_before t u xs [] h e = refl
free_before t u xs (y ∷ ys) h e =
    let both = neither (taken u y) (any_taken u ys) e in
    let here = neither (listed y xs) (taken t y) (sym (h.besides y) ∙ both.0) in
    sym (or_on here.1 (sym (free_before t u xs ys h both.1)))

-- the places of some uses, and of one use more
module _ (S size cycle : ℕ) where
  abbrev pub places_of : List Use → List ℕ
  places_of uses = map (place_of S) (occupied uses size cycle)

  places_append : (xs ys : List Use) → places_of (xs ++ ys) ≡ places_of xs ++ places_of ys
  unfolding occupied
  places_append [] ys = refl
  places_append (x ∷ xs) ys =
      let first = during size x.wire (cycle + x.delay) in
      map_append S first (occupied (xs ++ ys) size cycle)
      ∙ ap (λ (l : List ℕ). map (place_of S) first ++ l) (places_append xs ys)
      ∙ sym (append_assoc (map (place_of S) first) (places_of xs) (places_of ys))
      ∙ ap (λ (l : List ℕ). l ++ places_of ys) (sym (map_append S first (occupied xs size cycle)))

  places_one : (u : Use) → places_of (u ∷ []) ≡ run size (wire_number u.wire * S + (cycle + u.delay))
  unfolding occupied
  places_one u =
      map_append S (during size u.wire (cycle + u.delay)) [] ∙ append-nil _ ∙ row_places_is S size u.wire (cycle + u.delay)

  -- the places of some uses were free, and now are taken
  pub record Taking (before after : List ℕ) (uses : List Use) : Type 0 where
    pub free : any_taken before (places_of uses) ≡ false
    pub takes : Takes before after (places_of uses)

  pub taking_none : (t : List ℕ) → Taking t t []
  unfolding occupied any_taken
  taking_none t = record { free = refl; takes = takes_none t }

  pub taking_append : (t u v : List ℕ) (xs ys : List Use) → Taking t u xs → Taking u v ys → Taking t v (xs ++ ys)
  taking_append t u v xs ys g h = record {
    free =
        ap (any_taken t) (places_append xs ys)
        ∙ taken_append t (places_of xs) (places_of ys)
        ∙ ap₂ ◌or◌ g.free (free_before t u (places_of xs) (places_of ys) g.takes h.free)
        ∙ sym (or_false false);
    takes = subst (Takes t v) (sym (places_append xs ys)) (takes_append t u v (places_of xs) (places_of ys) g.takes h.takes);
  }

  -- a use whose places in the table are those of a mask
  pub taking_one : (u v : List ℕ) (x : Use) (q mask bit : ℕ) {answer : Bool} → TakenIfFree u v q mask answer → answer ≡ true
      → mask ≡ slot_mask bit size → bit + size ≤ 64 → 32 * q + bit ≡ wire_number x.wire * S + (cycle + x.delay)
      → Taking u v (x ∷ [])
  taking_one u v x q mask bit f ok m wide e =
      let places : run size (32 * q + bit) ≡ places_of (x ∷ []) = ap (run size) e ∙ sym (places_one x) in
      record {
        free = ap (any_taken u) (sym places) ∙ is_not _ (sym ok ∙ f.free bit size m wide);
        takes = subst (Takes u v) places (f.now_taken bit size m wide ok);
      }
    where
      is_not : (b : Bool) → true ≡ not b → b ≡ false
      is_not true h = absurd (false≢true (sym h))
      is_not false h = refl

-- a mask shifted along
pub mask_up : (m b n c : ℕ) → m ≡ slot_mask b n → b + c + n ≤ 64 → m * 2 ^ c % 2 ^ 64 ≡ slot_mask (b + c) n
unfolding slot_mask
mask_up m b n c e h =
    let up : m * 2 ^ c ≡ (2 ^ n - 1) * 2 ^ (b + c) =
    ap (λ (x : ℕ). x * 2 ^ c) e ∙ mul_assoc (2 ^ n - 1) (2 ^ b) (2 ^ c) ∙ ap (λ (x : ℕ). (2 ^ n - 1) * x) (sym (pow-add 2 b c)) in
    ap (λ (x : ℕ). x % 2 ^ 64) up ∙ mod-eq_of_lt (mask_small (b + c) n h)

-- a wire's place by words and bits
pub place_is : (wire stride q bit offset delay : ℕ) → offset ≡ 32 * q + bit
    → 32 * (wire * stride + q) + (bit + delay) ≡ wire * (32 * stride) + (offset + delay)
place_is wire stride q bit offset delay e =
    let swap : wire * (32 * stride) ≡ 32 * (wire * stride) = sym (mul_assoc wire 32 stride) ∙ ap (λ (x : ℕ). x * stride) (mul_comm wire 32) ∙ mul_assoc 32 wire stride in
    omega (arith, e, swap)

-- a wire's window lies in the table
pub wire_room : (wire count stride q room : ℕ) → wire < count → q + 2 ≤ stride → count * stride ≤ room → wire * stride + q + 1 < room
wire_room wire count stride q room l h f =
    omega (arith, mul-le-mul_right {m = wire + 1} {n = count} stride (omega arith), add-mul wire 1 stride, one-mul stride)

-- a router passes a code by which the packet did not come in, to that side
follow_by_side : (cols rows : ℕ) (long : Bool) (node entry delay route left : ℕ) → 0 < left → (route % 4 ≡ entry → ⊥)
    → follow left cols rows long node entry delay route
    ≡ over_side (record { wire = side node (route % 4); delay = delay }) (link_cycles long (route % 4))
    (follow (left - 1) cols rows long (neighbour_of cols rows node (route % 4)) (opposite_of (route % 4)) (delay + hop_cycles long (route % 4)) (route / 4))
unfolding output_of
follow_by_side cols rows long node entry delay route left h ne =
    let e : output_of entry (route % 4) ≡ route % 4 = ap (λ (b : Bool). pick b memory_output (route % 4)) (no= (λ q. ne (sym q))) in
    subst (λ (o : ℕ). follow left cols rows long node entry delay route
    ≡ over_side (record { wire = side node o; delay = delay }) (link_cycles long o)
    (follow (left - 1) cols rows long (neighbour_of cols rows node o) (opposite_of o) (delay + hop_cycles long o) (route / 4))) e
    (follow_on cols rows long node entry delay route left h (λ o. let z : ⊥ = omega (arith, o, e) in z))

-- and the code of the side that it came in by to the memory
follow_to_memory : (cols rows : ℕ) (long : Bool) (node entry delay route left : ℕ) → 0 < left → route ≡ entry → route < 4
    → follow left cols rows long node entry delay route ≡ leads (record { wire = memory node; delay = delay } ∷ []) node 0 0
unfolding output_of
follow_to_memory cols rows long node entry delay route left h e l =
    follow_out cols rows long node entry delay route left h
    (ap (λ (b : Bool). pick b memory_output (route % 4)) (yes= (omega arith))) (omega arith)

-- a grid has at most sixteen nodes
few_nodes : {cols rows node : ℕ} → InGrid cols rows node → node < 16
few_nodes {cols} {rows} g = omega (arith, g.inside, mul-le-mul {n₁ = cols} {m₁ = rows} {n₂ = 4} {m₂ = 4} g.cols_high g.rows_high)

low_part : (a b : ℕ) → a < 256 → (a + b * 256) % 256 ≡ a
low_part a b h = omega arith

-- a circuit's span is that between its nodes
span_is : (z : List ℕ) (k : ℕ) → span_between (columns z) (rows z) (is_long z) (source_of z k) (destination_of z k) ≡ circuit_span z k
unfolding span_between circuit_span vertical_of
span_is z k = refl

-- what the number of a circuit's ends holds
module _ (z : List ℕ) (k ends : ℕ) (g : InGrid (columns z) (rows z) (source_of z k)) (h : InGrid (columns z) (rows z) (destination_of z k))
    (e : ends ≡ ends_word z k) where
  pub source_wire : ends % 256 ≡ source_of z k * wires_per_node
  unfolding ends_word
  source_wire = omega (arith, e, few_nodes g, few_nodes h)

  pub destination_wire : ends / 256 % 256 ≡ destination_of z k * wires_per_node
  unfolding ends_word
  destination_wire =
      let above : ends / 256 ≡ destination_of z k * wires_per_node + circuit_span z k * 256 = omega (arith, e, few_nodes g, few_nodes h) in
      ap (λ (x : ℕ). x % 256) above ∙ low_part (destination_of z k * wires_per_node) (circuit_span z k) (omega (arith, few_nodes h))

  pub span_in : ends / 65536 ≡ circuit_span z k
  unfolding ends_word
  span_in = omega (arith, e, few_nodes g, few_nodes h)

  pub span_small : ends / 65536 ≤ 14
  span_small = omega (arith, span_in, span_most z k g h)

-- an entry that can be placed, and the walk along its route
module _ (room : ℕ) (near z : List ℕ) (ends stride : ℕ) (e : Entry) (p : Placeable room near z ends stride e) where
  abbrev walk : ℕ → ℕ → ℕ → ℕ → ℕ → Route
  walk left node entry delay rest = follow left (columns z) (rows z) (is_long z) node entry delay rest

  -- the cycles of the hops between a node and the destination
  abbrev span_to : ℕ → ℕ
  span_to node = span_between (columns z) (rows z) (is_long z) node (destination_of z e.circuit)

  -- the walk has followed the route: so many hops are behind it, the wires up to there are taken, and the mask is that of the next wire. The
  -- cycles that are left do not lead to the destination from the node before
  pub record Following (start table : List ℕ) (node back left rest mask : ℕ) : Type 0 where
    pub hops : ℕ
    pub vertical : ℕ
    pub uses : List Use
    pub route : walk codes (source_of z e.circuit) no_side router_cycles e.route
        ≡ behind uses hops vertical (walk (codes - hops) node back (router_cycles + (router_cycles * hops + vertical)) rest)
    pub spent : router_cycles * hops + vertical + left ≡ circuit_span z e.circuit
    pub mask_is : mask ≡ slot_mask (e.offset % 32 + (router_cycles + (router_cycles * hops + vertical))) e.size
    pub taking : Taking (row_places stride) e.size e.offset start table uses
    pub enough : left ≤ span_to node
    pub onward : back < 4 → left < span_to (neighbour_of (columns z) (rows z) node back)

  -- the walk stands at the first wire of a node, and has followed the route up to there, or too few cycles are left
  pub record Walking (start table : List ℕ) (at back left rest mask : ℕ) : Type 0 where
    pub node : ℕ
    pub here : InGrid (columns z) (rows z) node
    pub at_is : at ≡ node * wires_per_node
    pub same_length : length table ≡ length start
    pub way : Following start table node back left rest mask ⊎ (left < span_to node)

  behind_none : (r : Route) → r ≡ behind [] 0 0 r
  behind_none (leads uses node hops vertical) = ap₂ (λ (a b : ℕ). leads uses node a b) (sym (add-zero hops)) (sym (add-zero vertical))
  behind_none nowhere = refl

  pub walking_start : (table : List ℕ) (route slot mask : ℕ) → route ≡ e.route → slot ≡ slot_mask (e.offset % 32) e.size → mask ≡ slot * 2 ^ 3 % 2 ^ 64
      → Walking table table (ends % 256) no_side (ends / 65536) route mask
  walking_start table route slot mask r m u =
      let span = span_in z e.circuit ends p.joined.source_inside p.joined.destination_inside p.ends_are in
      record {
        node = source_of z e.circuit;
        here = p.joined.source_inside;
        at_is = source_wire z e.circuit ends p.joined.source_inside p.joined.destination_inside p.ends_are;
        same_length = refl;
        way = inl (record {
          hops = 0;
          vertical = 0;
          uses = [];
          route = ap (walk codes (source_of z e.circuit) no_side router_cycles) (sym r) ∙ behind_none (walk codes (source_of z e.circuit) no_side router_cycles route);
          spent = omega (arith, span);
          mask_is = u ∙ mask_up slot (e.offset % 32) e.size 3 m (omega (arith, p.size_high));
          taking = taking_none (row_places stride) e.size e.offset table;
          enough = omega (arith, span, span_is z e.circuit);
          onward = λ l. absurd (let y : ⊥ = omega (arith, l) in y);
        });
      }

  module _ (start table : List ℕ) (at back left rest mask : ℕ) (w : Walking start table at back left rest mask) where
    -- the numbers of the node's wires
    pub wire_few : (k : ℕ) → k < 6 → at + k < 96
    wire_few k l = omega (arith, w.at_is, few_nodes w.here)

    wire_inside : (k : ℕ) → k < 6 → at + k < nodes z * wires_per_node
    wire_inside k l = omega (arith, w.at_is, w.here.inside)

    pub wire_fits : length start ≡ room → (k q : ℕ) → k < 6 → q ≡ e.offset / 32 → (at + k) * stride + q + 1 < length table
    wire_fits r k q l f =
        wire_room (at + k) (nodes z * wires_per_node) stride q (length table) (wire_inside k l) (omega (arith, f, p.in_row))
        (omega (arith, p.holds_wires, r, w.same_length))

    pub near_fits : (k : ℕ) → k < 6 → at + k < length near
    near_fits k l = omega (arith, wire_inside k l, p.neighbours.long)

    -- where it has followed the route
    module _ (g : Following start table w.node back left rest mask) where
      few_hops : 3 * g.hops + g.vertical + left ≤ 14
      few_hops = omega (arith, g.spent, span_most z e.circuit p.joined.source_inside p.joined.destination_inside)

      -- one more wire is taken, whose number and delay are these
      taken_more : (after : List ℕ) (q k : ℕ) (wire : Wire) {answer : Bool} → q ≡ e.offset / 32 → wire_number wire ≡ w.node * wires_per_node + k
          → TakenIfFree table after ((at + k) * stride + q) mask answer → answer ≡ true
          → Taking (row_places stride) e.size e.offset start after
          (g.uses ++ (record { wire = wire; delay = router_cycles + (router_cycles * g.hops + g.vertical) } ∷ []))
      taken_more after q k wire f n h ok =
          let delay = router_cycles * g.hops + g.vertical in
          let u : Use = record { wire = wire; delay = router_cycles + delay } in
          taking_append (row_places stride) e.size e.offset start table after g.uses (u ∷ []) g.taking
          (taking_one (row_places stride) e.size e.offset table after u ((at + k) * stride + q) mask
          (e.offset % 32 + (router_cycles + delay)) h ok g.mask_is
          (omega (arith, few_hops, p.size_high))
          (place_is (at + k) stride q (e.offset % 32) e.offset (router_cycles + delay) (omega (arith, f))
          ∙ ap (λ (x : ℕ). x * row_places stride + (e.offset + (router_cycles + delay))) (sym (n ∙ ap (λ (x : ℕ). x + k) (sym w.at_is)))))

    -- a hop whose cycles are left
    module _ (after : List ℕ) (q link shift next : ℕ) (answer : Bool) (f : q ≡ e.offset / 32)
        (h : TakenIfFree table after ((at + rest % 4) * stride + q) mask answer) (ok : answer ≡ true)
        (l : link ≡ link_cycles (is_long z) (rest % 4)) (b : 3 + link ≤ left) (s : shift ≡ 3 + link) (n : next ≡ word near (at + rest % 4)) where
      abbrev by : ℕ
      by = rest % 4

      abbrev to : ℕ
      to = neighbour_of (columns z) (rows z) w.node by

      by_few : by < 4
      by_few = mod-lt rest (zero-lt-suc 3)

      nearer : span_to w.node ≤ span_to to + (3 + link)
      unfolding hop_cycles
      nearer = omega (arith, l, span_step (columns z) (rows z) (is_long z) w.node (destination_of z e.circuit) by w.here p.joined.destination_inside by_few)

      -- by another side than that by which the packet came in it follows the route
      follows : Following start table w.node back left rest mask → (by ≡ back → ⊥)
          → Following start after to ((rest % 4 + 2) % 4) (left - (3 + link)) (rest / 4) (mask * 2 ^ shift % 2 ^ 64)
      unfolding hop_cycles
      follows g ne =
          let delay = router_cycles * g.hops + g.vertical in
          let u : Use = record { wire = side w.node by; delay = router_cycles + delay } in
          let left-routers : codes - g.hops - 1 ≡ codes - (g.hops + 1) = omega arith in
          let later : router_cycles + delay + hop_cycles (is_long z) by ≡ router_cycles + (router_cycles * (g.hops + 1) + (g.vertical + link)) =
          omega (arith, l) in
          let bits : e.offset % 32 + (router_cycles + delay) + shift ≡ e.offset % 32 + (router_cycles + (router_cycles * (g.hops + 1) + (g.vertical + link))) = omega arith in
          record {
            hops = g.hops + 1;
            vertical = g.vertical + link;
            uses = g.uses ++ (u ∷ []);
            route =
                g.route
                ∙ ap (behind g.uses g.hops g.vertical)
                (follow_by_side (columns z) (rows z) (is_long z) w.node back (router_cycles + delay) rest (codes - g.hops) (omega (arith, few_hops g)) ne)
                ∙ behind_more g.uses g.hops g.vertical (link_cycles (is_long z) by) u
                (walk (codes - g.hops - 1) to (opposite_of by) (router_cycles + delay + hop_cycles (is_long z) by) (rest / 4))
                ∙ ap₂ (λ (v : ℕ) (r : Route). behind (g.uses ++ (u ∷ [])) (g.hops + 1) v r) (ap (λ (x : ℕ). g.vertical + x) (sym l))
                (ap₂ (λ (n d : ℕ). walk n to (opposite_of by) d (rest / 4)) left-routers later);
            spent = omega (arith, g.spent, b);
            mask_is =
                mask_up mask (e.offset % 32 + (router_cycles + delay)) e.size shift g.mask_is
                (omega (arith, few_hops g, b, s, p.size_high))
                ∙ ap (λ (x : ℕ). slot_mask x e.size) bits;
            taking = taken_more g after q by (side w.node by) f refl h ok;
            enough = omega (arith, g.enough, nearer, b);
            onward = λ c.
                omega (arith, g.enough, b, ap span_to (neighbour_back w.here by by_few));
          }

      -- and back by that side it has too few cycles left
      strays : Following start table w.node back left rest mask → by ≡ back → left - (3 + link) < span_to to
      strays g c = omega (arith, g.onward (omega (arith, c, by_few)), ap (λ (x : ℕ). span_to (neighbour_of (columns z) (rows z) w.node x)) c)

      pub walking_more : Walking start after next ((rest % 4 + 2) % 4) (left - (3 + link)) (rest / 4) (mask * 2 ^ shift % 2 ^ 64)
      walking_more = record {
        node = to;
        here = step_inside w.here by;
        at_is = n ∙ ap (λ (x : ℕ). word near (x + by)) w.at_is ∙ p.neighbours.next w.node by w.here.inside by_few;
        same_length = h.same_length ∙ w.same_length;
        way = ⊎_elim (λ g. turns g (ℕ_discrete by back)) (λ c. inr (omega (arith, c, nearer, b))) w.way;
      }
        where
          turns : Following start table w.node back left rest mask → Dec (by ≡ back)
              → Following start after to ((rest % 4 + 2) % 4) (left - (3 + link)) (rest / 4) (mask * 2 ^ shift % 2 ^ 64)
              ⊎ (left - (3 + link) < span_to to)
          turns g (yes c) = inr (strays g c)
          turns g (no ne) = inl (follows g ne)

    -- the end, behind a hop: the destination's memory
    module _ (after : List ℕ) (q : ℕ) (answer : Bool) (f : q ≡ e.offset / 32) (none : left ≤ 0) (there : at ≡ ends / 256 % 256) (few : back < 4) (came : rest ≡ back)
        (h : TakenIfFree table after ((at + 5) * stride + q) mask answer) (ok : answer ≡ true) where
      arrived : w.node ≡ destination_of z e.circuit
      arrived =
          omega (arith, there, w.at_is, destination_wire z e.circuit ends p.joined.source_inside p.joined.destination_inside p.ends_are)

      followed : Following start table w.node back left rest mask → FollowedFree start after z stride e
      followed g =
          let delay = router_cycles * g.hops + g.vertical in
          let u : Use = record { wire = memory w.node; delay = router_cycles + delay } in
          let taking = taken_more g after q 5 (memory w.node) f refl h ok in
          record {
            uses = g.uses ++ (u ∷ []);
            hops = g.hops;
            vertical = g.vertical;
            led =
                g.route
                ∙ ap (behind g.uses g.hops g.vertical)
                (follow_to_memory (columns z) (rows z) (is_long z) w.node back (router_cycles + delay) rest (codes - g.hops) (omega (arith, few_hops g)) came
                (omega (arith, came, few)))
                ∙ ap₂ (λ (a b : ℕ). leads (g.uses ++ (u ∷ [])) w.node a b) (zero-add g.hops) (zero-add g.vertical)
                ∙ ap (λ (x : ℕ). leads (g.uses ++ (u ∷ [])) x g.hops g.vertical) arrived;
            in_time = omega (arith, g.spent);
            free = taking.free;
            now_taken = taking.takes;
          }

      pub walking_end : FollowedFree start after z stride e
      walking_end = ⊎_elim followed (λ c. absurd (let y : ⊥ = omega (arith, none, c, at_end_is) in y)) w.way
        where
          at_end_is : span_to w.node ≡ 0
          at_end_is = ap span_to arrived ∙ span_none (columns z) (rows z) (is_long z) (destination_of z e.circuit) p.joined.destination_inside

  -- the source's wire, before the walk
  abbrev first : Use
  first = record { wire = source (source_of z e.circuit); delay = 0 }

  first_wire : ends % 256 + 4 ≡ source_of z e.circuit * wires_per_node + 4
  first_wire =
      ap (λ (x : ℕ). x + 4) (source_wire z e.circuit ends p.joined.source_inside p.joined.destination_inside p.ends_are)

  pub first_few : ends % 256 + 4 < 96
  first_few = omega (arith, first_wire, few_nodes p.joined.source_inside)

  pub first_fits : (q : ℕ) → q ≡ e.offset / 32 → (ends % 256 + 4) * stride + q + 1 < room
  first_fits q f =
      wire_room (ends % 256 + 4) (nodes z * wires_per_node) stride q room (omega (arith, first_wire, p.joined.source_inside.inside))
      (omega (arith, f, p.in_row)) p.holds_wires

  module _ (before between after : List ℕ) (q slot : ℕ) (answer : Bool) (f : q ≡ e.offset / 32) (m : slot ≡ slot_mask (e.offset % 32) e.size)
      (h : TakenIfFree before between ((ends % 256 + 4) * stride + q) slot answer) (ok : answer ≡ true) (g : FollowedFree between after z stride e) where
    first_taken : Taking (row_places stride) e.size e.offset before between (first ∷ [])
    first_taken =
        taking_one (row_places stride) e.size e.offset before between first ((ends % 256 + 4) * stride + q) slot (e.offset % 32 + 0) h ok
        (m ∙ ap (λ (b : ℕ). slot_mask b e.size) (sym (add-zero (e.offset % 32)))) (omega (arith, p.size_high))
        (place_is (ends % 256 + 4) stride q (e.offset % 32) e.offset 0 (omega (arith, f))
        ∙ ap (λ (x : ℕ). x * row_places stride + (e.offset + 0)) first_wire)

    all_taken : Taking (row_places stride) e.size e.offset before after (first ∷ g.uses)
    all_taken =
        taking_append (row_places stride) e.size e.offset before between after (first ∷ []) g.uses first_taken
        (record { free = g.free; takes = g.now_taken })

    route_is : entry_route z e ≡ leads (first ∷ g.uses) (destination_of z e.circuit) g.hops g.vertical
    unfolding entry_route route_from
    route_is = ap (from_source first) g.led

    occupied_is : occupied (first ∷ g.uses) e.size e.offset ≡ entry_occupied z e
    unfolding entry_occupied
    occupied_is = ap (λ (r : Route). occupied (uses_of r) e.size e.offset) (sym route_is)

    few_enough : g.hops ≤ hops_of z e.circuit
    few_enough =
        is≤ _ _
        (sym (same_test z e p.joined (first ∷ g.uses) (destination_of z e.circuit) g.hops g.vertical route_is refl)
        ∙ yes≤ g.in_time)

    pub placed_free : PlacedFree before after z stride e
    unfolding entry_leads entry_places
    placed_free = record {
      leads_there =
          ap (λ (r : Route). reaches r (destination_of z e.circuit) (hops_of z e.circuit)) route_is ∙ and_both (yes= refl) (yes≤ few_enough);
      free = ap (λ (l : List WireCycle). any_taken before (map (place_of (row_places stride)) l)) (sym occupied_is) ∙ all_taken.free;
      now_taken = subst (λ (l : List WireCycle). Takes before after (map (place_of (row_places stride)) l)) occupied_is all_taken.takes;
    }

-- The rules 9 and 10 at one entry, in terms of what the code has read: the entry, its circuit's span, and where its route leads.
-- Assumes nothing.
use Prim.Native.Nat.{ℕ, ◌+◌, ◌-◌, ◌*◌, ◌/◌, ◌<◌, ◌≤◌}
use mathlib.Core.Bool.{Bool, true, false, false≢true}
use mathlib.Core.List.{List}
use mathlib.Core.Path.{◌≡◌, refl, sym, ◌∙◌, ap, ap₂, subst}
use native.Mathlib.Omega.{arith}
use Rattle.std.specs.Prelude.{Option}
use Rattle.std.specs.declared.option.Option.TheVariants.{Some, None}
use lib.ListN.{length, set, replicate, length-set, length-replicate}
use lib.Seq.{get_or-set_other}
use native.Mathlib.Decide.{dec_le, dec_lt}
use native.Mathlib.Nat.{mod-lt}
use Rattle.words.specs.Tests.{all, ◌≤?◌, ◌<?◌}
use Rattle.words.specs.Words.{word, pick}
use Rattle.words.proofs.WordLaws.{tab_at, tab_is, fill_more, word_zeros}
use Rattle.words.proofs.AllLaws.{all_at}
use Rattle.words.proofs.TestLaws.{and_no, and_on, and_left, and_right, yes=, no=, is=, yes≤, no≤, is≤, yes<, no<}
use Rattle.torus.specs.Torus.{row_of, distance_of, shorter_way}
use Rattle.torus.specs.Inner.Grid.{InGrid}
use Rattle.torus.specs.Route.{Use, Route, leads, nowhere, route_from, router_cycles}
use Rattle.torus.specs.Inner.Paths.{path_of}
use Rattle.torus.specs.declared.Path.{Path}
use Rattle.torus.proofs.DistanceLaws.{distance_most, vertical_most}
use Rattle.torus.proofs.RouteLaws.{hops_high, vertical_high}
use Rattle.torus.proofs.WalkLaws.{distance_least}
use Rattle.torus.proofs.VerticalLaws.{vertical_least, vertical_is}
use Rattle.sheet.specs.declared.entries.Entry.{Entry}
use Rattle.sheet.specs.declared.circuits.Circuit.{Circuit}
use Rattle.sheet.specs.Sheet.{columns, rows, is_long, nodes, circuits, schedules, circuit_at, period, entries_of, entry_count, entry_at}
use Rattle.sheet.specs.Slots.{source_of, destination_of}
use Rattle.sheet.specs.Flight.{hops_of, vertical_of}
use Rattle.sheet.specs.Rules.{each_entry, entry_route, entry_leads, entry_ends, reaches, route_hops, route_vertical, rule4, rule9}
use Rattle.sheet.specs.Inner.Passed.{Framed, Ranged}
use Rattle.sheet.proofs.PassedLaws.{entry_small, period_range, circuit_small, in_grid}
use Rattle.routes.specs.Inner.Joined.{Joined, Timed, circuit_span, circuit_spans}

-- the shorter way round a ring is less than the ring
pub way_few : (n a b way : ℕ) → 0 < n → way ≡ shorter_way n a b → way < n
unfolding shorter_way
way_few n a b way h e = omega (arith, e, mod-lt (b + n - a) h)

-- so a span is small
pub span_most : (z : List ℕ) (k : ℕ) → InGrid (columns z) (rows z) (source_of z k) → InGrid (columns z) (rows z) (destination_of z k) → circuit_span z k ≤ 14
unfolding circuit_span vertical_of
span_most z k g h = go (is_long z)
  where
    down : ℕ
    down = shorter_way (rows z) (row_of (columns z) (source_of z k)) (row_of (columns z) (destination_of z k))

    far : hops_of z k ≤ 4
    far = distance_most (columns z) (rows z) (source_of z k) (destination_of z k) g h

    go : (long : Bool) → router_cycles * hops_of z k + pick long down 0 ≤ 14
    go true = omega (arith, far, vertical_most (columns z) (rows z) (source_of z k) (destination_of z k) g h)
    go false = omega (arith, far)

-- the numbers of an entry's route that leads somewhere
module _ (z : List ℕ) (e : Entry) (g : Joined z e) (uses : List Use) (node hops vertical : ℕ) (w : entry_route z e ≡ leads uses node hops vertical) where
  hops_most : hops ≤ 7
  unfolding entry_route
  hops_most = hops_high (columns z) (rows z) (is_long z) (source_of z e.circuit) e.route g.source_inside uses node hops vertical w

  verticals_most : vertical ≤ hops
  unfolding entry_route
  verticals_most = vertical_high (columns z) (rows z) (is_long z) (source_of z e.circuit) e.route g.source_inside uses node hops vertical w

  -- and of one that leads to the destination
  module _ (n : node ≡ destination_of z e.circuit) where
    hops_least : hops_of z e.circuit ≤ hops
    unfolding entry_route
    hops_least =
        subst (λ (to : ℕ). distance_of (columns z) (rows z) (source_of z e.circuit) to ≤ hops) n
        (distance_least (columns z) (rows z) (is_long z) (source_of z e.circuit) e.route uses node hops vertical w)

    verticals_least : vertical_of z e.circuit ≤ vertical
    unfolding entry_route vertical_of
    verticals_least =
        subst (λ (to : ℕ). pick (is_long z) (shorter_way (rows z) (row_of (columns z) (source_of z e.circuit)) (row_of (columns z) to)) 0 ≤ vertical) n
        (vertical_least (columns z) (rows z) (is_long z) (source_of z e.circuit) e.route g.source_inside uses node hops vertical w)

    verticals_are : hops ≤ hops_of z e.circuit → vertical ≡ vertical_of z e.circuit
    unfolding entry_route vertical_of
    verticals_are few =
        vertical_is (columns z) (rows z) (is_long z) (source_of z e.circuit) e.route g.source_inside uses node hops vertical w
        (subst (λ (to : ℕ). hops ≤ distance_of (columns z) (rows z) (source_of z e.circuit) to) (sym n) few)
        ∙ ap (λ (to : ℕ). pick (is_long z) (shorter_way (rows z) (row_of (columns z) (source_of z e.circuit)) (row_of (columns z) to)) 0) n

    -- its hops take no more cycles than the span exactly where they are no more than the distance: a hop more is three cycles more, and
    -- the long links are never fewer
    pub same_test : (router_cycles * hops + vertical ≤? circuit_span z e.circuit) ≡ (hops ≤? hops_of z e.circuit)
    unfolding circuit_span
    same_test = go (dec_le hops (hops_of z e.circuit))
      where
        go : Dec (hops ≤ hops_of z e.circuit)
            → (router_cycles * hops + vertical ≤? router_cycles * hops_of z e.circuit + vertical_of z e.circuit) ≡ (hops ≤? hops_of z e.circuit)
        go (yes few) = yes≤ (omega (arith, few, verticals_are few)) ∙ sym (yes≤ few)
        go (no many) = no≤ (omega (arith, many, verticals_least)) ∙ sym (no≤ (omega (arith, many)))

module _ (z : List ℕ) (e : Entry) (circuit : Circuit) (c : circuit ≡ circuit_at z e.circuit) where
  -- the route's source is in the grid
  pub starts_inside : Joined z e → InGrid (columns z) (rows z) circuit.read.node
  starts_inside g = subst (λ (k : Circuit). InGrid (columns z) (rows z) k.read.node) (sym c) g.source_inside

  -- where the entry's route leads, from the path that was followed
  module _ (path : Option Path) (q : path ≡ path_of (route_from (columns z) (rows z) (is_long z) circuit.read.node e.route)) where
    route_is : route_from (columns z) (rows z) (is_long z) circuit.read.node e.route ≡ entry_route z e
    unfolding entry_route
    route_is = cc

    reaches_is : (r : Route) → entry_route z e ≡ r → reaches r circuit.receive.node (hops_of z e.circuit) ≡ entry_leads z e
    unfolding entry_leads
    reaches_is r w =
        ap₂ (λ (x : Route) (to : ℕ). reaches x to (hops_of z e.circuit)) (sym w) (ap (λ (k : Circuit). k.receive.node) c)

    module _ (g : Joined z e) where
      path_is : path ≡ path_of (entry_route z e)
      path_is = q ∙ ap path_of route_is

      -- it leads nowhere
      pub not_leading : path ≡ None → false ≡ entry_leads z e
      not_leading n = go (entry_route z e) refl
        where
          go : (r : Route) → entry_route z e ≡ r → false ≡ entry_leads z e
          go (leads uses node hops vertical) w =
              let some : None ≡ path_of (leads uses node hops vertical) = sym n ∙ path_is ∙ ap path_of w in absurd (cc)
          go nowhere w = reaches_is nowhere w

      -- it leads to a node: the numbers of its path
      module _ (p : Path) (s : path ≡ Some p) where
        led_by : (uses : List Use) × (node : ℕ) × (hops : ℕ) × (vertical : ℕ) × (entry_route z e ≡ leads uses node hops vertical)
            × (p.node ≡ node) × (p.hops ≡ hops) × (p.vertical ≡ vertical)
        led_by = go (entry_route z e) refl
          where
            field : (Path → ℕ) → Option Path → ℕ
            field f None = 0
            field f (Some k) = f k

            go : (r : Route) → entry_route z e ≡ r
                → (uses : List Use) × (node : ℕ) × (hops : ℕ) × (vertical : ℕ) × (entry_route z e ≡ leads uses node hops vertical)
                × (p.node ≡ node) × (p.hops ≡ hops) × (p.vertical ≡ vertical)
            go (leads uses node hops vertical) w =
                let same : Some p ≡ path_of (leads uses node hops vertical) = sym s ∙ path_is ∙ ap path_of w in
                (uses, node, hops, vertical, w, ap (field (λ k. k.node)) same, ap (field (λ k. k.hops)) same, ap (field (λ k. k.vertical)) same)
            go nowhere w =
                let none : Some p ≡ None = sym s ∙ path_is ∙ ap path_of w in absurd (cc)

        -- the code's answers there, and the size of its sum
        pub elsewhere : (p.node ≡ circuit.receive.node → ⊥) → false ≡ entry_leads z e
        elsewhere ne = and_no _ (no= (λ m. ne (led_by.5 ∙ m))) ∙ reaches_is _ led_by.4

        pub arriving : p.node ≡ circuit.receive.node → (span : ℕ) → span ≡ circuit_span z e.circuit
            → (router_cycles * p.hops + p.vertical ≤? span) ≡ entry_leads z e
        arriving m span d =
            ap (λ (n : ℕ). router_cycles * p.hops + p.vertical ≤? n) d
            ∙ and_on (yes= (sym led_by.5 ∙ m))
            (ap₂ (λ (a b : ℕ). router_cycles * a + b ≤? circuit_span z e.circuit) led_by.6 led_by.7
            ∙ same_test z e g led_by.0 led_by.1 led_by.2 led_by.3 led_by.4 (sym led_by.5 ∙ m ∙ ap (λ (k : Circuit). k.receive.node) c))
            ∙ reaches_is _ led_by.4

        pub cycles_few : router_cycles * p.hops + p.vertical ≤ 28
        cycles_few =
            omega (arith, led_by.6, led_by.7, hops_most z e g led_by.0 led_by.1 led_by.2 led_by.3 led_by.4, verticals_most z e g led_by.0 led_by.1 led_by.2 led_by.3 led_by.4)

-- number 10 at an entry whose route leads to the destination, by its circuit's span
module _ (z : List ℕ) (e : Entry) (g : Joined z e) (span : ℕ) (d : span ≡ circuit_span z e.circuit) where
  pub span_few : span ≤ 14
  span_few = omega (arith, d, span_most z e.circuit g.source_inside g.destination_inside)

  -- the hops of such a route take the span
  spanned : (r : Route) → entry_route z e ≡ r → reaches r (destination_of z e.circuit) (hops_of z e.circuit) ≡ true
      → span ≡ router_cycles * route_hops r + route_vertical r
  unfolding circuit_span
  spanned (leads uses node hops vertical) w t =
      let n : node ≡ destination_of z e.circuit = is= _ _ (and_left _ _ t) in
      let few : hops ≤ hops_of z e.circuit = is≤ _ _ (and_right _ _ t) in
      omega (
        arith,
        d,
        few,
        hops_least z e g uses node hops vertical w n,
        verticals_are z e g uses node hops vertical w n few,
      )
  spanned nowhere w t = absurd (false≢true t)

  pub ending : entry_leads z e ≡ true → (P : ℕ) → (e.offset + e.size - 1 + span ≤? P + 2) ≡ entry_ends z P e
  unfolding entry_ends entry_leads
  ending l P = ap (λ (n : ℕ). n ≤? P + 2) (omega (arith, spanned (entry_route z e) refl l))

-- both ends of a circuit are in the grid
pub nodes_inside : (z : List ℕ) → Framed z → rule4 z ≡ true → (k : ℕ) → k < circuits z → (circuit : Circuit) → circuit ≡ circuit_at z k
    → (cols count : ℕ) → cols ≡ columns z → count ≡ rows z → (InGrid cols count circuit.read.node) × (InGrid cols count circuit.receive.node)
nodes_inside z f r k h circuit c cols count x y =
    let small = circuit_small z r k h in
    let inside : (node : ℕ) → node < nodes z → InGrid cols count node =
    λ node l.
    subst (λ (n : ℕ). InGrid n count node) (sym x)
    (subst (λ (n : ℕ). InGrid (columns z) n node) (sym y) (in_grid z f.headed node l)) in (
      inside circuit.read.node (subst (λ (q : Circuit). q.read.node < nodes z) (sym c) small.source_inside),
      inside circuit.receive.node (subst (λ (q : Circuit). q.receive.node < nodes z) (sym c) small.destination_inside),
    )

-- a circuit's span, from that of its nodes
pub span_told : (z : List ℕ) (k : ℕ) (circuit : Circuit) → circuit ≡ circuit_at z k → (cols count span : ℕ) (long : Bool)
    → cols ≡ columns z → count ≡ rows z → long ≡ is_long z
    → span ≡ router_cycles * distance_of cols count circuit.read.node circuit.receive.node
    + pick long (shorter_way count (circuit.read.node / cols) (circuit.receive.node / cols)) 0
    → span ≡ circuit_span z k
unfolding circuit_span vertical_of
span_told z k circuit c cols count span long x y l e = cc

-- the table of the spans: each stands at its circuit's number, 0 at the others
module _ (z : List ℕ) where
  abbrev span_at : ℕ → ℕ
  span_at k = pick (k <? circuits z) (circuit_span z k) 0

  -- the first i spans are read, the others are 0
  pub record Reading (i : ℕ) (spans : List ℕ) : Type 0 where
    pub full : length spans ≡ 64
    pub done : (k : ℕ) → k < i → word spans k ≡ span_at k
    pub later : (k : ℕ) → i ≤ k → word spans k ≡ 0

  pub reading_start : Reading 0 (replicate 64 0)
  reading_start =
      record {
        full = length-replicate {A = ℕ} 64 0;
        done = λ k h. absurd (let e₀ : ⊥ = omega arith in e₀);
        later = λ k h. word_zeros 64 k;
      }

  pub reading_more : (i : ℕ) (spans : List ℕ) → Reading i spans → i < circuits z → i < 64 → (d : ℕ) → d ≡ circuit_span z i
      → Reading (i + 1) (set spans i d)
  reading_more i spans g h l d e =
      record {
        full = length-set spans i d ∙ g.full;
        done = fill_more spans i d span_at (omega (arith, g.full)) g.done
            (e ∙ sym (ap (λ (b : Bool). pick b (circuit_span z i) 0) (yes< h)));
        later = λ k b. get_or-set_other spans i k d 0 (λ q. let e₀ : ⊥ = omega (arith, q) in e₀) ∙ g.later k (omega arith);
      }

  pub spans_done : (i : ℕ) (spans : List ℕ) → Reading i spans → i ≡ circuits z → spans ≡ circuit_spans z
  unfolding circuit_spans
  spans_done i spans g e = tab_is spans 64 span_at g.full (λ k h. go k (dec_lt k i))
    where
      go : (k : ℕ) → Dec (k < i) → word spans k ≡ span_at k
      go k (yes b) = g.done k b
      go k (no b) =
          g.later k (omega arith) ∙ sym (ap (λ (c : Bool). pick c (circuit_span z k) 0) (no< (omega (arith, e))))

  -- the span of an entry's circuit, as it is read from the table
  pub span_read : (e : Entry) → Joined z e → (spans : List ℕ) → spans ≡ circuit_spans z → (n : ℕ) → n ≡ word spans e.circuit
      → n ≡ circuit_span z e.circuit
  unfolding circuit_spans
  span_read e g spans p n r =
      r
      ∙ ap (λ (x : List ℕ). word x e.circuit) p
      ∙ tab_at 64 span_at e.circuit (omega (arith, g.circuit_inside, g.circuits_high))
      ∙ ap (λ (b : Bool). pick b (circuit_span z e.circuit) 0) (yes< g.circuit_inside)

-- an entry of a schedule, as it was read
module _ (z : List ℕ) (g : Ranged z) (j : ℕ) (h : j < schedules z) (entries : List ℕ) (p : entries ≡ entries_of z j) (i : ℕ) (l : i < entry_count entries)
    (e : Entry) (q : e ≡ entry_at entries i) where
  inside : i < entry_count (entries_of z j)
  inside = subst (λ (x : List ℕ). i < entry_count x) p l

  entry_is : e ≡ entry_at (entries_of z j) i
  entry_is = q ∙ ap (λ (x : List ℕ). entry_at x i) p

  pub joined : Joined z e
  joined =
      let small = entry_small z g j h i inside in
      subst (Joined z) (sym entry_is) (record {
        source_inside = small.source_inside;
        destination_inside = small.destination_inside;
        circuit_inside = small.circuit_inside;
        circuits_high = g.framed.headed.circuits_high;
      })

  pub timed : (P : ℕ) → P ≡ period z j → Timed z P e
  timed P r =
      let small = entry_small z g j h i inside in
      let range = period_range z g j h in
      let offset : e.offset ≡ (entry_at (entries_of z j) i).offset = ap (λ (x : Entry). x.offset) entry_is in
      let size : e.size ≡ (entry_at (entries_of z j) i).size = ap (λ (x : Entry). x.size) entry_is in
      record {
        joined = joined;
        offset_small = omega (arith, small.offset_low, range.1);
        size_low = omega (arith, small.size_low);
        size_high = omega (arith, small.size_high);
        period_small = omega (arith, range.1);
      }

  pub led : rule9 z ≡ true → entry_leads z e ≡ true
  unfolding rule9 each_entry
  led r = ap (entry_leads z) entry_is ∙ all_at _ (entry_count (entries_of z j)) (all_at _ (schedules z) r j h) i inside

-- a test of the entries that were read is a test of the schedule's entries
pub each_is : (z : List ℕ) (j : ℕ) (entries : List ℕ) (test : Entry → Bool) → entries ≡ entries_of z j
    → all (entry_count entries) (λ i. test (entry_at entries i)) ≡ each_entry z j test
unfolding each_entry
each_is z j entries test p = ap (λ (x : List ℕ). all (entry_count x) (λ i. test (entry_at x i))) p

pub each_ending : (z : List ℕ) (j : ℕ) (entries : List ℕ) (P : ℕ) → entries ≡ entries_of z j → P ≡ period z j
    → all (entry_count entries) (λ i. entry_ends z P (entry_at entries i)) ≡ each_entry z j (entry_ends z (period z j))
each_ending z j entries P p q = each_is z j entries (entry_ends z P) p ∙ ap (λ (n : ℕ). each_entry z j (entry_ends z n)) q

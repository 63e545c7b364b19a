-- Following a route: one router's step, the answer that the code fills in as it goes, and what holds of the uses of a route that leads somewhere.
-- Assumes nothing.
use Prim.Native.Nat.{ℕ, zero, suc, ◌+◌, ◌-◌, ◌*◌, ◌<◌, ◌≤◌}
use mathlib.Core.Bool.{Bool, true, false}
use mathlib.Core.List.{List, [], ◌∷◌, map}
use mathlib.Core.Path.{◌≡◌, refl, sym, ap, subst, ◌∙◌}
use native.Mathlib.Nat.{not-suc-le-zero, le_of_suc-le-suc, mod-lt, add-zero, zero-add}
use native.Mathlib.Decide.{ℕ_discrete}
use native.Mathlib.Numerals.{add-one, sub-one}
use native.Mathlib.Omega.{arith}
use Rattle.std.specs.Prelude.{Option}
use Rattle.std.specs.declared.option.Option.TheVariants.{Some, None}
use mir.Val.{bool_byte}
use lib.ListN.{length, get_or, set, replicate, length-set}
use Rattle.words.specs.Tests.{◌and◌, ◌or◌, ◌=?◌}
use Rattle.words.specs.Words.{pick}
use Rattle.words.specs.Inner.Puts.{put_all}
use Rattle.words.proofs.TestLaws.{yes=, no=}
use Rattle.packet.specs.Header.{first_code, later_codes}
use Rattle.torus.specs.Torus.{neighbour_of, opposite_of, is_vertical}
use Rattle.torus.specs.Inner.Grid.{InGrid}
use Rattle.torus.specs.Route.{Wire, source, side, memory, Use, Route, leads, nowhere, memory_output, output_of, ending, over_side, from_source, router_cycles, link_cycles, hop_cycles, follow, route_from}
use Rattle.torus.specs.Inner.Paths.{wire_number, path_of}
use Rattle.torus.specs.Inner.Delays.{delay_at, last_delay}
use Rattle.torus.specs.declared.Path.{Path}
use Rattle.torus.proofs.NeighbourLaws.{neighbour_inside}

-- the router by a side is a node of the grid
pub next_inside : {cols rows node : ℕ} → InGrid cols rows node → (output : ℕ) → InGrid cols rows (neighbour_of cols rows node output)
next_inside g output = record {
  cols_low = g.cols_low;
  cols_high = g.cols_high;
  rows_low = g.rows_low;
  rows_high = g.rows_high;
  inside = neighbour_inside g output;
}

-- the output for a code, where the packet came in by its side and where it did not
pub output_memory : {entry code named : ℕ} → code ≡ named → entry ≡ named → memory_output ≡ output_of entry code
unfolding output_of
output_memory e q = rw (yes= (q ∙ sym e))

pub output_side : {entry code named : ℕ} → code ≡ named → (entry ≡ named → ⊥) → named ≡ output_of entry code
unfolding output_of
output_side e ne = rw (no= (λ q. ne (q ∙ e))) (sym e)

-- an output is a side or the memory
pub output_small : (entry code output : ℕ) → output ≡ output_of entry code → code < 4 → output ≤ 4
unfolding output_of
output_small entry code output e l = go (entry =? code) e
  where
    go : (b : Bool) → output ≡ pick b memory_output code → output ≤ 4
    go true q = omega arith
    go false q = omega arith

-- and a side where it is not the memory
pub side_small : (entry code : ℕ) → code < 4 → (output_of entry code ≡ memory_output → ⊥) → output_of entry code < 4
side_small entry code l ne = omega (arith, output_small entry code (output_of entry code) refl l)

-- no hop takes fewer cycles than a router, and no link more than one
pub hop_low : (long : Bool) (output : ℕ) → router_cycles ≤ hop_cycles long output
unfolding hop_cycles
hop_low long output = omega arith

pub link_high : (long : Bool) (output cycles : ℕ) → cycles ≡ link_cycles long output → cycles ≤ 1
unfolding link_cycles
link_high long output cycles e = go (long and is_vertical output) e
  where
    go : (b : Bool) → cycles ≡ pick b 1 0 → cycles ≤ 1
    go true q = omega arith
    go false q = omega arith

-- the cycles of a link as code tells them: a byte for the test
pub link_told : (b long : Bool) (output : ℕ) → b ≡ (long and is_vertical output) → bool_byte b ≡ link_cycles long output
unfolding link_cycles
link_told b long output e = go b ∙ ap (λ t. pick t 1 0) e
  where
    go : (t : Bool) → bool_byte t ≡ pick t 1 0
    go true = refl
    go false = refl

-- none on a grid of the other kind
pub link_short : (long : Bool) (output : ℕ) → long ≡ false → 0 ≡ link_cycles long output
unfolding link_cycles ◌and◌
link_short long output e = rw e refl

-- the sides of the vertical links, by their numbers
pub vertical_north : (output : ℕ) → output ≡ 0 → is_vertical output ≡ true
unfolding is_vertical ◌or◌
vertical_north output e = rw (yes= e) refl

pub vertical_south : (output : ℕ) → output ≡ 2 → is_vertical output ≡ true
unfolding is_vertical ◌or◌ ◌=?◌
vertical_south output e = rw e refl

pub vertical_none : (output : ℕ) → (output ≡ 0 → ⊥) → (output ≡ 2 → ⊥) → is_vertical output ≡ false
unfolding is_vertical ◌or◌
vertical_none output a b = rw (no= a, no= b) refl

module _ (cols rows : ℕ) (long : Bool) (node entry delay route : ℕ) where
  -- the output for the route's first code
  abbrev output_here : ℕ
  output_here = output_of entry (first_code route)

  -- the output to the memory is the route's end
  pub follow_memory : (left : ℕ) → output_here ≡ memory_output
      → follow (suc left) cols rows long node entry delay route ≡ ending (later_codes route =? 0) node delay
  unfolding follow
  follow_memory left e = rw (yes= e, follow) refl

  -- a side output goes on at the next router
  pub follow_side : (left : ℕ) → (output_here ≡ memory_output → ⊥)
      → follow (suc left) cols rows long node entry delay route
      ≡ over_side (record { wire = side node output_here; delay = delay }) (link_cycles long output_here)
      (follow left cols rows long (neighbour_of cols rows node output_here) (opposite_of output_here) (delay + hop_cycles long output_here) (later_codes route))
  unfolding follow
  follow_side left ne = rw (no= ne, follow) refl

  -- the same where some routers are left: a route that has no bits left, one that has, and one that goes on
  pub follow_out : (left : ℕ) → 0 < left → output_here ≡ memory_output → later_codes route ≡ 0
      → follow left cols rows long node entry delay route ≡ leads (record { wire = memory node; delay = delay } ∷ []) node 0 0
  follow_out zero h e z = absurd (not-suc-le-zero h)
  follow_out (suc left) h e z = follow_memory left e ∙ ap (λ b. ending b node delay) (yes= z)

  pub follow_lost : (left : ℕ) → 0 < left → output_here ≡ memory_output → (later_codes route ≡ 0 → ⊥)
      → follow left cols rows long node entry delay route ≡ nowhere
  follow_lost zero h e z = absurd (not-suc-le-zero h)
  follow_lost (suc left) h e z = follow_memory left e ∙ ap (λ b. ending b node delay) (no= z)

  pub follow_on : (left : ℕ) → 0 < left → (output_here ≡ memory_output → ⊥)
      → follow left cols rows long node entry delay route
      ≡ over_side (record { wire = side node output_here; delay = delay }) (link_cycles long output_here)
      (follow (left - 1) cols rows long (neighbour_of cols rows node output_here) (opposite_of output_here) (delay + hop_cycles long output_here) (later_codes route))
  follow_on zero h ne = absurd (not-suc-le-zero h)
  follow_on (suc left) h ne = rw sub-one (follow_side left ne)

  -- with no router left a route leads nowhere
  pub follow_end : (left : ℕ) → left ≤ 0 → follow left cols rows long node entry delay route ≡ nowhere
  unfolding follow
  follow_end zero h = refl
  follow_end (suc left) h = absurd (not-suc-le-zero h)

-- the numbers of the wires of some uses, and their delays
abbrev pub wires_of : List Use → List ℕ
wires_of uses = map (λ (u : Use). wire_number u.wire) uses

abbrev pub delays_of : List Use → List ℕ
delays_of uses = map (λ (u : Use). u.delay) uses

-- the answer where the two lists, the hops and those over long links are known so far, and the rest of the route goes in from a place on
abbrev pub written : List ℕ → List ℕ → ℕ → ℕ → ℕ → Route → Option Path
written wires delays at hops vertical (leads uses node more further) = Some (record {
  node = node;
  hops = hops + more;
  vertical = vertical + further;
  wires = put_all wires at (wires_of uses);
  delays = put_all delays at (delays_of uses);
})
written wires delays at hops vertical nowhere = path_of nowhere

-- before the first router only the source wire is written
pub written_start : (node : ℕ) (r : Route)
    → written (set (replicate 9 0) 0 (node * 6 + 4)) (replicate 9 0) 1 0 0 r ≡ path_of (from_source (record { wire = source node; delay = 0 }) r)
unfolding put_all
written_start node (leads uses end hops vertical) = rw (zero-add hops, zero-add vertical) refl
written_start node nowhere = refl

-- a side output is written before what follows it
pub written_on : (wires delays : List ℕ) (at hops vertical link : ℕ) (u : Use) (r : Route)
    → written (set wires at (wire_number u.wire)) (set delays at u.delay) (at + 1) (hops + 1) (vertical + link) r
    ≡ written wires delays at hops vertical (over_side u link r)
unfolding put_all
written_on wires delays at hops vertical link u (leads uses end more further) =
    let e : hops + 1 + more ≡ hops + (more + 1) = omega arith in
    let f : vertical + link + further ≡ vertical + (further + link) = omega arith in
    rw (e, f)
written_on wires delays at hops vertical link u nowhere = refl

-- the loop that fills the answer in: what is written so far, with what follows from here, is the answer
pub record Going (answer : Option Path) (cols rows : ℕ) (long : Bool) (wires delays : List ℕ) (node entry delay rest hops vertical : ℕ) : Type 0 where
  pub here : InGrid cols rows node
  pub few : hops ≤ 8
  pub soon : delay ≤ 4 * (hops + 1)
  pub few_vertical : vertical ≤ hops
  pub wires_long : length wires ≡ 9
  pub delays_long : length delays ≡ 9
  pub rest_leads : written wires delays (hops + 1) hops vertical (follow (8 - hops) cols rows long node entry delay rest) ≡ answer

-- so it is at the source
pub going_start : (cols rows : ℕ) (long : Bool) (node route : ℕ) → InGrid cols rows node
    → Going (path_of (route_from cols rows long node route)) cols rows long (set (replicate 9 0) 0 (node * 6 + 4)) (replicate 9 0) node 4 3 route 0 0
unfolding route_from
going_start cols rows long node route g = record {
  here = g;
  few = omega arith;
  soon = omega arith;
  few_vertical = omega arith;
  wires_long = refl;
  delays_long = refl;
  rest_leads = written_start node (follow 8 cols rows long node 4 3 route);
}

module _ {answer : Option Path} {cols rows : ℕ} {long : Bool} {wires delays : List ℕ} {node entry delay rest hops vertical : ℕ}
    (g : Going answer cols rows long wires delays node entry delay rest hops vertical) where
  -- out to the memory at the route's end, the last wire is written
  pub going_out : hops < 8 → {output : ℕ} → output ≡ output_of entry (first_code rest) → output ≡ memory_output → later_codes rest ≡ 0
      → Some (record {
        node = node;
        hops = hops;
        vertical = vertical;
        wires = set wires (hops + 1) (node * 6 + 5);
        delays = set delays (hops + 1) delay;
      }) ≡ answer
  unfolding put_all
  going_out h w e z =
      rw (add-zero hops, add-zero vertical) at
      (sym (ap (written wires delays (hops + 1) hops vertical) (follow_out cols rows long node entry delay rest (8 - hops) (omega arith) (sym w ∙ e) z))
      ∙ g.rest_leads)

  -- out to the memory with bits left, the route leads nowhere
  pub going_lost : hops < 8 → {output : ℕ} → output ≡ output_of entry (first_code rest) → output ≡ memory_output → (later_codes rest ≡ 0 → ⊥)
      → None ≡ answer
  going_lost h w e z =
      sym (ap (written wires delays (hops + 1) hops vertical) (follow_lost cols rows long node entry delay rest (8 - hops) (omega arith) (sym w ∙ e) z))
      ∙ g.rest_leads

  -- on to the next router, one more wire is written
  going_opposite : hops < 8 → {output : ℕ} → output ≡ output_of entry (first_code rest) → (output ≡ memory_output → ⊥)
      → {next : ℕ} → next ≡ neighbour_of cols rows node output
      → Going answer cols rows long (set wires (hops + 1) (node * 6 + output)) (set delays (hops + 1) delay) next
      (opposite_of output) (delay + hop_cycles long output) (later_codes rest) (hops + 1) (vertical + link_cycles long output)
  unfolding hop_cycles
  going_opposite h {output} w ne {next} e = record {
    here = subst (InGrid cols rows) (sym e) (next_inside g.here output);
    few = omega arith;
    soon = omega (arith, g.soon, link_high long output (link_cycles long output) refl);
    few_vertical = omega (arith, g.few_vertical, link_high long output (link_cycles long output) refl);
    wires_long = length-set wires (hops + 1) (node * 6 + output) ∙ g.wires_long;
    delays_long = length-set delays (hops + 1) delay ∙ g.delays_long;
    rest_leads =
        let less : 8 - (hops + 1) ≡ 8 - hops - 1 = omega arith in
        rw (less, e, w)
        (written_on wires delays (hops + 1) hops vertical (link_cycles long (output_of entry (first_code rest)))
        (record { wire = side node (output_of entry (first_code rest)); delay = delay })
        (follow (8 - hops - 1) cols rows long (neighbour_of cols rows node (output_of entry (first_code rest)))
        (opposite_of (output_of entry (first_code rest))) (delay + hop_cycles long (output_of entry (first_code rest))) (later_codes rest))
        ∙ sym (ap (written wires delays (hops + 1) hops vertical) (follow_on cols rows long node entry delay rest (8 - hops) (omega arith) (λ q. ne (w ∙ q))))
        ∙ g.rest_leads);
  }

  -- by which side it comes in there, and how many cycles later, however that is reckoned
  pub going_on : hops < 8 → {output : ℕ} → output ≡ output_of entry (first_code rest) → (output ≡ memory_output → ⊥)
      → {next : ℕ} → next ≡ neighbour_of cols rows node output
      → {turned : ℕ} → turned ≡ opposite_of output
      → {link : ℕ} → link ≡ link_cycles long output
      → Going answer cols rows long (set wires (hops + 1) (node * 6 + output)) (set delays (hops + 1) delay) next
      turned (delay + (router_cycles + link)) (later_codes rest) (hops + 1) (vertical + link)
  unfolding hop_cycles
  going_on h {output} w ne {next} e {turned} t {link} c =
      subst (λ (x : ℕ). Going answer cols rows long (set wires (hops + 1) (node * 6 + output)) (set delays (hops + 1) delay) next
      x (delay + (router_cycles + link)) (later_codes rest) (hops + 1) (vertical + link)) (sym t)
      (subst (λ (x : ℕ). Going answer cols rows long (set wires (hops + 1) (node * 6 + output)) (set delays (hops + 1) delay) next
      (opposite_of output) (delay + (router_cycles + x)) (later_codes rest) (hops + 1) (vertical + x)) (sym c) (going_opposite h w ne e))

  -- after eight routers, the route leads nowhere
  pub going_end : 8 ≤ hops → None ≡ answer
  going_end h =
      sym (ap (written wires delays (hops + 1) hops vertical) (follow_end cols rows long node entry delay rest (8 - hops) (omega arith)))
      ∙ g.rest_leads

-- a wire that a route can use: a side is one of four
abbrev pub Proper : Wire → Type 0
Proper (source node) = Unit {0}
Proper (side node s) = s < 4
Proper (memory node) = Unit {0}

-- a use of a proper wire with a number below n, no later than d
pub record SmallUse (n d : ℕ) (u : Use) : Type 0 where
  pub proper : Proper u.wire
  pub numbered : wire_number u.wire < n
  pub soon : u.delay ≤ d

-- each of the uses is such a use
abbrev pub SmallUses : ℕ → ℕ → List Use → Type 0
SmallUses n d [] = Unit {0}
SmallUses n d (u ∷ uses) = (SmallUse n d u) × (SmallUses n d uses)

-- so the wire at each place has a number below n
pub wires_small : (n d : ℕ) (uses : List Use) → SmallUses n d uses → (i : ℕ) → i < length uses → get_or (wires_of uses) i 0 < n
wires_small n d [] s i h = absurd (not-suc-le-zero h)
wires_small n d (u ∷ uses) s zero h = s.0.numbered
wires_small n d (u ∷ uses) s (suc i) h = wires_small n d uses s.1 i (le_of_suc-le-suc h)

-- and the delay at each place is at most d
pub delays_small : (n d : ℕ) (uses : List Use) → SmallUses n d uses → (i : ℕ) → i < length uses → get_or (delays_of uses) i 0 ≤ d
delays_small n d [] s i h = absurd (not-suc-le-zero h)
delays_small n d (u ∷ uses) s zero h = s.0.soon
delays_small n d (u ∷ uses) s (suc i) h = delays_small n d uses s.1 i (le_of_suc-le-suc h)

-- what holds where a route leads, followed over at most so many routers from an output with the given delay on
record Led (cols rows left delay : ℕ) (uses : List Use) (node hops vertical : ℕ) : Type 0 where
  arrives : InGrid cols rows node
  counted : length uses ≡ hops + 1
  within : hops < left
  later : delay ≤ delay_at uses hops
  fewer : vertical ≤ hops
  small : (d : ℕ) → delay_at uses hops ≤ d → SmallUses (cols * rows * 6) d uses

-- and nothing where it leads nowhere
abbrev Followed : ℕ → ℕ → ℕ → ℕ → Route → Type 0
Followed cols rows left delay (leads uses node hops vertical) = Led cols rows left delay uses node hops vertical
Followed cols rows left delay nowhere = Unit {0}

module _ (cols rows : ℕ) (long : Bool) where
  followed_out : (left node delay : ℕ) → InGrid cols rows node → (b : Bool) → Followed cols rows (suc left) delay (ending b node delay)
  unfolding delay_at
  followed_out left node delay g true = record {
    arrives = g;
    counted = refl;
    within = omega arith;
    later = omega arith;
    fewer = omega arith;
    small = λ d h. (record { proper = tt; numbered = omega (arith, g.inside); soon = omega arith }, tt);
  }
  followed_out left node delay g false = tt

  followed_on : (left node delay output : ℕ) → InGrid cols rows node → output < 4 → (r : Route) → Followed cols rows left (delay + hop_cycles long output) r
      → Followed cols rows (suc left) delay (over_side (record { wire = side node output; delay = delay }) (link_cycles long output) r)
  unfolding delay_at
  followed_on left node delay output g c (leads uses end hops vertical) f =
      let last : delay_at (record { wire = side node output; delay = delay } ∷ uses) (hops + 1) ≡ delay_at uses hops = rw add-one refl in
      record {
        arrives = f.arrives;
        counted = omega (arith, f.counted);
        within = omega (arith, f.within);
        later = omega (arith, last, f.later);
        fewer = omega (arith, f.fewer, link_high long output (link_cycles long output) refl);
        small = λ d h.
            (record { proper = c; numbered = omega (arith, g.inside); soon = omega (arith, last, f.later) }, f.small d (omega (arith, last)));
      }
  followed_on left node delay output g c nowhere f = tt

  -- the rest of a route behind the router by an output
  abbrev on_from : ℕ → ℕ → ℕ → ℕ → ℕ → Route
  on_from left node delay route output =
      follow left cols rows long (neighbour_of cols rows node output) (opposite_of output) (delay + hop_cycles long output) (later_codes route)

  followed : (left node entry delay route : ℕ) → InGrid cols rows node
      → Followed cols rows left delay (follow left cols rows long node entry delay route)
  unfolding follow
  followed zero node entry delay route g = tt
  followed (suc left) node entry delay route g =
      go (ℕ_discrete output memory_output)
      (followed left (neighbour_of cols rows node output) (opposite_of output) (delay + hop_cycles long output) (later_codes route) (next_inside g output))
    where
      output : ℕ
      output = output_of entry (first_code route)

      go : Dec (output ≡ memory_output) → Followed cols rows left (delay + hop_cycles long output) (on_from left node delay route output)
          → Followed cols rows (suc left) delay (follow (suc left) cols rows long node entry delay route)
      go (yes e) r =
          subst (Followed cols rows (suc left) delay) (sym (follow_memory cols rows long node entry delay route left e))
          (followed_out left node delay g (later_codes route =? 0))
      go (no ne) r =
          subst (Followed cols rows (suc left) delay) (sym (follow_side cols rows long node entry delay route left ne))
          (followed_on left node delay output g (side_small entry (first_code route) (mod-lt route (omega arith)) ne)
          (on_from left node delay route output) r)

-- what holds where a route leads from its source
record LedFrom (cols rows : ℕ) (uses : List Use) (node hops vertical : ℕ) : Type 0 where
  arrives : InGrid cols rows node
  counted : length uses ≡ hops + 2
  within : hops ≤ 7
  fewer : vertical ≤ hops
  small : SmallUses (cols * rows * 6) (delay_at uses (suc hops)) uses

abbrev FollowedFrom : ℕ → ℕ → Route → Type 0
FollowedFrom cols rows (leads uses node hops vertical) = LedFrom cols rows uses node hops vertical
FollowedFrom cols rows nowhere = Unit {0}

followed_source : (cols rows node : ℕ) → InGrid cols rows node → (r : Route) → Followed cols rows 8 3 r
    → FollowedFrom cols rows (from_source (record { wire = source node; delay = 0 }) r)
unfolding delay_at
followed_source cols rows node g (leads uses end hops vertical) f = record {
  arrives = f.arrives;
  counted = omega (arith, f.counted);
  within = omega (arith, f.within);
  fewer = f.fewer;
  small = (record { proper = tt; numbered = omega (arith, g.inside); soon = omega arith }, f.small (delay_at uses hops) (omega arith));
}
followed_source cols rows node g nowhere f = tt

module _ (cols rows : ℕ) (long : Bool) (source-node route : ℕ) (g : InGrid cols rows source-node) (uses : List Use)
    (node hops vertical : ℕ) (e : route_from cols rows long source-node route ≡ leads uses node hops vertical) where
  led_from : LedFrom cols rows uses node hops vertical
  unfolding route_from
  led_from =
      subst (λ (r : Route). FollowedFrom cols rows r) e
      (followed_source cols rows source-node g (follow 8 cols rows long source-node 4 3 route) (followed cols rows long 8 source-node 4 3 route g))

  -- each use of a route is of a wire of the grid, and no later than its last output
  pub uses_small : SmallUses (cols * rows * 6) (last_delay (leads uses node hops vertical)) uses
  uses_small = led_from.small

  -- a route uses a source wire, a side output for each hop, and a memory output
  pub uses_length : length uses ≡ hops + 2
  uses_length = led_from.counted

  -- a route of eight codes has at most seven hops
  pub hops_high : hops ≤ 7
  hops_high = led_from.within

  -- no more of them are over long links
  pub vertical_high : vertical ≤ hops
  vertical_high = led_from.fewer

  -- a route leads to a node of the grid
  pub end_inside : InGrid cols rows node
  end_inside = led_from.arrives

-- a wire's number tells the wire
pub same_wire_by_number : (a b : Wire) → Proper a → Proper b → wire_number a ≡ wire_number b → a ≡ b
same_wire_by_number (source n) (source m) p q e = let z : n ≡ m = omega arith in ap source z
same_wire_by_number (source n) (side m t) p q e = absurd (let z : ⊥ = omega arith in z)
same_wire_by_number (source n) (memory m) p q e = absurd (let z : ⊥ = omega arith in z)
same_wire_by_number (side n s) (source m) p q e = absurd (let z : ⊥ = omega arith in z)
same_wire_by_number (side n s) (side m t) p q e =
    let z : n ≡ m = omega arith in
    let y : s ≡ t = omega arith in
    cc
same_wire_by_number (side n s) (memory m) p q e = absurd (let z : ⊥ = omega arith in z)
same_wire_by_number (memory n) (source m) p q e = absurd (let z : ⊥ = omega arith in z)
same_wire_by_number (memory n) (side m t) p q e = absurd (let z : ⊥ = omega arith in z)
same_wire_by_number (memory n) (memory m) p q e = let z : n ≡ m = omega arith in ap memory z

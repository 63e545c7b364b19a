-- Along a route that leads somewhere, router by router: node, input and output there, the wire and delay of each use, and the header.
-- Assumes nothing.
use Prim.Native.Nat.{ℕ, zero, suc, ◌+◌, ◌<◌, ◌≤◌}
use mathlib.Core.Bool.{Bool, true, false}
use mathlib.Core.List.{List, [], ◌∷◌}
use mathlib.Core.Path.{◌≡◌, refl, sym, ◌∙◌, ap, ap₂, subst}
use native.Mathlib.Nat.{mod-lt}
use native.Mathlib.Numerals.{add-one}
use native.Mathlib.Omega.{arith}
use native.Mathlib.Decide.{dec_lt, ℕ_discrete}
use lib.ListN.{length}
use Rattle.words.specs.Tests.{◌=?◌}
use Rattle.words.specs.Words.{pick}
use Rattle.words.proofs.TestLaws.{yes=, no=}
use Rattle.packet.specs.Header.{kind_of, address_of, route_of, first_code, later_codes, shifted_word}
use Rattle.packet.proofs.HeaderLaws.{shifted_kind, shifted_address}
use Rattle.torus.specs.Torus.{neighbour_of, opposite_of}
use Rattle.torus.specs.Inner.Grid.{InGrid}
use Rattle.torus.specs.Route.{Wire, source, side, memory, Use, Route, leads, nowhere, output_of, ending, over_side, from_source, follow, route_from, router_cycles, link_cycles, hop_cycles, codes, no_side}
use Rattle.torus.specs.Inner.Delays.{delay_at}
use Rattle.torus.proofs.RouteLaws.{next_inside, side_small, follow_memory, follow_side}
use Rattle.torus.proofs.NeighbourLaws.{neighbour_back, opposite_side, opposite_back}
use Rattle.network.specs.View.{source_input, memory_output}
use Rattle.network.specs.Cycle.{output_for}

-- the wire of use k of a list of uses
unfoldable pub wire_at : List Use → ℕ → Wire
wire_at [] k = source 0
wire_at (u ∷ uses) zero = u.wire
wire_at (u ∷ uses) (suc k) = wire_at uses k

-- the wire of a router's output
unfoldable pub output_wire : ℕ → ℕ → Wire
output_wire node output = pick (output =? memory_output) (memory node) (side node output)

-- a packet at a router: the node, the input that it comes in by, and the codes that are left of its route
pub record Stop : Type 0 where
  pub node : ℕ
  pub input : ℕ
  pub codes : ℕ

-- the output that it leaves by
unfoldable pub stop_output : Stop → ℕ
stop_output stop = output_of stop.input (first_code stop.codes)

-- the next router, by a side output
abbrev pub next_stop : ℕ → ℕ → Stop → Stop
next_stop cols rows stop = record {
  node = neighbour_of cols rows stop.node (stop_output stop);
  input = opposite_of (stop_output stop);
  codes = later_codes stop.codes;
}

-- the router after k steps
unfoldable pub stop_after : ℕ → ℕ → Stop → ℕ → Stop
stop_after cols rows stop zero = stop
stop_after cols rows stop (suc k) = next_stop cols rows (stop_after cols rows stop k)

-- the cycles of those k hops
unfoldable pub cycles_after : ℕ → ℕ → Bool → Stop → ℕ → ℕ
cycles_after cols rows long stop zero = 0
cycles_after cols rows long stop (suc k) = cycles_after cols rows long stop k + hop_cycles long (stop_output (stop_after cols rows stop k))

-- a header word after k routers
unfoldable pub header_after : ℕ → ℕ → ℕ
header_after zero word = word
header_after (suc k) word = shifted_word (header_after k word)

pub header_first : (word : ℕ) → header_after 0 word ≡ word
unfolding header_after
header_first word = refl

pub header_next : (k word : ℕ) → header_after (suc k) word ≡ shifted_word (header_after k word)
unfolding header_after
header_next k word = refl

-- it keeps its kind and its address
pub header_kind : (k word : ℕ) → kind_of (header_after k word) ≡ kind_of word
unfolding header_after
header_kind zero word = refl
header_kind (suc k) word = shifted_kind (header_after k word) ∙ header_kind k word

pub header_address : (k word : ℕ) → address_of (header_after k word) ≡ address_of word
unfolding header_after
header_address zero word = refl
header_address (suc k) word = shifted_address (header_after k word) ∙ header_address k word

-- the wire of an output: to the memory, or by a side
pub wire_memory : (node output : ℕ) → output ≡ memory_output → output_wire node output ≡ memory node
unfolding output_wire
wire_memory node output e = rw (yes= e, output_wire) refl

pub wire_side : (node output : ℕ) → output < 4 → output_wire node output ≡ side node output
unfolding output_wire
wire_side node output l = rw (no= {a = output} {b = 4} (λ e. let z : ⊥ = omega arith in z), output_wire) refl

module _ (cols rows : ℕ) (long : Bool) where
  -- the first step may be taken first
  step_first : (stop : Stop) (k : ℕ) → stop_after cols rows (next_stop cols rows stop) k ≡ stop_after cols rows stop (suc k)
  unfolding stop_after
  step_first stop zero = refl
  step_first stop (suc k) = ap (next_stop cols rows) (step_first stop k)

  cycles_first : (stop : Stop) (k : ℕ)
      → hop_cycles long (stop_output stop) + cycles_after cols rows long (next_stop cols rows stop) k ≡ cycles_after cols rows long stop (suc k)
  unfolding cycles_after stop_after
  cycles_first stop zero = omega arith
  cycles_first stop (suc k) = omega (arith, cycles_first stop k, ap (λ (s : Stop). hop_cycles long (stop_output s)) (step_first stop k))

  -- what holds from a router on, whose output has the given delay
  record WayLed (stop : Stop) (delay : ℕ) (uses : List Use) (end hops : ℕ) : Type 0 where
    counted : length uses ≡ hops + 1
    sides : (k : ℕ) → k < hops → stop_output (stop_after cols rows stop k) < 4
    last_out : stop_output (stop_after cols rows stop hops) ≡ memory_output
    arrives : (stop_after cols rows stop hops).node ≡ end
    wires : (k : ℕ) → k ≤ hops
        → wire_at uses k ≡ output_wire (stop_after cols rows stop k).node (stop_output (stop_after cols rows stop k))
    delays : (k : ℕ) → k ≤ hops → delay_at uses k ≡ delay + cycles_after cols rows long stop k

  -- and nothing where the route leads nowhere
  abbrev WayFollowed : Stop → ℕ → Route → Type 0
  WayFollowed stop delay (leads uses end hops vertical) = WayLed stop delay uses end hops
  WayFollowed stop delay nowhere = Unit {0}

  followed_out : (stop : Stop) (delay : ℕ) → stop_output stop ≡ memory_output → (b : Bool)
      → WayFollowed stop delay (ending b stop.node delay)
  unfolding stop_after cycles_after wire_at delay_at
  followed_out stop delay e true = record {
    counted = refl;
    sides = λ k l. absurd (omega arith);
    last_out = e;
    arrives = refl;
    wires = wires;
    delays = delays;
  }
    where
      wires : (k : ℕ) → k ≤ 0 → wire_at (record { wire = memory stop.node; delay = delay } ∷ []) k
          ≡ output_wire (stop_after cols rows stop k).node (stop_output (stop_after cols rows stop k))
      wires zero l = sym (wire_memory stop.node (stop_output stop) e)
      wires (suc k) l = absurd (omega arith)

      delays : (k : ℕ) → k ≤ 0 → delay_at (record { wire = memory stop.node; delay = delay } ∷ []) k
          ≡ delay + cycles_after cols rows long stop k
      delays zero l = omega arith
      delays (suc k) l = absurd (omega arith)
  followed_out stop delay e false = tt

  followed_on : (stop : Stop) (delay : ℕ) → stop_output stop < 4 → (r : Route) → WayFollowed (next_stop cols rows stop) (delay + hop_cycles long (stop_output stop)) r
      → WayFollowed stop delay (over_side (record { wire = side stop.node (stop_output stop); delay = delay }) (link_cycles long (stop_output stop)) r)
  unfolding stop_after cycles_after wire_at delay_at
  followed_on stop delay l (leads uses end hops vertical) f = record {
    counted = omega (arith, f.counted);
    sides = sides;
    last_out = rw add-one (ap stop_output (sym (step_first stop hops)) ∙ f.last_out);
    arrives = rw add-one (ap (λ (s : Stop). s.node) (sym (step_first stop hops)) ∙ f.arrives);
    wires = wires;
    delays = delays;
  }
    where
      sides : (k : ℕ) → k < hops + 1 → stop_output (stop_after cols rows stop k) < 4
      sides zero h = l
      sides (suc k) h = subst (λ (s : Stop). stop_output s < 4) (step_first stop k) (f.sides k (omega arith))

      wires : (k : ℕ) → k ≤ hops + 1 → wire_at (record { wire = side stop.node (stop_output stop); delay = delay } ∷ uses) k
          ≡ output_wire (stop_after cols rows stop k).node (stop_output (stop_after cols rows stop k))
      wires zero h = sym (wire_side stop.node (stop_output stop) l)
      wires (suc k) h = f.wires k (omega arith) ∙ ap (λ (s : Stop). output_wire s.node (stop_output s)) (step_first stop k)

      delays : (k : ℕ) → k ≤ hops + 1
          → delay_at (record { wire = side stop.node (stop_output stop); delay = delay } ∷ uses) k ≡ delay + cycles_after cols rows long stop k
      delays zero h = omega arith
      delays (suc k) h = omega (arith, f.delays k (omega arith), cycles_first stop k)
  followed_on stop delay l nowhere f = tt

  abbrev follow_at : ℕ → Stop → ℕ → Route
  follow_at left stop delay = follow left cols rows long stop.node stop.input delay stop.codes

  followed : (left : ℕ) (stop : Stop) (delay : ℕ) → WayFollowed stop delay (follow_at left stop delay)
  unfolding follow stop_output
  followed zero stop delay = tt
  followed (suc left) stop delay =
      go (ℕ_discrete (stop_output stop) memory_output) (followed left (next_stop cols rows stop) (delay + hop_cycles long (stop_output stop)))
    where
      go : Dec (stop_output stop ≡ memory_output)
          → WayFollowed (next_stop cols rows stop) (delay + hop_cycles long (stop_output stop))
          (follow_at left (next_stop cols rows stop) (delay + hop_cycles long (stop_output stop)))
          → WayFollowed stop delay (follow_at (suc left) stop delay)
      go (yes e) r =
          subst (WayFollowed stop delay) (sym (follow_memory cols rows long stop.node stop.input delay stop.codes left e))
          (followed_out stop delay e (later_codes stop.codes =? 0))
      go (no ne) r =
          subst (WayFollowed stop delay) (sym (follow_side cols rows long stop.node stop.input delay stop.codes left ne))
          (followed_on stop delay (side_small stop.input (first_code stop.codes) (mod-lt stop.codes (omega arith)) ne)
          (follow_at left (next_stop cols rows stop) (delay + hop_cycles long (stop_output stop))) r)

-- a packet at its first router, which it enters from the source
abbrev pub start_of : ℕ → ℕ → Stop
start_of from route = record { node = from; input = source_input; codes = route }

-- the way of a route from a node: node, input and output of router k, and the cycles from the source's wire to its input's wire
unfoldable pub way_node : ℕ → ℕ → ℕ → ℕ → ℕ → ℕ
way_node cols rows from route k = (stop_after cols rows (start_of from route) k).node

unfoldable pub way_input : ℕ → ℕ → ℕ → ℕ → ℕ → ℕ
way_input cols rows from route k = (stop_after cols rows (start_of from route) k).input

unfoldable pub way_output : ℕ → ℕ → ℕ → ℕ → ℕ → ℕ
way_output cols rows from route k = stop_output (stop_after cols rows (start_of from route) k)

unfoldable pub way_delay : ℕ → ℕ → Bool → ℕ → ℕ → ℕ → ℕ
way_delay cols rows long from route k = cycles_after cols rows long (start_of from route) k

-- the uses of a route along its way, and where it ends
pub record Way (cols rows : ℕ) (long : Bool) (from route : ℕ) (uses : List Use) (end hops : ℕ) : Type 0 where
  pub counted : length uses ≡ hops + 2
  pub source_wire : wire_at uses 0 ≡ source from
  pub source_delay : delay_at uses 0 ≡ 0
  pub output_wire_is : (k : ℕ) → k ≤ hops
      → wire_at uses (suc k) ≡ output_wire (way_node cols rows from route k) (way_output cols rows from route k)
  pub output_delay : (k : ℕ) → k ≤ hops → delay_at uses (suc k) ≡ way_delay cols rows long from route k + router_cycles
  pub side_output : (k : ℕ) → k < hops → way_output cols rows from route k < 4
  pub memory_output_is : way_output cols rows from route hops ≡ memory_output
  pub arrives : way_node cols rows from route hops ≡ end

module _ (cols rows from route : ℕ) where
  -- the way begins at the source
  pub node_first : way_node cols rows from route 0 ≡ from
  unfolding way_node stop_after
  node_first = refl

  pub input_first : way_input cols rows from route 0 ≡ source_input
  unfolding way_input stop_after
  input_first = refl

  -- and goes on by the outputs
  pub node_next : (k : ℕ) → way_node cols rows from route (suc k)
      ≡ neighbour_of cols rows (way_node cols rows from route k) (way_output cols rows from route k)
  unfolding way_node way_output stop_after
  node_next k = refl

  pub input_next : (k : ℕ) → way_input cols rows from route (suc k) ≡ opposite_of (way_output cols rows from route k)
  unfolding way_input way_output stop_after
  input_next k = refl

  -- the delay is the sum of the hops' cycles
  pub delay_first : (long : Bool) → way_delay cols rows long from route 0 ≡ 0
  unfolding way_delay cycles_after
  delay_first long = refl

  pub delay_next : (long : Bool) (k : ℕ)
      → way_delay cols rows long from route (suc k) ≡ way_delay cols rows long from route k + hop_cycles long (way_output cols rows from route k)
  unfolding way_delay way_output cycles_after
  delay_next long k = refl

  -- over nodes of the grid
  pub way_inside : InGrid cols rows from → (k : ℕ) → InGrid cols rows (way_node cols rows from route k)
  unfolding way_node way_output stop_after
  way_inside g zero = g
  way_inside g (suc k) =
      next_inside (way_inside g k) (way_output cols rows from route k)

  -- the codes that a header holds after k routers
  header_codes : (word : ℕ) → route_of word ≡ route → (k : ℕ)
      → route_of (header_after k word) ≡ (stop_after cols rows (start_of from route) k).codes
  unfolding header_after stop_after
  header_codes word e zero = e
  header_codes word e (suc k) = omega (arith, header_codes word e k)

  -- the header asks for the output of each router
  pub header_output : (word : ℕ) → route_of word ≡ route → (k : ℕ)
      → output_for (way_input cols rows from route k) (header_after k word) ≡ way_output cols rows from route k
  unfolding output_for way_input way_output stop_output
  header_output word e k =
      ap (λ (c : ℕ). output_of (stop_after cols rows (start_of from route) k).input (first_code c))
      (header_codes word e k)

  -- where a route leads, that is its way
  abbrev LeadingWay : Bool → Route → Type 0
  LeadingWay long (leads uses end hops vertical) = Way cols rows long from route uses end hops
  LeadingWay long nowhere = Unit {0}

  leading : (long : Bool) (r : Route) → WayFollowed cols rows long (start_of from route) router_cycles r
      → LeadingWay long (from_source (record { wire = source from; delay = 0 }) r)
  unfolding way_node way_output way_delay wire_at delay_at
  leading long (leads uses end hops vertical) f = record {
    counted = omega (arith, f.counted);
    source_wire = refl;
    source_delay = refl;
    output_wire_is = f.wires;
    output_delay = λ k l. omega (arith, f.delays k l);
    side_output = f.sides;
    memory_output_is = f.last_out;
    arrives = f.arrives;
  }
  leading long nowhere f = tt

  -- a route that leads somewhere leads along its way
  pub way : (long : Bool) (uses : List Use) (end hops vertical : ℕ) → route_from cols rows long from route ≡ leads uses end hops vertical
      → Way cols rows long from route uses end hops
  unfolding route_from
  way long uses end hops vertical e =
      subst (LeadingWay long) e
      (leading long (follow codes cols rows long from no_side router_cycles route)
      (followed cols rows long codes (start_of from route) router_cycles))

module _ {cols rows : ℕ} {long : Bool} {from route : ℕ} {uses : List Use} {end hops : ℕ} (w : Way cols rows long from route uses end hops) where
  -- a side output for each hop
  pub side_wire : (k : ℕ) → k < hops
      → wire_at uses (suc k) ≡ side (way_node cols rows from route k) (way_output cols rows from route k)
  side_wire k l = w.output_wire_is k (omega arith) ∙ wire_side _ _ (w.side_output k l)

  -- and the memory output at the end
  pub memory_wire : wire_at uses (suc hops) ≡ memory end
  memory_wire = w.output_wire_is hops (omega arith) ∙ wire_memory _ _ w.memory_output_is ∙ ap memory w.arrives

  -- a packet leaves its source's node, where its end is another
  pub hops_some : (from ≡ end → ⊥) → 1 ≤ hops
  hops_some ne = go (dec_lt 0 hops)
    where
      go : Dec (0 < hops) → 1 ≤ hops
      go (yes l) = omega arith
      go (no l) =
          absurd (ne (sym (node_first cols rows from route)
          ∙ ap (way_node cols rows from route) (let z : 0 ≡ hops = omega arith in z) ∙ w.arrives))

  -- behind router k the input is a side, and its link leads back to router k's output
  pub input_side : (k : ℕ) → way_input cols rows from route (suc k) < 4
  input_side k = subst (λ (n : ℕ). n < 4) (sym (input_next cols rows from route k)) (opposite_side (way_output cols rows from route k))

  pub node_back : InGrid cols rows from → (k : ℕ) → k < hops
      → neighbour_of cols rows (way_node cols rows from route (suc k)) (way_input cols rows from route (suc k)) ≡ way_node cols rows from route k
  node_back g k l =
      ap₂ (neighbour_of cols rows) (node_next cols rows from route k) (input_next cols rows from route k)
      ∙ neighbour_back (way_inside cols rows from route g k) (way_output cols rows from route k) (w.side_output k l)

  pub output_back : (k : ℕ) → k < hops → opposite_of (way_input cols rows from route (suc k)) ≡ way_output cols rows from route k
  output_back k l = ap opposite_of (input_next cols rows from route k) ∙ opposite_back _ (w.side_output k l)

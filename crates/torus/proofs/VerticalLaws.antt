-- The hops of a route over long links: none on a grid without them, and on one with them as many as the shorter way round between the
-- rows of its ends, where the route is no longer than their distance. Its vertical and its other hops are each no fewer than the shorter
-- way, and together they are the distance.
-- Assumes nothing.
use Prim.Native.Nat.{ℕ, zero, suc, ◌+◌, ◌≤◌, ◌<◌}
use mathlib.Core.Bool.{Bool, true, false}
use mathlib.Core.List.{List}
use mathlib.Core.Path.{◌≡◌, refl, sym, subst}
use native.Mathlib.Nat.{mod-lt, le_of_suc-le-suc}
use native.Mathlib.Omega.{arith}
use native.Mathlib.Decide.{ℕ_discrete}
use lib.Dec.{ltb, ltb→lt}
use Rattle.words.specs.Tests.{◌and◌, ◌or◌, ◌=?◌}
use Rattle.words.specs.Words.{pick}
use Rattle.words.proofs.Below.{every, every_at}
use Rattle.packet.specs.Header.{first_code, later_codes}
use Rattle.torus.specs.Torus.{row_of, column_of, neighbour_of, opposite_of, is_vertical, distance_of, shorter_way, round_distance}
use Rattle.torus.specs.Inner.Grid.{InGrid}
use Rattle.torus.specs.Route.{Use, Route, leads, nowhere, memory_output, output_of, ending, over_side, from_source, side, source, follow, route_from, codes, no_side, router_cycles, link_cycles, hop_cycles}
use Rattle.torus.proofs.DistanceLaws.{at_pair, distance_formula, shorter_none}
use Rattle.torus.proofs.RouteLaws.{next_inside, side_small, follow_memory, follow_side, link_short, end_inside}

-- the shorter way round between the rows of two nodes, and between their columns
abbrev in_rows : ℕ → ℕ → ℕ → ℕ → ℕ
in_rows cols rows from to = shorter_way rows (row_of cols from) (row_of cols to)

abbrev in_columns : ℕ → ℕ → ℕ → ℕ
in_columns cols from to = shorter_way cols (column_of cols from) (column_of cols to)

-- a step by a side brings a node nearer by one row at most, and by a column at most where it is not vertical: computed at every pair of
-- nodes of every grid
row_step : (cols rows from to by : ℕ) → InGrid cols rows from → InGrid cols rows to → by < 4
    → in_rows cols rows from to ≤ in_rows cols rows (neighbour_of cols rows from by) to + link_cycles true by
unfolding shorter_way neighbour_of link_cycles is_vertical ◌and◌ ◌or◌ ◌=?◌
row_step cols rows from to by g h l =
    le_of_suc-le-suc (ltb→lt _ _ (every_at 4 (λ s. ltb (in_rows cols rows from to) (suc (in_rows cols rows (neighbour_of cols rows from s) to + link_cycles true s)))
    (at_pair (λ c r n m. every 4 (λ s. ltb (in_rows c r n m) (suc (in_rows c r (neighbour_of c r n s) m + link_cycles true s)))) tt cols rows from to g h) by l))

column_step : (cols rows from to by : ℕ) → InGrid cols rows from → InGrid cols rows to → by < 4
    → in_columns cols from to + link_cycles true by ≤ in_columns cols (neighbour_of cols rows from by) to + 1
unfolding shorter_way neighbour_of link_cycles is_vertical ◌and◌ ◌or◌ ◌=?◌
column_step cols rows from to by g h l =
    le_of_suc-le-suc (ltb→lt _ _ (every_at 4 (λ s. ltb (in_columns cols from to + link_cycles true s) (suc (in_columns cols (neighbour_of cols rows from s) to + 1)))
    (at_pair (λ c r n m. every 4 (λ s. ltb (in_columns c n m + link_cycles true s) (suc (in_columns c (neighbour_of c r n s) m + 1)))) tt cols rows from to g h) by l))

-- so the vertical hops of a route are no fewer than the rows' shorter way, and the others no fewer than the columns'
record Stepped (cols rows from to hops vertical : ℕ) : Type 0 where
  down : in_rows cols rows from to ≤ vertical
  along : in_columns cols from to + vertical ≤ hops

module _ (cols rows : ℕ) (to : ℕ) (inside : InGrid cols rows to) where
  abbrev SteppedTo : ℕ → Route → Type 0
  SteppedTo from (leads uses end hops vertical) = end ≡ to → Stepped cols rows from to hops vertical
  SteppedTo from nowhere = Unit {0}

  stepped_end : (node delay : ℕ) (b : Bool) → SteppedTo node (ending b node delay)
  stepped_end node delay true = λ e.
      record {
        down = subst (λ n. in_rows cols rows node n ≤ 0) e (omega (arith, shorter_none rows (row_of cols node)));
        along = subst (λ n. in_columns cols node n + 0 ≤ 0) e (omega (arith, shorter_none cols (column_of cols node)));
      }
  stepped_end node delay false = tt

  stepped_on : (node output : ℕ) (u : Use) → InGrid cols rows node → output < 4 → (r : Route) → SteppedTo (neighbour_of cols rows node output) r
      → SteppedTo node (over_side u (link_cycles true output) r)
  stepped_on node output u g l (leads uses end hops vertical) w = λ e.
      let s = w e in
      record {
        down = omega (arith, s.down, row_step cols rows node to output g inside l);
        along = omega (arith, s.along, column_step cols rows node to output g inside l);
      }
  stepped_on node output u g l nowhere w = tt

  stepped : (left node entry delay route : ℕ) → InGrid cols rows node → SteppedTo node (follow left cols rows true node entry delay route)
  unfolding follow
  stepped zero node entry delay route g = tt
  stepped (suc left) node entry delay route g =
      go (ℕ_discrete output memory_output)
      (stepped left (neighbour_of cols rows node output) (opposite_of output) (delay + hop_cycles true output) (later_codes route) (next_inside g output))
    where
      output : ℕ
      output = output_of entry (first_code route)

      rest : Route
      rest = follow left cols rows true (neighbour_of cols rows node output) (opposite_of output) (delay + hop_cycles true output) (later_codes route)

      go : Dec (output ≡ memory_output) → SteppedTo (neighbour_of cols rows node output) rest
          → SteppedTo node (follow (suc left) cols rows true node entry delay route)
      go (yes e) w =
          subst (SteppedTo node) (sym (follow_memory cols rows true node entry delay route left e)) (stepped_end node delay (later_codes route =? 0))
      go (no ne) w =
          subst (SteppedTo node) (sym (follow_side cols rows true node entry delay route left ne))
          (stepped_on node output (record { wire = side node output; delay = delay }) g
          (side_small entry (first_code route) (mod-lt route (omega arith)) ne) rest w)

  stepped_source : (node : ℕ) (u : Use) (r : Route) → SteppedTo node r → SteppedTo node (from_source u r)
  stepped_source node u (leads uses end hops vertical) w = w
  stepped_source node u nowhere w = tt

-- no hop is over a long link where there are none
abbrev NoneLong : Route → Type 0
NoneLong (leads uses node hops vertical) = vertical ≡ 0
NoneLong nowhere = Unit {0}

none_end : (node delay : ℕ) (b : Bool) → NoneLong (ending b node delay)
none_end node delay true = refl
none_end node delay false = tt

none_on : (output : ℕ) (u : Use) (r : Route) → NoneLong r → NoneLong (over_side u (link_cycles false output) r)
none_on output u (leads uses node hops vertical) w = omega (arith, w, link_short false output refl)
none_on output u nowhere w = tt

module _ (cols rows : ℕ) where
  none_long : (left node entry delay route : ℕ) → NoneLong (follow left cols rows false node entry delay route)
  unfolding follow
  none_long zero node entry delay route = tt
  none_long (suc left) node entry delay route =
      go (ℕ_discrete output memory_output)
      (none_long left (neighbour_of cols rows node output) (opposite_of output) (delay + hop_cycles false output) (later_codes route))
    where
      output : ℕ
      output = output_of entry (first_code route)

      rest : Route
      rest = follow left cols rows false (neighbour_of cols rows node output) (opposite_of output) (delay + hop_cycles false output) (later_codes route)

      go : Dec (output ≡ memory_output) → NoneLong rest → NoneLong (follow (suc left) cols rows false node entry delay route)
      go (yes e) w =
          subst NoneLong (sym (follow_memory cols rows false node entry delay route left e)) (none_end node delay (later_codes route =? 0))
      go (no ne) w =
          subst NoneLong (sym (follow_side cols rows false node entry delay route left ne))
          (none_on output (record { wire = side node output; delay = delay }) rest w)

  none_source : (u : Use) (r : Route) → NoneLong r → NoneLong (from_source u r)
  none_source u (leads uses node hops vertical) w = w
  none_source u nowhere w = tt

  steps : (node route : ℕ) → InGrid cols rows node → (uses : List Use) (to hops vertical : ℕ)
      → route_from cols rows true node route ≡ leads uses to hops vertical → Stepped cols rows node to hops vertical
  unfolding route_from
  steps node route g uses to hops vertical e =
      let inside = end_inside cols rows true node route g uses to hops vertical e in
      subst (SteppedTo cols rows to inside node) e
      (stepped_source cols rows to inside node (record { wire = source node; delay = 0 })
      (follow codes cols rows true node no_side router_cycles route) (stepped cols rows to inside codes node no_side router_cycles route g)) refl

  -- the hops over long links are no fewer than the shorter way round between the rows of the ends
  pub vertical_least : (long : Bool) (node route : ℕ) → InGrid cols rows node → (uses : List Use) (to hops vertical : ℕ)
      → route_from cols rows long node route ≡ leads uses to hops vertical
      → pick long (shorter_way rows (row_of cols node) (row_of cols to)) 0 ≤ vertical
  vertical_least false node route g uses to hops vertical e = omega arith
  vertical_least true node route g uses to hops vertical e = (steps node route g uses to hops vertical e).down

  -- and as many, where the route is no longer than the distance of its ends
  pub vertical_is : (long : Bool) (node route : ℕ) → InGrid cols rows node → (uses : List Use) (to hops vertical : ℕ)
      → route_from cols rows long node route ≡ leads uses to hops vertical → hops ≤ distance_of cols rows node to
      → vertical ≡ pick long (shorter_way rows (row_of cols node) (row_of cols to)) 0
  unfolding route_from round_distance
  vertical_is false node route g uses to hops vertical e l =
      subst NoneLong e
      (none_source (record { wire = source node; delay = 0 }) (follow codes cols rows false node no_side router_cycles route)
      (none_long codes node no_side router_cycles route))
  vertical_is true node route g uses to hops vertical e l =
      let inside = end_inside cols rows true node route g uses to hops vertical e in
      let s = steps node route g uses to hops vertical e in
      omega (arith, l, distance_formula cols rows node to g inside, s.down, s.along)

-- Packets on their way: which circuit a header in a router belongs to. Its codes lead from every router to its destination, and its address lies
-- in its circuit's receive region, by number 6 in no other circuit's.
-- Assumes nothing.
use Prim.Native.Nat.{ℕ, suc, ◌+◌, ◌-◌, ◌≤◌, ◌<◌}
use mathlib.Core.Bool.{true}
use mathlib.Core.List.{List}
use mathlib.Core.Path.{◌≡◌, ◌∙◌, ap, subst}
use native.Mathlib.Omega.{arith}
use Rattle.words.proofs.TestLaws.{and_left, and_right, and_both, is=, yes=}
use Rattle.packet.specs.Header.{address_of}
use Rattle.sheet.specs.declared.circuits.Region.{Region}
use Rattle.torus.specs.Route.{link_cycles}
use Rattle.sheet.specs.Sheet.{is_long, circuits, circuit_at}
use Rattle.sheet.specs.Slots.{destination_of}
use Rattle.sheet.specs.Rules.{verdict}
use Rattle.network.specs.View.{View}
use Rattle.network.specs.Cycle.{head_now}
use Rattle.network.specs.Inbound.{bound_for, furthest, comes_into}
use Rattle.soundness.proofs.SheetLaws.{sheet_bounds}
use Rattle.isolation.specs.Demand.{in_region}
use Rattle.isolation.proofs.Routes.Way.{header_address}
use Rattle.isolation.proofs.Routes.Ways.{Ways}
use Rattle.isolation.proofs.Routes.SheetWays.{ways_of, routers_few}
use Rattle.isolation.proofs.Flights.Flight.{Flights, Paths, out_stage, InStage}
use Rattle.isolation.proofs.Flights.Period.{link_on}
use Rattle.isolation.proofs.Flights.Trajectory.{Trajectory}
use Rattle.isolation.proofs.Flights.Send.{Opening, flights, leads_of, paths}
use Rattle.isolation.proofs.Flights.Deliver.{first, written, header_back}
use Rattle.isolation.proofs.Flights.Bound.{bound_on}
use Rattle.isolation.proofs.Reckoning.Regions.{in_region_when, receive_once}

module _ (z : List ℕ) (passes : verdict z ≡ 0) (S : ℕ → View) (J : Trajectory z S) where
  abbrev W : Ways z
  W = ways_of z passes

  abbrev F : Flights
  F = flights z W S

  P : Paths z F
  P = paths z (sheet_bounds z passes) W S J

  -- a packet of a circuit whose header has left before cycle T, and whose last word has not landed before it
  pub record OnWay (T circuit : ℕ) : Type 0 where
    pub flight : Opening z S
    pub of_circuit : flight.circuit ≡ circuit
    pub begun : F.start flight < T
    pub unfinished : T ≤ F.start flight + F.size flight + W.travel flight.circuit

  -- the address of its first word, as its header has it all the way
  abbrev pub write_at : Opening z S → ℕ
  write_at f = (first z (sheet_bounds z passes) W S J f).write_address

  addressed : (f : Opening z S) (k : ℕ) → address_of (F.header_at f k) ≡ write_at f
  addressed f k =
      header_address k (head_now z (S f.start) f.circuit) ∙ (header_back z (sheet_bounds z passes) W S J f).address_back

  -- its words' addresses lie in its circuit's receive region
  pub address_inside : (f : Opening z S) (j : ℕ) → j < F.size f → in_region (circuit_at z f.circuit).receive (write_at f + j) ≡ true
  address_inside f j l =
      let lies = written z (sheet_bounds z passes) W S J f in
      in_region_when (circuit_at z f.circuit).receive (write_at f + j) (omega (arith, lies.low)) (omega (arith, lies.high))

  -- and in no other's at its destination
  pub own_circuit : (f : Opening z S) (circuit j : ℕ) → circuit < circuits z → j < F.size f
      → destination_of z f.circuit ≡ destination_of z circuit
      → in_region (circuit_at z circuit).receive (write_at f + j) ≡ true → f.circuit ≡ circuit
  own_circuit f circuit j inside l same here =
      receive_once z passes f.circuit circuit f.circuit_inside inside same (write_at f + j) (address_inside f j l) here

  -- from each router its header leads to its destination
  header_bound : (f : Opening z S) (k : ℕ) → k < F.routers f
      → bound_for furthest z (F.node f k) (F.output f k) (F.header_at f (suc k)) ≡ destination_of z f.circuit + 1
  header_bound f k l =
      let few = routers_few z passes f.circuit f.circuit_inside in
      let last : ℕ = F.routers f - 1 in
      let ends : suc last ≡ F.routers f = omega arith in
      bound_on z F P (last - k) f k last furthest (omega arith) ends (omega arith)
      ∙ ap (λ n. n + 1) ((leads_of z (sheet_bounds z passes) W S J f).last_node last ends)

  -- so a header that comes into a circuit's receive region is one of the circuit's
  comes_own : (f : Opening z S) (k circuit : ℕ) → circuit < circuits z → k < F.routers f
      → comes_into z (circuit_at z circuit).receive (F.node f k) (F.output f k) (F.header_at f (suc k)) ≡ true → f.circuit ≡ circuit
  unfolding comes_into
  comes_own f k circuit inside l e =
      let there = is= _ _ (and_left _ _ e) in
      let address : address_of (F.header_at f (suc k)) ≡ write_at f + 0 = omega (arith, addressed f (suc k)) in
      own_circuit f circuit 0 inside (P.some_size f) (omega (arith, there, header_bound f k l))
      (subst (λ a. in_region (circuit_at z circuit).receive a ≡ true) address (and_right _ _ e))

  -- and each of the circuit's comes into it
  pub own_comes : (f : Opening z S) (k : ℕ) → k < F.routers f
      → comes_into z (circuit_at z f.circuit).receive (F.node f k) (F.output f k) (F.header_at f (suc k)) ≡ true
  unfolding comes_into
  own_comes f k l =
      let address : write_at f + 0 ≡ address_of (F.header_at f (suc k)) = omega (arith, addressed f (suc k)) in
      and_both (yes= (header_bound f k l))
      (subst (λ a. in_region (circuit_at z f.circuit).receive a ≡ true) address (address_inside f 0 (P.some_size f)))

  -- a packet's word in a stage of a router, or of the link behind it, that is read as a header and comes into a circuit's receive region is that packet's header: it has
  -- left, and the packet is one of the circuit's and not wholly landed
  pub stage_on_way : (T stage circuit : ℕ) (f : Opening z S) (k j node output w : ℕ) → 1 ≤ stage
      → stage ≤ out_stage + link_cycles (is_long z) (F.output f k) → InStage F T stage f k j
      → circuit < circuits z → j ≡ 0 → F.node f k ≡ node → F.output f k ≡ output → F.header_at f (suc k) ≡ w
      → comes_into z (circuit_at z circuit).receive node output w ≡ true → OnWay T circuit
  stage_on_way T stage circuit f k j node output w low high s inside j-first at_node by word e =
      let r : Region = (circuit_at z circuit).receive in
      let last : ℕ = F.routers f - 1 in
      let ends : suc last ≡ F.routers f = omega (arith, s.on_way) in
      let comes : comes_into z r (F.node f k) (F.output f k) (F.header_at f (suc k)) ≡ true =
      ap (λ i. comes_into z r i (F.output f k) (F.header_at f (suc k))) at_node
      ∙ ap (λ o. comes_into z r node o (F.header_at f (suc k))) by ∙ ap (comes_into z r node output) word ∙ e in
      record {
        flight = f;
        of_circuit = comes_own f k circuit inside s.on_way comes;
        begun = omega (arith, s.time);
        unfinished =
            omega (
              arith,
              s.time,
              high,
              link_on z F P f k last s.on_way ends,
              (leads_of z (sheet_bounds z passes) W S J f).last_delay_at last ends,
            );
      }

-- Words are on their way into a circuit's receive region, by a state's wires, exactly while some packet of the circuit has begun to leave and
-- not wholly landed.
-- Assumes nothing.
use Prim.Native.Nat.{ℕ, zero, suc, ◌+◌, ◌-◌, ◌*◌, ◌/◌, ◌%◌, ◌≤◌, ◌<◌}
use mathlib.Core.Bool.{true, false≢true}
use mathlib.Core.List.{List, []}
use mathlib.Core.Path.{◌≡◌, refl, sym, ◌∙◌, ap, subst}
use native.Mathlib.Omega.{arith}
use native.Mathlib.Decide.{dec_lt, ℕ_discrete}
use Rattle.words.specs.Tests.{any, ◌and◌, ◌or◌, ◌≤?◌, ◌=?◌}
use Rattle.words.proofs.TestLaws.{and_left, and_right, and_both, or_yes, or_skip, or_cases, is=, yes≤, yes=}
use Rattle.words.proofs.AllLaws.{any_at}
use Rattle.packet.specs.Header.{shifted_word}
use Rattle.torus.specs.Route.{link_cycles}
use Rattle.torus.proofs.RouteLaws.{link_high}
use Rattle.sheet.specs.declared.circuits.Region.{Region}
use Rattle.sheet.specs.Sheet.{is_long, circuits, nodes, circuit_at}
use Rattle.sheet.specs.Slots.{destination_of}
use Rattle.sheet.specs.Rules.{verdict}
use Rattle.network.specs.View.{Cell, header, View, Receiver, ports}
use Rattle.network.specs.Cycle.{output_for, has_extra, is_full}
use Rattle.network.specs.Registers.{reg, at, sheet_in, link_mark, link_word, head_mark, head_word, choice_row, out_mark, out_word, extra_mark, extra_word, receive_mark, receive_address}
use Rattle.network.specs.Seen.{seen_cell, marked, view}
use Rattle.network.specs.Inbound.{comes_into, link_inbound, head_inbound, out_inbound, extra_inbound, header_inbound, is_arriving, is_inbound}
use Rattle.network.proofs.ExtraLaws.{link_with}
use Rattle.soundness.proofs.SoundLaws.{SoundParts}
use Rattle.soundness.proofs.SheetLaws.{sheet_bounds, circuit_bounds}
use Rattle.isolation.specs.Demand.{in_region}
use Rattle.isolation.proofs.Routes.GridLaws.{link_has}
use Rattle.isolation.proofs.Routes.Ways.{Ways}
use Rattle.isolation.proofs.Routes.SheetWays.{ways_of}
use Rattle.isolation.proofs.Flights.Flight.{Flights, word_at, Paths, link_stage, head_stage, out_stage, extra_stage, InStage, Found, Holds}
use Rattle.isolation.proofs.Flights.Step.{input_port, output_port}
use Rattle.isolation.proofs.Flights.Trajectory.{Trajectory}
use Rattle.isolation.proofs.Flights.Send.{Opening, flights, leads_of, paths}
use Rattle.isolation.proofs.Flights.Deliver.{receiving}
use Rattle.isolation.proofs.Flights.Arriving.{arriving_lands}
use Rattle.isolation.proofs.Flights.Bound.{header_mark, chosen, word_header, HeaderIn, header_somewhere}
use Rattle.isolation.proofs.Reckoning.OnWay.{OnWay, write_at, address_inside, own_circuit, own_comes, stage_on_way}

-- a known receive mark that says that a packet is arriving
marked_one : (mark : ℕ) → mark ≤ 1 → marked mark ≡ true → mark ≡ 1
marked_one zero l e = absurd (false≢true e)
marked_one (suc mark) l e = omega arith

module _ (z : List ℕ) (passes : verdict z ≡ 0) (S : ℕ → View) (J : Trajectory z S) where
  abbrev W : Ways z
  W = ways_of z passes

  abbrev F : Flights
  F = flights z W S

  P : Paths z F
  P = paths z (sheet_bounds z passes) W S J

  -- a state whose wires hold just the packets' words before cycle T
  module _ (T : ℕ) (s : List ℕ) (own : sheet_in s ≡ z) (parts : SoundParts z s) (wires : Holds z F T (view s []).routers)
      (units : (node : ℕ) → node < nodes z → (view s []).receiver node ≡ (S T).receiver node) where
    -- its tests of a place, on the sheet z
    module _ (r : Region) (k : ℕ) where
      link_is : link_inbound s r k
          ≡ (reg s link_mark k =? 1 and comes_into z r (k / ports) (output_for (k % ports) (reg s link_word k)) (shifted_word (reg s link_word k)))
      unfolding link_inbound
      link_is =
          ap (λ y. reg s link_mark k =? 1 and comes_into y r (k / ports) (output_for (k % ports) (reg s link_word k)) (shifted_word (reg s link_word k))) own

      head_is : head_inbound s r k
          ≡ (reg s head_mark k =? 1 and 1 ≤? reg s choice_row k and reg s choice_row k ≤? ports
          and comes_into z r (k / ports) (reg s choice_row k - 1) (reg s head_word k))
      unfolding head_inbound
      head_is =
          ap (λ y. reg s head_mark k =? 1 and 1 ≤? reg s choice_row k and reg s choice_row k ≤? ports
          and comes_into y r (k / ports) (reg s choice_row k - 1) (reg s head_word k)) own

      out_is : out_inbound s r k ≡ (reg s out_mark k =? 1 and comes_into z r (k / ports) (k % ports) (reg s out_word k))
      unfolding out_inbound
      out_is = ap (λ y. reg s out_mark k =? 1 and comes_into y r (k / ports) (k % ports) (reg s out_word k)) own

      extra_is : extra_inbound s r k
          ≡ (reg s extra_mark k =? 1 and has_extra z (k % ports) and comes_into z r (k / ports) (k % ports) (reg s extra_word k))
      unfolding extra_inbound
      extra_is =
          ap (λ y. reg s extra_mark k =? 1 and has_extra y (k % ports) and comes_into y r (k / ports) (k % ports) (reg s extra_word k)) own

    module _ (circuit : ℕ) (inside : circuit < circuits z) where
      abbrev region : Region
      region = (circuit_at z circuit).receive

      -- the cell at place k of two rows is a header
      header_cell : (marks cells k : ℕ) → reg s marks k ≡ 1
          → seen_cell (reg s marks (at (k / ports) (k % ports))) (reg s cells (at (k / ports) (k % ports))) ≡ header (reg s cells k)
      header_cell marks cells k e =
          let place : at (k / ports) (k % ports) ≡ k = omega arith in
          ap (λ i. seen_cell (reg s marks i) (reg s cells i)) place ∙ ap (λ m. seen_cell m (reg s cells k)) e

      -- the word that is found there is its packet's header
      found_header : (cells : ℕ → ℕ → Cell) (f : Opening z S) (m j node port node' port' w : ℕ) → cells node port ≡ word_at F f m j
          → node ≡ node' → port ≡ port' → cells node' port' ≡ header w → (j ≡ 0) × (F.header_at f m ≡ w)
      found_header cells f m j node port node' port' w held same-node same-port cell =
          word_header z F P f m j w
          (sym held ∙ ap (λ i. cells i port) same-node ∙ ap (cells node') same-port ∙ cell)

      link_on_way : (k : ℕ) → k < nodes z * ports → link_inbound s region k ≡ true → OnWay z passes S J T circuit
      link_on_way k l e = go (wires.link_only (k / ports) (k % ports) (omega arith) (omega arith) (ap is_full cell))
        where
          test : (reg s link_mark k =? 1 and comes_into z region (k / ports) (output_for (k % ports) (reg s link_word k)) (shifted_word (reg s link_word k)))
              ≡ true
          test = sym (link_is region k) ∙ e

          cell : (view s []).routers.link (k / ports) (k % ports) ≡ header (reg s link_word k)
          cell = header_cell link_mark link_word k (is= _ _ (and_left _ _ test))

          go : Found F T link_stage F.input (k / ports) (k % ports) → OnWay z passes S J T circuit
          go x =
              let record { flight = f; router = n; index = j; in_stage = i; at_node = node; at_port = port } = x in
              let w = found_header (view s []).routers.link f n j _ _ (k / ports) (k % ports) (reg s link_word k)
              (wires.link_word_is f n j i) node port cell in
              stage_on_way z passes S J T link_stage circuit f n j (k / ports) _ _ (omega arith) (omega arith) i inside w.0 node
              (sym (P.asked_output f n i.on_way) ∙ ap (λ p. output_for p (F.header_at f n)) port ∙ ap (output_for (k % ports)) w.1)
              (P.next_header f n ∙ ap shifted_word w.1)
              (and_right _ _ test)

      head_on_way : (k : ℕ) → k < nodes z * ports → head_inbound s region k ≡ true → OnWay z passes S J T circuit
      head_on_way k l e = go (wires.head_only (k / ports) (k % ports) (omega arith) (omega arith) (ap is_full cell))
        where
          test : (reg s head_mark k =? 1 and 1 ≤? reg s choice_row k and reg s choice_row k ≤? ports
              and comes_into z region (k / ports) (reg s choice_row k - 1) (reg s head_word k)) ≡ true
          test = sym (head_is region k) ∙ e

          cell : (view s []).routers.head (k / ports) (k % ports) ≡ header (reg s head_word k)
          cell = header_cell head_mark head_word k (is= _ _ (and_left _ _ test))

          go : Found F T head_stage F.input (k / ports) (k % ports) → OnWay z passes S J T circuit
          go x =
              let record { flight = f; router = n; index = j; in_stage = i; at_node = node; at_port = port } = x in
              let w = found_header (view s []).routers.head f (suc n) j _ _ (k / ports) (k % ports) (reg s head_word k)
              (wires.head_word_is f n j i) node port cell in
              let place : at (F.node f n) (F.input f n) ≡ k = omega (arith, node, port) in
              let choice = ap (reg s choice_row) (sym place) ∙ chosen _ (F.output f n) (wires.head_choice f n j i) in
              stage_on_way z passes S J T head_stage circuit f n j (k / ports) _ _ (omega arith) (omega arith) i inside w.0 node (omega (arith, choice)) w.1
              (and_right _ _ (and_right _ _ (and_right _ _ test)))

      out_on_way : (k : ℕ) → k < nodes z * ports → out_inbound s region k ≡ true → OnWay z passes S J T circuit
      out_on_way k l e = go (wires.out_only (k / ports) (k % ports) (omega arith) (omega arith) (ap is_full cell))
        where
          test : (reg s out_mark k =? 1 and comes_into z region (k / ports) (k % ports) (reg s out_word k)) ≡ true
          test = sym (out_is region k) ∙ e

          cell : (view s []).routers.out (k / ports) (k % ports) ≡ header (reg s out_word k)
          cell = header_cell out_mark out_word k (is= _ _ (and_left _ _ test))

          go : Found F T out_stage F.output (k / ports) (k % ports) → OnWay z passes S J T circuit
          go x =
              let record { flight = f; router = n; index = j; in_stage = i; at_node = node; at_port = port } = x in
              let w = found_header (view s []).routers.out f (suc n) j _ _ (k / ports) (k % ports) (reg s out_word k)
              (wires.out_word_is f n j i) node port cell in
              stage_on_way z passes S J T out_stage circuit f n j (k / ports) (k % ports) _ (omega arith) (omega arith) i inside w.0 node port w.1
              (and_right _ _ test)

      extra_on_way : (k : ℕ) → k < nodes z * ports → extra_inbound s region k ≡ true → OnWay z passes S J T circuit
      extra_on_way k l e = go (wires.extra_only (k / ports) (k % ports) (omega arith) (omega arith) has (ap is_full cell))
        where
          test : (reg s extra_mark k =? 1 and has_extra z (k % ports) and comes_into z region (k / ports) (k % ports) (reg s extra_word k)) ≡ true
          test = sym (extra_is region k) ∙ e

          has : has_extra z (k % ports) ≡ true
          has = and_left _ _ (and_right _ _ test)

          cell : (view s []).routers.extra (k / ports) (k % ports) ≡ header (reg s extra_word k)
          cell = header_cell extra_mark extra_word k (is= _ _ (and_left _ _ test))

          go : Found F T extra_stage F.output (k / ports) (k % ports) → OnWay z passes S J T circuit
          go x =
              let record { flight = f; router = n; index = j; in_stage = i; at_node = node; at_port = port } = x in
              let its-link : has_extra z (F.output f n) ≡ true = ap (has_extra z) port ∙ has in
              let w = found_header (view s []).routers.extra f (suc n) j _ _ (k / ports) (k % ports) (reg s extra_word k)
              (wires.extra_word_at f n j i its-link) node port cell in
              stage_on_way z passes S J T extra_stage circuit f n j (k / ports) (k % ports) _ (omega arith)
              (omega (arith, link_with z (F.output f n) its-link)) i inside w.0 node port w.1
              (and_right _ _ (and_right _ _ test))

      -- a header at a place that comes into the circuit's receive region is of a packet on its way
      pub header_on_way : (k : ℕ) → k < nodes z * ports → header_inbound s region k ≡ true → OnWay z passes S J T circuit
      unfolding header_inbound
      header_on_way k l e =
          or_cases (link_inbound s region k) _ e (link_on_way k l)
          (λ h. or_cases (head_inbound s region k) _ h (head_on_way k l)
          (λ g. or_cases (out_inbound s region k) _ g (out_on_way k l) (extra_on_way k l)))

      -- and so is a packet that arrives in it
      pub arriving_on_way : is_arriving s region ≡ true → OnWay z passes S J T circuit
      unfolding is_arriving
      arriving_on_way e =
          let node : ℕ = destination_of z circuit in
          let n = (circuit_bounds z (sheet_bounds z passes) circuit inside).destination_inside in
          let unit = units node n in
          let arriving : ((S T).receiver node).arriving ≡ true =
          sym (ap (λ (x : Receiver). x.arriving) unit) ∙ ap marked (is= _ _ (and_left _ _ e)) in
          let w = arriving_lands z (sheet_bounds z passes) W S J T node n arriving in
          let f = w.flight in
          let there = receiving z (sheet_bounds z passes) W S J f w.index T w.time w.in_packet in
          let address : reg s receive_address node ≡ write_at z passes S J f + w.index =
          ap (λ (x : Receiver). x.address) unit ∙ ap (λ i. ((S T).receiver i).address) (sym w.at_node) ∙ there.address_is in
          record {
            flight = f;
            of_circuit = own_circuit z passes S J f circuit w.index inside w.in_packet w.at_node
                (subst (λ a. in_region region a ≡ true) address (and_right _ _ e));
            begun = omega (arith, w.time);
            unfinished = omega (arith, w.time, w.in_packet);
          }

    -- a packet on its way shows in its header's register: the place of a router's port, and the test there
    module _ (f : Opening z S) where
      abbrev its : Region
      its = (circuit_at z f.circuit).receive

      module _ (k port : ℕ) (l : k < F.routers f) (p : port < ports) where
        abbrev place : ℕ
        place = at (F.node f k) port

        place_inside : place < nodes z * ports
        place_inside = omega (arith, P.in_grid f k l)

        -- a header that leads on from router k comes into the region, wherever it is read
        comes_at : (output w : ℕ) → F.output f k ≡ output → F.header_at f (suc k) ≡ w → comes_into z its (place / ports) output w ≡ true
        comes_at output w by word =
            let node : F.node f k ≡ place / ports = omega arith in
            ap (λ i. comes_into z its i output w) (sym node) ∙ ap (λ o. comes_into z its (F.node f k) o w) (sym by)
            ∙ ap (comes_into z its (F.node f k) (F.output f k)) (sym word) ∙ own_comes z passes S J f k l

      link_shows : (k : ℕ) → InStage F T link_stage f k 0 → header_inbound s its (at (F.node f k) (F.input f k)) ≡ true
      unfolding header_inbound
      link_shows k i =
          let p = input_port z F P f k i.on_way in
          let here : ℕ = at (F.node f k) (F.input f k) in
          let port : F.input f k ≡ here % ports = omega arith in
          let cell = header_mark (reg s link_mark here) (reg s link_word here) (F.header_at f k) (wires.link_word_is f k 0 i) in
          sym (or_yes _ (link_is its here
          ∙ and_both (yes= cell.0)
          (comes_at k (F.input f k) i.on_way p _ _
          (sym (P.asked_output f k i.on_way) ∙ ap (λ q. output_for q (F.header_at f k)) port ∙ ap (output_for (here % ports)) (sym cell.1))
          (P.next_header f k ∙ ap shifted_word (sym cell.1)))))

      head_shows : (k : ℕ) → InStage F T head_stage f k 0 → header_inbound s its (at (F.node f k) (F.input f k)) ≡ true
      unfolding header_inbound
      head_shows k i =
          let p = input_port z F P f k i.on_way in
          let here : ℕ = at (F.node f k) (F.input f k) in
          let few = output_port z F P f k i.on_way in
          let cell = header_mark (reg s head_mark here) (reg s head_word here) (F.header_at f (suc k)) (wires.head_word_is f k 0 i) in
          let choice = chosen (reg s choice_row here) (F.output f k) (wires.head_choice f k 0 i) in
          sym (or_skip _ (or_yes _ (head_is its here
          ∙ and_both (yes= cell.0) (and_both (yes≤ (omega (arith, choice))) (and_both (yes≤ (omega (arith, choice)))
          (comes_at k (F.input f k) i.on_way p (reg s choice_row here - 1) (reg s head_word here) (omega (arith, choice)) (sym cell.1)))))))

      out_shows : (k : ℕ) → InStage F T out_stage f k 0 → header_inbound s its (at (F.node f k) (F.output f k)) ≡ true
      unfolding header_inbound
      out_shows k i =
          let p = output_port z F P f k i.on_way in
          let here : ℕ = at (F.node f k) (F.output f k) in
          let cell = header_mark (reg s out_mark here) (reg s out_word here) (F.header_at f (suc k)) (wires.out_word_is f k 0 i) in
          sym (or_skip _ (or_skip _ (or_yes _ (out_is its here
          ∙ and_both (yes= cell.0)
          (comes_at k (F.output f k) i.on_way p (here % ports) (reg s out_word here) (omega arith) (sym cell.1))))))

      extra_shows : (k : ℕ) → InStage F T extra_stage f k 0 → has_extra z (F.output f k) ≡ true
          → header_inbound s its (at (F.node f k) (F.output f k)) ≡ true
      unfolding header_inbound
      extra_shows k i has =
          let p = output_port z F P f k i.on_way in
          let here : ℕ = at (F.node f k) (F.output f k) in
          let port : F.output f k ≡ here % ports = omega arith in
          let cell = header_mark (reg s extra_mark here) (reg s extra_word here) (F.header_at f (suc k)) (wires.extra_word_at f k 0 i has) in
          sym (or_skip _ (or_skip _ (or_skip _ (sym (extra_is its here
          ∙ and_both (yes= cell.0) (and_both (sym (ap (has_extra z) port) ∙ has)
          (comes_at k (F.output f k) i.on_way p (here % ports) (reg s extra_word here) port (sym cell.1))))))))

      -- while its header is in a router or on a link
      header_shows : HeaderIn z F P T f → any (nodes z * ports) (header_inbound s its) ≡ true
      header_shows h = go (ℕ_discrete h.stage link_stage) (ℕ_discrete h.stage head_stage) (ℕ_discrete h.stage out_stage)
        where
          k : ℕ
          k = h.router

          here : (stage : ℕ) → h.stage ≡ stage → InStage F T stage f k 0
          here stage e = subst (λ (n : ℕ). InStage F T n f k 0) e h.in_stage

          go : Dec (h.stage ≡ link_stage) → Dec (h.stage ≡ head_stage) → Dec (h.stage ≡ out_stage)
              → any (nodes z * ports) (header_inbound s its) ≡ true
          go (yes e) d c =
              let i = here link_stage e in
              any_at _ _ _ (place_inside k (F.input f k) i.on_way (input_port z F P f k i.on_way)) (link_shows k i)
          go (no n) (yes e) c =
              let i = here head_stage e in
              any_at _ _ _ (place_inside k (F.input f k) i.on_way (input_port z F P f k i.on_way)) (head_shows k i)
          go (no n) (no m) (yes e) =
              let i = here out_stage e in
              any_at _ _ _ (place_inside k (F.output f k) i.on_way (output_port z F P f k i.on_way)) (out_shows k i)
          go (no n) (no m) (no o) =
              let one = link_high (is_long z) (F.output f k) (link_cycles (is_long z) (F.output f k)) refl in
              let i = here extra_stage (omega (arith, n, m, o, h.low, h.high, one)) in
              let has = link_has z (F.output f k) (omega (arith, n, m, o, h.low, h.high)) in
              any_at _ _ _ (place_inside k (F.output f k) i.on_way (output_port z F P f k i.on_way)) (extra_shows k i has)

      -- while its words land
      arriving_shows : (j : ℕ) → T ≡ f.start + suc j + W.travel f.circuit → suc j ≤ F.size f → is_arriving s its ≡ true
      unfolding is_arriving
      arriving_shows j e l =
          let node : ℕ = destination_of z f.circuit in
          let n = (circuit_bounds z (sheet_bounds z passes) f.circuit f.circuit_inside).destination_inside in
          let there = receiving z (sheet_bounds z passes) W S J f j T e l in
          let unit = units node n in
          let mark = marked_one (reg s receive_mark node) (parts.units node n).receiving
          (ap (λ (x : Receiver). x.arriving) unit ∙ there.is_arriving_is) in
          let address : write_at z passes S J f + j ≡ reg s receive_address node = sym (ap (λ (x : Receiver). x.address) unit ∙ there.address_is) in
          and_both (yes= mark) (subst (λ a. in_region its a ≡ true) address (address_inside z passes S J f j l))

    -- where a packet of a circuit is on its way, words are inbound
    pub on_way_inbound : (circuit : ℕ) → OnWay z passes S J T circuit → is_inbound s circuit ≡ true
    unfolding is_inbound
    on_way_inbound circuit x =
        subst (λ c. is_arriving s (circuit_at (sheet_in s) c).receive
        or any (nodes (sheet_in s) * ports) (header_inbound s (circuit_at (sheet_in s) c).receive) ≡ true) x.of_circuit
        (subst (λ y. is_arriving s (circuit_at y x.flight.circuit).receive
        or any (nodes y * ports) (header_inbound s (circuit_at y x.flight.circuit).receive) ≡ true) (sym own)
        (go (dec_lt (F.start f + W.travel f.circuit) T)))
      where
        f : Opening z S
        f = x.flight

        last : ℕ
        last = F.routers f - 1

        ends : suc last ≡ F.routers f
        ends = omega (arith, P.some_routers f)

        go : Dec (F.start f + W.travel f.circuit < T)
            → is_arriving s (circuit_at z f.circuit).receive or any (nodes z * ports) (header_inbound s (circuit_at z f.circuit).receive) ≡ true
        go (yes past) =
            let j : ℕ = T - (F.start f + W.travel f.circuit) - 1 in
            sym (or_yes _ (arriving_shows f j (omega arith) (omega (arith, x.unfinished))))
        go (no before) =
            let travel = (leads_of z (sheet_bounds z passes) W S J f).last_delay_at last ends in
            sym (or_skip _ (sym (header_shows f
            (header_somewhere z F P T f last (omega (arith, ends)) x.begun (omega (arith, before, travel))))))

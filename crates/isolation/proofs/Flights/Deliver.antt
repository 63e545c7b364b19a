-- Each word that a circuit sends lands at its address after the circuit's travel, nothing else lands, and no cycle has a fault.
-- Assumes nothing.
use Prim.Native.Nat.{ℕ, zero, suc, ◌+◌, ◌-◌, ◌≤◌, ◌<◌}
use mathlib.Core.Bool.{Bool, true, false, not, false≢true}
use mathlib.Core.List.{List}
use mathlib.Core.Path.{◌≡◌, refl, sym, ◌∙◌, ap}
use native.Mathlib.Omega.{arith}
use Rattle.words.specs.Tests.{◌and◌, ◌or◌, ◌≤?◌}
use Rattle.words.proofs.TestLaws.{and_no, and_no_right, or_on, no≤, no=}
use Rattle.packet.proofs.HeaderLaws.{GivenBack, given_back}
use Rattle.sheet.specs.Sheet.{memory_words, circuits, nodes, circuit_at}
use Rattle.sheet.specs.Slots.{slot_route, destination_of}
use Rattle.network.specs.View.{Cell, empty, header, payload, memory_output, Sender, Receiver, Landing, nothing, landed, View}
use Rattle.network.specs.Cycle.{Move, rests, opens, sends, slot_now, move_now, head_now, read_now, landing_of, step_receiver, tick, is_payload, strays, faulty}
use Rattle.soundness.proofs.SoundLaws.{Lies, travels_small}
use Rattle.soundness.proofs.SheetLaws.{SheetBounds, circuit_bounds}
use Rattle.isolation.proofs.Flights.CellLaws.{payload_full}
use Rattle.isolation.proofs.Flights.Flight.{Flights, word_at, out_stage, InStage}
use Rattle.isolation.proofs.Flights.Run.{lands, lands_only}
use Rattle.isolation.proofs.Routes.Way.{header_kind, header_address}
use Rattle.isolation.proofs.Routes.Ways.{Ways}
use Rattle.isolation.proofs.Flights.Trajectory.{Trajectory, move_sends, transfer_inside, sender_next}
use Rattle.isolation.proofs.Flights.Send.{Opening, flights, left_of, leads_of, paths, holds, to_go_is, sends_on, under_way_is, only_strays}

-- something landed
abbrev pub is_landed : Landing → Bool
is_landed nothing = false
is_landed (landed kind address word) = true

-- a payload word that a sender puts on its source's wire, as it is to land, given the memory word of this cycle
abbrev pub leaving_of : Move → ℕ → Sender → Landing
leaving_of rests word x = nothing
leaving_of opens word x = nothing
leaving_of sends word x = landed x.kind x.write_address word

-- the payload word that a circuit sends in this cycle
abbrev pub leaving_now : List ℕ → View → ℕ → Landing
leaving_now z v circuit = leaving_of (move_now z v circuit) (read_now z v circuit) (v.sender circuit)

-- what lands is a payload word
landing_payload : (r : Receiver) (c : Cell) → is_landed (landing_of r c) ≡ true → is_payload c ≡ true
landing_payload r empty e = e
landing_payload r (header word) e = e
landing_payload r (payload word last) e = refl

not_landed : (x : Landing) → (is_landed x ≡ true → ⊥) → x ≡ nothing
not_landed nothing h = refl
not_landed (landed kind address word) h = absurd (h refl)

-- the address of a landing
abbrev address_in : Landing → ℕ
address_in nothing = 0
address_in (landed kind address word) = address

-- what leaves is sent
pub leaving_sends : (m : Move) (word : ℕ) (x : Sender) → is_landed (leaving_of m word x) ≡ true → m ≡ sends
leaving_sends rests word x e = absurd (false≢true e)
leaving_sends opens word x e = absurd (false≢true e)
leaving_sends sends word x e = refl

module _ (z : List ℕ) (W : Ways z) (S : ℕ → View) where
  -- payload word j + 1 of a packet, as it is to land
  abbrev pub due : Opening z S → ℕ → Landing
  due f j =
      landed ((S f.start).sender f.circuit).kind (((S f.start).sender f.circuit).write_address + j)
      ((flights z W S).payload_at f (suc j))

  -- a payload word of a packet, j + 1, that lands at a node in cycle T
  pub record Lands (T node : ℕ) : Type 0 where
    pub flight : Opening z S
    pub index : ℕ
    pub in_packet : suc index ≤ (flights z W S).size flight
    pub time : T ≡ flight.start + suc index + W.travel flight.circuit
    pub at_node : destination_of z flight.circuit ≡ node

  -- what lands at a node in cycle T left its circuit's source that circuit's travel before
  pub record Came (T node : ℕ) (x : Landing) : Type 0 where
    pub circuit : ℕ
    pub circuit_inside : circuit < circuits z
    pub at_node : destination_of z circuit ≡ node
    pub left_in : ℕ
    pub time : T ≡ left_in + W.travel circuit
    pub what : leaving_now z (S left_in) circuit ≡ x

module _ (z : List ℕ) (B : SheetBounds z) (W : Ways z) (S : ℕ → View) (J : Trajectory z S) where
  abbrev F : Flights
  F = flights z W S

  abbrev pub first : Opening z S → Sender
  first f = (S f.start).sender f.circuit

  -- the sender of a packet's circuit, before payload word j + 1 leaves
  record SendingWord (f : Opening z S) (j : ℕ) (x : Sender) : Type 0 where
    address_is : x.write_address ≡ (first f).write_address + j
    kind_is : x.kind ≡ (first f).kind

  -- while a packet is sent, its transfer goes on word by word
  sending : (f : Opening z S) (j T : ℕ) → T ≡ f.start + suc j → suc j ≤ F.size f → SendingWord f j ((S T).sender f.circuit)
  sending f j zero e l = absurd (omega arith)
  sending f zero (suc T) e l =
      let start : T ≡ f.start = omega arith in
      let left = to_go_is z B W S J f 0 (suc T) e l in
      let next = sender_next z S J T f.circuit opens f.circuit_inside (rw start f.opening) (omega arith) in
      let same : (S T).sender f.circuit ≡ first f = ap (λ t. (S t).sender f.circuit) start in
      record {
        address_is = omega (arith, ap (λ x. x.write_address) next, ap (λ x. x.write_address) same);
        kind_is = ap (λ x. x.kind) next ∙ ap (λ x. x.kind) same;
      }
  sending f (suc j) (suc T) e l =
      let before = sending f j T (omega arith) (omega arith) in
      let left = to_go_is z B W S J f j T (omega arith) (omega arith) in
      let left' = to_go_is z B W S J f (suc j) (suc T) e l in
      let m = sends_on z B W S J f j T (omega arith) (omega arith) (omega arith) in
      let next = sender_next z S J T f.circuit sends f.circuit_inside m (omega arith) in
      record {
        address_is = omega (arith, ap (λ x. x.write_address) next, before.address_is);
        kind_is = ap (λ x. x.kind) next ∙ before.kind_is;
      }

  -- its circuit sends its payload words, cycle by cycle
  pub leaving_is : (f : Opening z S) (j T : ℕ) → T ≡ f.start + suc j → suc j ≤ F.size f
      → leaving_now z (S T) f.circuit ≡ due z W S f j
  leaving_is f j T e l =
      let left = to_go_is z B W S J f j T e l in
      let m = sends_on z B W S J f j T e l (omega arith) in
      let x = sending f j T e l in
      let read : read_now z (S T) f.circuit ≡ F.payload_at f (suc j) = ap (λ t. read_now z (S t) f.circuit) e in
      ap (λ d. leaving_of d (read_now z (S T) f.circuit) ((S T).sender f.circuit)) m ∙ cc (read, x.address_is, x.kind_is)

  -- its words come to its destination's memory output
  pub memory_word : (f : Opening z S) (j T : ℕ) → T ≡ f.start + j + W.travel f.circuit → j ≤ F.size f
      → (S T).routers.out (destination_of z f.circuit) memory_output ≡ word_at F f (W.routers f.circuit) j
  memory_word f j T e l =
      let k : ℕ = W.routers f.circuit - 1 in
      let last : suc k ≡ W.routers f.circuit = omega (arith, (leads_of z B W S J f).away) in
      let there : InStage F T out_stage f k j =
      record { on_way = omega (arith, last); in_packet = l; time = omega (arith, (leads_of z B W S J f).last_delay_at k last) } in
      ap (λ n. (S T).routers.out n memory_output) (sym ((leads_of z B W S J f).last_node k last))
      ∙ lands z F (paths z B W S J) T (S T).routers (holds z B W S J T) f k j last there
      ∙ ap (λ n. word_at F f n j) last

  -- a packet's write addresses lie in its circuit's receive region
  pub written : (f : Opening z S) → Lies (circuit_at z f.circuit).receive (first f).write_address (first f).left
  written f = (transfer_inside z S J f.start f.circuit f.circuit_inside).writes (left_of z B W S J f)

  -- its header gives back its kind and its first address
  pub header_back : (f : Opening z S)
      → GivenBack (first f).kind (first f).write_address (slot_route z (S f.start).schedule (S f.start).cycle f.circuit)
  header_back f =
      let some = left_of z B W S J f in
      let travels = (transfer_inside z S J f.start f.circuit f.circuit_inside).travels some in
      let ends = (circuit_bounds z B f.circuit f.circuit_inside).receive_ends in
      given_back _ _ _
      (record {
        kind_fits = omega (arith, travels_small (first f).kind travels);
        address_fits = omega (arith, some, (written f).high, ends, B.small_memory);
        route_fits = (leads_of z B W S J f).route_fits;
      })

  -- the receive unit of a packet's destination, before payload word j + 1 lands
  pub record ReceivingWord (f : Opening z S) (j : ℕ) (r : Receiver) : Type 0 where
    pub address_is : r.address ≡ (first f).write_address + j
    pub kind_is : r.kind ≡ (first f).kind
    pub is_arriving_is : r.arriving ≡ true

  pub receiver_next : (T node : ℕ) (c : Cell) → node < nodes z → (S T).routers.out node memory_output ≡ c
      → (S (suc T)).receiver node ≡ step_receiver ((S T).receiver node) c
  receiver_next T node c n e = (J.between T).receiver node n ∙ ap (step_receiver ((S T).receiver node)) e

  destination_inside : (f : Opening z S) → destination_of z f.circuit < nodes z
  destination_inside f = (circuit_bounds z B f.circuit f.circuit_inside).destination_inside

  -- while a packet arrives, its receive unit goes on word by word
  pub receiving : (f : Opening z S) (j T : ℕ) → T ≡ f.start + suc j + W.travel f.circuit → suc j ≤ F.size f
      → ReceivingWord f j ((S T).receiver (destination_of z f.circuit))
  receiving f j zero e l = absurd (omega arith)
  receiving f zero (suc T) e l =
      let word : ℕ = head_now z (S f.start) f.circuit in
      let back = header_back f in
      let next =
      receiver_next T (destination_of z f.circuit) (word_at F f (W.routers f.circuit) 0) (destination_inside f)
      (memory_word f 0 T (omega arith) (omega arith)) in
      record {
        address_is = omega (arith, ap (λ r. r.address) next, header_address (W.routers f.circuit) word, back.address_back);
        kind_is = ap (λ r. r.kind) next ∙ header_kind (W.routers f.circuit) word ∙ back.kind_back;
        is_arriving_is = ap (λ r. r.arriving) next;
      }
  receiving f (suc j) (suc T) e l =
      let before = receiving f j T (omega arith) (omega arith) in
      let next =
      receiver_next T (destination_of z f.circuit) (word_at F f (W.routers f.circuit) (suc j)) (destination_inside f)
      (memory_word f (suc j) T (omega arith) (omega arith)) in
      let not_last : suc j ≡ F.size f → ⊥ = λ q. omega arith in
      record {
        address_is = omega (arith, ap (λ r. r.address) next, before.address_is);
        kind_is = ap (λ r. r.kind) next ∙ before.kind_is;
        is_arriving_is = ap (λ r. r.arriving) next ∙ rw (no= not_last) before.is_arriving_is;
      }

  -- so each payload word lands, with its kind and at its address
  pub landing_is : (f : Opening z S) (j T : ℕ) → T ≡ f.start + suc j + W.travel f.circuit → suc j ≤ F.size f
      → (tick z (S T)).landing (destination_of z f.circuit) ≡ due z W S f j
  landing_is f j T e l =
      let r = receiving f j T e l in
      ap (landing_of ((S T).receiver (destination_of z f.circuit))) (memory_word f (suc j) T e l) ∙ cc (r.address_is, r.kind_is)

  -- a payload word at a memory output is one of a packet
  pub lands_at_is : (T node : ℕ) → node < nodes z → is_payload ((S T).routers.out node memory_output) ≡ true → Lands z W S T node
  lands_at_is T node n p =
      let found =
      lands_only z F (paths z B W S J) T (S T).routers (holds z B W S J T) node n
      (payload_full ((S T).routers.out node memory_output) p) in
      let w = found.0 in
      let leads = leads_of z B W S J w.flight in
      go w.flight w.index (sym (leads.last_node w.router found.1) ∙ w.at_node) w.in_stage.in_packet
      (omega (arith, w.in_stage.time, leads.last_delay_at w.router found.1))
    where
      go : (f : Opening z S) (j : ℕ) → destination_of z f.circuit ≡ node → j ≤ F.size f
          → T ≡ f.start + j + W.travel f.circuit → Lands z W S T node
      go f zero here l e = absurd (false≢true (sym (ap is_payload (rw here at (memory_word f 0 T e l))) ∙ p))
      go f (suc j) here l e = record { flight = f; index = j; in_packet = l; time = e; at_node = here }

  -- and what lands is that word
  pub lands_due : (T node : ℕ) (w : Lands z W S T node) → (tick z (S T)).landing node ≡ due z W S w.flight w.index
  lands_due T node w =
      ap (tick z (S T)).landing (sym w.at_node) ∙ landing_is w.flight w.index T w.time w.in_packet

  -- where no packet's word lands, nothing does
  pub lands_nothing : (T node : ℕ) → node < nodes z → (Lands z W S T node → ⊥) → (tick z (S T)).landing node ≡ nothing
  lands_nothing T node n none =
      not_landed ((tick z (S T)).landing node)
      (λ e. none (lands_at_is T node n (landing_payload ((S T).receiver node) ((S T).routers.out node memory_output) e)))

  -- delivery: what a circuit sends in cycle t lands at its destination in cycle t + its travel
  pub delivered : (t T circuit : ℕ) → circuit < circuits z → T ≡ t + W.travel circuit
      → is_landed (leaving_now z (S t) circuit) ≡ true
      → (tick z (S T)).landing (destination_of z circuit) ≡ leaving_now z (S t) circuit
  delivered t T circuit l e full =
      let m = leaving_sends (move_now z (S t) circuit) (read_now z (S t) circuit) ((S t).sender circuit) full in
      let x = under_way_is z B W S J t circuit l (move_sends (slot_now z (S t) circuit) ((S t).sender circuit) m) in
      let u = x.0 in
      let later : 0 < u.index = x.1 in
      let f = u.flight in
      let j : ℕ = u.index - 1 in
      let travel : W.travel f.circuit ≡ W.travel circuit = ap W.travel u.of_circuit in
      let inside : suc j ≤ F.size f = omega (arith, u.in_packet, later) in
      let left : t ≡ f.start + suc j = omega (arith, u.time, later) in
      ap (λ c. (tick z (S T)).landing (destination_of z c)) (sym u.of_circuit)
      ∙ landing_is f j T (omega (arith, left, travel, e)) inside
      ∙ sym (leaving_is f j t left inside)
      ∙ ap (leaving_now z (S t)) u.of_circuit

  -- and nothing else lands
  pub came_from : (T node : ℕ) → node < nodes z → is_landed ((tick z (S T)).landing node) ≡ true
      → Came z W S T node ((tick z (S T)).landing node)
  came_from T node n full =
      let w = lands_at_is T node n (landing_payload ((S T).receiver node) ((S T).routers.out node memory_output) full) in
      let f = w.flight in
      record {
        circuit = f.circuit;
        circuit_inside = f.circuit_inside;
        at_node = w.at_node;
        left_in = f.start + suc w.index;
        time = w.time;
        what = leaving_is f w.index (f.start + suc w.index) refl w.in_packet ∙ sym (lands_due T node w);
      }

  -- what a circuit sends goes into its receive region
  pub leaving_inside : (t circuit kind address word : ℕ) → circuit < circuits z
      → leaving_now z (S t) circuit ≡ landed kind address word → Lies (circuit_at z circuit).receive address 1
  leaving_inside t circuit kind address word l e = go (move_now z (S t) circuit) refl e
    where
      go : (m : Move) → move_now z (S t) circuit ≡ m
          → leaving_of m (read_now z (S t) circuit) ((S t).sender circuit) ≡ landed kind address word
          → Lies (circuit_at z circuit).receive address 1
      go rests q x = absurd (false≢true (ap is_landed x))
      go opens q x = absurd (false≢true (ap is_landed x))
      go sends q x =
          let same : ((S t).sender circuit).write_address ≡ address = ap address_in x in
          let some = move_sends (slot_now z (S t) circuit) ((S t).sender circuit) q in
          let f = transfer_inside z S J t circuit l in
          let y = f.writes (omega (arith, f.to_go_at, some)) in
          record { low = omega (arith, same, y.low); high = omega (arith, same, y.high, f.to_go_at, some) }

  -- no payload word strays at a memory: its packet is arriving, and its address lies within the memory
  pub none_strays : (T node : ℕ) → node < nodes z → strays z (S T) node ≡ false
  unfolding strays
  none_strays T node n = go (is_payload ((S T).routers.out node memory_output)) refl
    where
      calm : Lands z W S T node → (not ((S T).receiver node).arriving or memory_words z ≤? ((S T).receiver node).address) ≡ false
      calm w =
          let f = w.flight in
          let r = receiving f w.index T w.time w.in_packet in
          let same = ap (S T).receiver w.at_node in
          let arriving : ((S T).receiver node).arriving ≡ true = sym (ap (λ x. x.arriving) same) ∙ r.is_arriving_is in
          let ends = (circuit_bounds z B f.circuit f.circuit_inside).receive_ends in
          let address : ((S T).receiver node).address < memory_words z =
          omega (arith, ap (λ x. x.address) same, r.address_is, w.in_packet, (written f).high, ends) in
          sym (or_on (ap not arriving) (sym (no≤ address)))

      go : (b : Bool) → is_payload ((S T).routers.out node memory_output) ≡ b
          → b and (not ((S T).receiver node).arriving or memory_words z ≤? ((S T).receiver node).address) ≡ false
      go true e = and_no_right true _ (calm (lands_at_is T node n e))
      go false e = sym (and_no _ refl)

  -- so no cycle of a session has a fault
  pub no_fault : (T : ℕ) → faulty z (S T) ≡ false
  no_fault T = only_strays z B W S J T (none_strays T)

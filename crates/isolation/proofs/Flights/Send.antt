-- A session's packets are flights that keep off one another's wires, its sources emit just them, and so its routers hold just them.
-- Assumes nothing.
use Prim.Native.Nat.{ℕ, zero, suc, ◌+◌, ◌-◌, min, ◌≤◌, ◌<◌}
use mathlib.Core.Bool.{Bool, true, false, false≢true}
use mathlib.Core.List.{List}
use mathlib.Core.Path.{◌≡◌, refl, sym, ◌∙◌, ap}
use native.Mathlib.Decide.{ℕ_discrete, dec_lt}
use native.Mathlib.Omega.{arith}
use Rattle.words.specs.Tests.{◌and◌, ◌or◌, ◌=?◌}
use Rattle.words.proofs.AllLaws.{any_none}
use Rattle.words.specs.Words.{pick}
use Rattle.words.proofs.TestLaws.{and_left, and_right, is≤, is=, no≤, yes=, no=}
use Rattle.words.proofs.WordLaws.{count_of_one}
use Rattle.packet.specs.Header.{header_word, route_of, routes}
use Rattle.sheet.specs.Sheet.{circuits, nodes}
use Rattle.sheet.specs.Slots.{slot_length, source_of}
use Rattle.network.specs.View.{Cell, empty, header, payload, View, ports}
use Rattle.network.specs.Cycle.{gather, Move, rests, opens, sends, sent_cell, slot_now, move_now, head_now, read_now, sent_now, source_wire, is_full, crowds, reopens, strays, faulty}
use Rattle.soundness.proofs.SheetLaws.{SheetBounds}
use Rattle.isolation.proofs.Flights.CellLaws.{not_full, pick_passes, pick_full, gather_one, gather_full}
use Rattle.isolation.proofs.Flights.Flight.{Flights, word_at, Paths, Holds, Leaves, Emits, NoClash}
use Rattle.isolation.proofs.Flights.Run.{Runs, run_holds}
use Rattle.isolation.proofs.Flights.Faults.{none_collides, none_headless}
use Rattle.isolation.proofs.Flights.Slotted.{Slotted}
use Rattle.isolation.proofs.Flights.Period.{begins_later, delay_later, flights_apart}
use Rattle.isolation.proofs.Routes.Way.{header_after, header_first, header_next}
use Rattle.isolation.proofs.Routes.Ways.{Slot, Course, Leads, Ways}
use Rattle.isolation.proofs.Flights.Trajectory.{Trajectory, opens_both, move_opens, move_sends, move_rests, begins, long, begins_next, long_is, Date, date, to_go_next}

-- a packet of a session: a cycle, counted from the load, in which a slot of a circuit with words left begins
pub record Opening (z : List ℕ) (S : ℕ → View) : Type 0 where
  pub start : ℕ
  pub circuit : ℕ
  pub circuit_inside : circuit < circuits z
  pub opening : move_now z (S start) circuit ≡ opens

-- its way
abbrev pub course_of : (z : List ℕ) → Ways z → (S : ℕ → View) → Opening z S → Course
course_of z W S f = W.course (S f.start).schedule (S f.start).cycle f.circuit

-- the packets of a session, as flights: payload word j is read in the cycle in which it leaves
abbrev pub flights : (z : List ℕ) → Ways z → (ℕ → View) → Flights
flights z W S = record {
  Id = Opening z S;
  start = λ f. f.start;
  routers = λ f. W.routers f.circuit;
  size = λ f. min (slot_now z (S f.start) f.circuit - 1) ((S f.start).sender f.circuit).left;
  node = λ f. (course_of z W S f).node;
  input = λ f. (course_of z W S f).input;
  output = λ f. (course_of z W S f).output;
  header_at = λ f k. header_after k (head_now z (S f.start) f.circuit);
  payload_at = λ f j. read_now z (S (f.start + j)) f.circuit;
  delay = λ f. (course_of z W S f).delay;
}

-- a packet of a circuit of which a word leaves in a cycle
pub record UnderWay (z : List ℕ) (W : Ways z) (S : ℕ → View) (T circuit : ℕ) : Type 0 where
  pub flight : Opening z S
  pub index : ℕ
  pub of_circuit : flight.circuit ≡ circuit
  pub in_packet : index ≤ (flights z W S).size flight
  pub time : T ≡ flight.start + index

-- tests that all fail
pub or_none : {a b : Bool} → a ≡ false → b ≡ false → a or b ≡ false
unfolding ◌or◌
or_none {a} {b} p q = ap (λ t. t or b) p ∙ q

-- a header gives its route back
built_route : (kind address route : ℕ) → route < routes → route_of (header_word kind address route) ≡ route
built_route kind address route l = omega arith

-- the mark of the last word, counted from either end
last_mark : (left index size : ℕ) → left + index ≡ suc size → (left =? 1) ≡ (index =? size)
last_mark left index size e = go (ℕ_discrete left 1)
  where
    go : Dec (left ≡ 1) → (left =? 1) ≡ (index =? size)
    go (yes q) = yes= q ∙ sym (yes= (omega arith))
    go (no ne) = no= ne ∙ sym (no= (λ q. ne (omega arith)))

-- number 11 at two slots of equal schedules: the inputs are the same
same_input : (z : List ℕ) (W : Ways z) (schedule schedule' cycle cycle' circuit circuit' k k' j j' : ℕ) → schedule ≡ schedule'
    → Slot z schedule cycle circuit → Slot z schedule' cycle' circuit' → k < W.routers circuit → k' < W.routers circuit'
    → j < slot_length z schedule cycle circuit → j' < slot_length z schedule' cycle' circuit'
    → cycle + j + (W.course schedule cycle circuit).delay k ≡ cycle' + j' + (W.course schedule' cycle' circuit').delay k'
    → (W.course schedule cycle circuit).node k ≡ (W.course schedule' cycle' circuit').node k'
    → (W.course schedule cycle circuit).output k ≡ (W.course schedule' cycle' circuit').output k'
    → (W.course schedule cycle circuit).input k ≡ (W.course schedule' cycle' circuit').input k'
same_input z W schedule schedule' cycle cycle' circuit circuit' k k' j j' e s s' kl kl' jl jl' t n o =
    let a =
    W.rule11 schedule cycle cycle' circuit circuit' k k' j j' s (rw (← e) at s') kl kl' jl (rw (← e) at jl') (rw (← e) at t)
    (rw (← e) at n)
    (rw (← e) at o) in
    cc

module _ (z : List ℕ) (B : SheetBounds z) (W : Ways z) (S : ℕ → View) (J : Trajectory z S) where
  abbrev F : Flights
  F = flights z W S

  -- a packet's slot, and its way
  pub slot_of : (f : Opening z S) → Slot z (S f.start).schedule (S f.start).cycle f.circuit
  slot_of f = record {
    schedule_inside = (date z B S J f.start).schedule_inside;
    begins = (move_opens (slot_now z (S f.start) f.circuit) ((S f.start).sender f.circuit) f.opening).0;
  }

  pub left_of : (f : Opening z S) → 0 < ((S f.start).sender f.circuit).left
  left_of f = (move_opens (slot_now z (S f.start) f.circuit) ((S f.start).sender f.circuit) f.opening).1

  pub leads_of : (f : Opening z S)
      → Leads z (S f.start).schedule (S f.start).cycle f.circuit (W.routers f.circuit) (W.travel f.circuit)
      (course_of z W S f)
  leads_of f = W.leads (S f.start).schedule (S f.start).cycle f.circuit (slot_of f)

  -- the packets' paths are those of the sheet's grid
  pub paths : Paths z F
  paths = record {
    some_routers = λ f. omega (arith, (leads_of f).away);
    some_size = λ f. omega (arith, (leads_of f).long, left_of f);
    in_grid = λ f. (leads_of f).in_grid;
    first_input = λ f. (leads_of f).first_input;
    next_input = λ f. (leads_of f).next_input;
    next_node = λ f. (leads_of f).next_node;
    side_output = λ f. (leads_of f).side_output;
    last_output = λ f. (leads_of f).last_output;
    asked_output = λ f k l.
        (leads_of f).asked_output (head_now z (S f.start) f.circuit) k (built_route _ _ _ (leads_of f).route_fits) l;
    next_header = λ f k. header_next k (head_now z (S f.start) f.circuit);
    first_delay = λ f. (leads_of f).first_delay;
    next_delay = λ f. (leads_of f).next_delay;
  }

  -- packets of one period have one schedule
  same_schedule : (f f' : Opening z S) → (date z B S J f.start).period ≡ (date z B S J f'.start).period
      → (S f.start).schedule ≡ (S f'.start).schedule
  same_schedule f f' p =
      (date z B S J f.start).schedule_is ∙ ap (λ q. (S (begins z S q)).schedule) p ∙ sym (date z B S J f'.start).schedule_is

  -- they start in periods, as rules 10 and 11 ask
  slotted : Slotted F (begins z S) (long z S)
  slotted = record {
    next_period = begins_next z S;
    period = λ f. (date z B S J f.start).period;
    offset = λ f. (date z B S J f.start).offset;
    words = λ f. slot_now z (S f.start) f.circuit;
    starts = λ f. (date z B S J f.start).time;
    fits = λ f. omega (arith, (slot_of f).begins);
    away = λ f. (leads_of f).away;
    rule10 = λ f k e.
        let d = date z B S J f.start in
        omega (arith, (leads_of f).rule10 k e, d.cycle_is, long_is z S d.period (S f.start).schedule (sym d.schedule_is));
    rule11 = λ f f' k k' j j' p kl kl' jl jl' t n o.
        same_input z W (S f.start).schedule (S f'.start).schedule (S f.start).cycle (S f'.start).cycle f.circuit
        f'.circuit k k' j j' (same_schedule f f' p) (slot_of f) (slot_of f') kl kl' jl jl'
        (omega (arith, t, (date z B S J f.start).cycle_is, (date z B S J f'.start).cycle_is)) n o;
  }

  -- so no two of them clash
  pub no_clash : NoClash F
  no_clash = flights_apart z F paths (begins z S) (long z S) slotted

  -- a packet has left its source before the next period begins
  pub left_before : (f : Opening z S) (j p : ℕ) → j ≤ F.size f → (date z B S J f.start).period < p → f.start + j < begins z S p
  unfolding slotted
  left_before f j p jl l =
      let last : ℕ = W.routers f.circuit - 1 in
      let away = (leads_of f).away in
      omega (
        arith,
        begins_later z F paths (begins z S) (long z S) slotted (date z B S J f.start).period p l,
        slotted.rule10 f last (omega arith),
        delay_later z F paths (begins z S) (long z S) slotted f 0 last (omega arith),
        slotted.fits f,
        (date z B S J f.start).time,
      )

  -- its words fit its slot
  below_slot : (f : Opening z S) (j : ℕ) → j ≤ F.size f → j < slot_now z (S f.start) f.circuit
  below_slot f j l = omega (arith, (slot_of f).begins)

  -- one packet at a time is on a source's wire
  pub source_alone : (f f' : Opening z S) (j j' : ℕ) → j ≤ F.size f → j' ≤ F.size f' → f.start + j ≡ f'.start + j'
      → source_of z f.circuit ≡ source_of z f'.circuit → (f.start ≡ f'.start) × (f.circuit ≡ f'.circuit)
  source_alone f f' j j' jl jl' t n = go (dec_lt d.period d'.period) (dec_lt d'.period d.period)
    where
      d : Date z S f.start
      d = date z B S J f.start

      d' : Date z S f'.start
      d' = date z B S J f'.start

      go : Dec (d.period < d'.period) → Dec (d'.period < d.period) → (f.start ≡ f'.start) × (f.circuit ≡ f'.circuit)
      go (yes l) r = absurd (omega (arith, left_before f j d'.period jl l, d'.time, t))
      go (no a) (yes l) = absurd (omega (arith, left_before f' j' d.period jl' l, d.time, t))
      go (no a) (no b) =
          let p : d.period ≡ d'.period = omega (arith, a, b) in
          let begin : begins z S d.period ≡ begins z S d'.period = ap (begins z S) p in
          let e = same_schedule f f' p in
          let same =
          W.rule11_source (S f.start).schedule (S f.start).cycle (S f'.start).cycle f.circuit f'.circuit j j'
          (slot_of f) (rw (← e) at (slot_of f')) (below_slot f j jl) (rw (← e) at (below_slot f' j' jl'))
          (omega (arith, begin, t, d.time, d'.time, d.cycle_is, d'.cycle_is)) n in
          (omega (arith, begin, d.time, d'.time, d.cycle_is, d'.cycle_is, same.0), same.1)

  -- a packet whose words are still to go sends the next of them
  pub sends_on : (f : Opening z S) (j T : ℕ) → T ≡ f.start + suc j → suc j ≤ F.size f → 0 < ((S T).sender f.circuit).to_go
      → move_now z (S T) f.circuit ≡ sends
  sends_on f j T e l some = go (move_now z (S T) f.circuit) refl
    where
      go : (m : Move) → move_now z (S T) f.circuit ≡ m → move_now z (S T) f.circuit ≡ sends
      go sends q = q
      go rests q = absurd (omega (arith, move_rests (slot_now z (S T) f.circuit) ((S T).sender f.circuit) q))
      go opens q =
          let again : Opening z S =
          record { start = T; circuit = f.circuit; circuit_inside = f.circuit_inside; opening = q } in
          absurd (omega (arith, (source_alone f again (suc j) 0 l (omega arith) (omega arith) refl).0))

  -- in each cycle of a packet so many of its words are still to go
  pub to_go_is : (f : Opening z S) (j T : ℕ) → T ≡ f.start + suc j → suc j ≤ F.size f
      → ((S T).sender f.circuit).to_go + j ≡ F.size f
  to_go_is f j zero e l = absurd (omega arith)
  to_go_is f zero (suc T) e l =
      let start : T ≡ f.start = omega arith in
      let size : min (slot_now z (S T) f.circuit - 1) ((S T).sender f.circuit).left ≡ F.size f =
      ap (λ t. min (slot_now z (S t) f.circuit - 1) ((S t).sender f.circuit).left) start in
      omega (arith, size, to_go_next z S J T f.circuit opens f.circuit_inside (rw start f.opening))
  to_go_is f (suc j) (suc T) e l =
      let before = to_go_is f j T (omega arith) (omega arith) in
      omega (
        arith,
        before,
        to_go_next z S J T f.circuit sends f.circuit_inside (sends_on f j T (omega arith) (omega arith) (omega arith)),
      )

  -- its circuit sends its words, cycle by cycle
  pub sent_word : (f : Opening z S) (j T : ℕ) → T ≡ f.start + j → j ≤ F.size f → sent_now z (S T) f.circuit ≡ word_at F f 0 j
  sent_word f zero T e l =
      let start : T ≡ f.start = omega arith in
      let v : View = S f.start in
      rw start
      (ap (λ m. sent_cell m (head_now z v f.circuit) (read_now z v f.circuit) (v.sender f.circuit)) f.opening
      ∙ ap header (sym (header_first (head_now z v f.circuit))))
  sent_word f (suc j) T e l =
      let left = to_go_is f j T e l in
      let m : move_now z (S T) f.circuit ≡ sends = sends_on f j T e l (omega arith) in
      ap (λ x. sent_cell x (head_now z (S T) f.circuit) (read_now z (S T) f.circuit) ((S T).sender f.circuit)) m
      ∙ ap (payload (read_now z (S T) f.circuit))
      (last_mark ((S T).sender f.circuit).to_go (suc j) (F.size f) (omega arith))
      ∙ ap (λ t. payload (read_now z (S t) f.circuit) (suc j =? F.size f)) e

  -- a cycle later, words still to go are those of a packet
  under_next : (T circuit : ℕ) → circuit < circuits z → (m : Move) → move_now z (S T) circuit ≡ m
      → (0 < ((S T).sender circuit).to_go → (u : UnderWay z W S T circuit) × (0 < u.index)) → 0 < ((S (suc T)).sender circuit).to_go
      → (u : UnderWay z W S (suc T) circuit) × (0 < u.index)
  under_next T circuit l rests q before some =
      absurd (omega (arith, to_go_next z S J T circuit rests l q, move_rests (slot_now z (S T) circuit) ((S T).sender circuit) q))
  under_next T circuit l opens q before some =
      let f : Opening z S = record { start = T; circuit = circuit; circuit_inside = l; opening = q } in
      (record { flight = f; index = 1; of_circuit = refl; in_packet = paths.some_size f; time = omega arith }, omega arith)
  under_next T circuit l sends q before some =
      let x = before (move_sends (slot_now z (S T) circuit) ((S T).sender circuit) q) in
      let u = x.0 in
      let later : 0 < u.index = x.1 in
      let same : ((S T).sender u.flight.circuit).to_go ≡ ((S T).sender circuit).to_go =
      ap (λ c. ((S T).sender c).to_go) u.of_circuit in
      let left = to_go_is u.flight (u.index - 1) T (omega (arith, u.time)) (omega (arith, u.in_packet)) in (
        record {
          flight = u.flight;
          index = suc u.index;
          of_circuit = u.of_circuit;
          in_packet = omega (arith, same, left, to_go_next z S J T circuit sends l q);
          time = omega (arith, u.time);
        },
        omega arith,
      )

  -- words still to go are those of a packet
  pub under_way_is : (T circuit : ℕ) → circuit < circuits z → 0 < ((S T).sender circuit).to_go
      → (u : UnderWay z W S T circuit) × (0 < u.index)
  under_way_is zero circuit l some = absurd (omega (arith, J.none_to_go circuit l))
  under_way_is (suc T) circuit l some = under_next T circuit l (move_now z (S T) circuit) refl (under_way_is T circuit l) some

  -- and so is what a circuit sends
  pub sent_by : (T circuit : ℕ) → circuit < circuits z → is_full (sent_now z (S T) circuit) ≡ true → UnderWay z W S T circuit
  sent_by T circuit l full = go (move_now z (S T) circuit) refl full
    where
      go : (m : Move) → move_now z (S T) circuit ≡ m
          → is_full (sent_cell m (head_now z (S T) circuit) (read_now z (S T) circuit) ((S T).sender circuit)) ≡ true
          → UnderWay z W S T circuit
      go rests q x = absurd (false≢true x)
      go opens q x = record {
        flight = record { start = T; circuit = circuit; circuit_inside = l; opening = q };
        index = 0;
        of_circuit = refl;
        in_packet = omega arith;
        time = omega arith;
      }
      go sends q x = (under_way_is T circuit l (move_sends (slot_now z (S T) circuit) ((S T).sender circuit) q)).0

  -- two circuits of one source do not send in one cycle
  pub one_sends : (T circuit circuit' : ℕ) → circuit < circuits z → circuit' < circuits z → source_of z circuit ≡ source_of z circuit'
      → is_full (sent_now z (S T) circuit) ≡ true → is_full (sent_now z (S T) circuit') ≡ true → circuit ≡ circuit'
  one_sends T circuit circuit' l l' n full full' =
      let u = sent_by T circuit l full in
      let u' = sent_by T circuit' l' full' in
      sym u.of_circuit
      ∙ (source_alone u.flight u'.flight u.index u'.index u.in_packet u'.in_packet
      (omega (arith, u.time, u'.time))
      (ap (source_of z) u.of_circuit ∙ n ∙ sym (ap (source_of z) u'.of_circuit))).1
      ∙ u'.of_circuit

  -- in each cycle the sources put the packets' words on their wires, and no others
  pub emits : (T : ℕ) → Emits z F T (source_wire z (S T))
  unfolding source_wire
  emits T = record { source_word_is = source_word_is; source_only = source_only }
    where
      own : ℕ → ℕ → Cell
      own node circuit = pick (source_of z circuit =? node) (sent_now z (S T) circuit) empty

      mine : (f : Opening z S) (j : ℕ) → j ≤ F.size f → T ≡ f.start + j → own (F.node f 0) f.circuit ≡ word_at F f 0 j
      mine f j l e = rw (yes= (sym (leads_of f).first_node)) (sent_word f j T e l)

      other : (f : Opening z S) (j circuit : ℕ) → j ≤ F.size f → T ≡ f.start + j → circuit < circuits z
          → is_full (own (F.node f 0) circuit) ≡ true → circuit ≡ f.circuit
      other f j circuit l e c full =
          let at = is= _ _ (pick_passes (source_of z circuit =? F.node f 0) (sent_now z (S T) circuit) full) in
          let u = sent_by T circuit c (pick_full (source_of z circuit =? F.node f 0) (sent_now z (S T) circuit) full) in
          sym u.of_circuit
          ∙ (source_alone u.flight f u.index j u.in_packet l (omega (arith, u.time))
          (ap (source_of z) u.of_circuit ∙ at ∙ (leads_of f).first_node)).1

      source_word_is : (f : Opening z S) (j : ℕ) → j ≤ F.size f → T ≡ f.start + j
          → gather (circuits z) (own (F.node f 0)) ≡ word_at F f 0 j
      source_word_is f j l e =
          gather_one (circuits z) (own (F.node f 0)) f.circuit f.circuit_inside
          (λ circuit c ne. not_full (own (F.node f 0) circuit) (λ full. ne (other f j circuit l e c full)))
          ∙ mine f j l e

      source_only : (node : ℕ) → node < nodes z → is_full (gather (circuits z) (own node)) ≡ true → Leaves F T node
      source_only node n full =
          let at = gather_full (circuits z) (own node) full in
          let passes = pick_passes (source_of z at.place =? node) (sent_now z (S T) at.place) at.full in
          let sent = pick_full (source_of z at.place =? node) (sent_now z (S T) at.place) at.full in
          let u = sent_by T at.place at.below sent in
          record {
            flight = u.flight;
            index = u.index;
            in_packet = u.in_packet;
            time = u.time;
            at_node = (leads_of u.flight).first_node ∙ ap (source_of z) u.of_circuit ∙ is= _ _ passes;
          }

  runs : Runs z (λ T. source_wire z (S T)) (λ T. (S T).routers)
  runs = record { first = J.no_words; next = λ T. (J.between T).routers }

  -- before each cycle the routers hold the packets' words, and no others
  pub holds : (T : ℕ) → Holds z F T (S T).routers
  holds = run_holds z B.ranged.framed.headed F paths no_clash (λ T. source_wire z (S T)) emits (λ T. (S T).routers) runs

  -- no two circuits put a word on one source's wire
  pub none_crowds : (T node : ℕ) → crowds z (S T) node ≡ false
  unfolding crowds
  none_crowds T node =
      let one = count_of_one (circuits z) (λ circuit. source_of z circuit =? node and is_full (sent_now z (S T) circuit)) same in
      no≤ (omega (arith, one))
    where
      same : (circuit circuit' : ℕ) → circuit < circuits z → circuit' < circuits z
          → (source_of z circuit =? node and is_full (sent_now z (S T) circuit)) ≡ true
          → (source_of z circuit' =? node and is_full (sent_now z (S T) circuit')) ≡ true → circuit ≡ circuit'
      same circuit circuit' l l' e e' =
          one_sends T circuit circuit' l l' (is= _ _ (and_left _ _ e) ∙ sym (is= _ _ (and_left _ _ e'))) (and_right _ _ e)
          (and_right _ _ e')

  -- no circuit opens a packet while it still sends another
  pub none_reopens : (T circuit : ℕ) → circuit < circuits z → reopens z (S T) circuit ≡ false
  unfolding reopens
  none_reopens T circuit l = go (reopens z (S T) circuit) refl
    where
      go : (b : Bool) → reopens z (S T) circuit ≡ b → b ≡ false
      go false e = refl
      go true e =
          let slot = is≤ _ _ (and_left _ _ e) in
          let rest = and_right _ _ e in
          let left = is≤ _ _ (and_left _ _ rest) in
          let to_go_at = is≤ _ _ (and_right _ _ rest) in
          let again : Opening z S = record { start = T; circuit = circuit; circuit_inside = l; opening = opens_both (slot_now z (S T) circuit) ((S T).sender circuit) slot left } in
          let x = under_way_is T circuit l to_go_at in
          let u = x.0 in
          let same =
          source_alone u.flight again u.index 0 u.in_packet (omega arith) (omega (arith, u.time))
          (ap (source_of z) u.of_circuit) in
          absurd (omega (arith, x.1, u.time, same.0))

  -- so a cycle has no fault, unless a word strays at a memory
  pub only_strays : (T : ℕ) → ((node : ℕ) → node < nodes z → strays z (S T) node ≡ false) → faulty z (S T) ≡ false
  unfolding faulty
  only_strays T landings =
      or_none
      (any_none (nodes z) _ (λ node n.
      or_none (any_none ports _ (λ output o. none_collides z F T (S T) (holds T) no_clash node output n))
      (or_none (any_none ports _ (λ input i. none_headless z F T (S T) (holds T) node input n i))
      (or_none (none_crowds T node) (landings node n)))))
      (any_none (circuits z) _ (λ circuit c. none_reopens T circuit c))

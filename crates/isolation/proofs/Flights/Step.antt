-- One cycle moves every flight's words and nothing else; and it has no fault in the routers.
-- Assumes nothing.
use Prim.Native.Nat.{ℕ, zero, suc, ◌+◌, ◌<◌}
use mathlib.Core.Bool.{Bool, true, false, false≢true}
use mathlib.Core.List.{List}
use mathlib.Core.Path.{◌≡◌, refl, sym, ◌∙◌, ap, ap₂}
use native.Mathlib.Decide.{ℕ_discrete}
use native.Mathlib.Omega.{arith}
use Rattle.words.specs.Words.{pick}
use Rattle.words.proofs.TestLaws.{yes=, no=, is=}
use Rattle.torus.specs.Torus.{neighbour_of, opposite_of}
use Rattle.torus.specs.Route.{router_cycles, link_cycles}
use Rattle.sheet.specs.Sheet.{columns, rows, is_long, nodes}
use Rattle.sheet.specs.Inner.Passed.{Headed}
use Rattle.network.specs.View.{Cell, empty, header, to_output, source_input, memory_output, Routers, ports}
use Rattle.network.specs.Cycle.{advance, goes_to, asks, has_extra, link_end, step_routers, is_full, is_payload, is_none}
use Rattle.isolation.proofs.Flights.CellLaws.{not_full, payload_full, advance_full, pick_passes, pick_full, gather_one, gather_full}
use Rattle.torus.proofs.NeighbourLaws.{opposite_side, opposite_back}
use Rattle.torus.proofs.TravelLaws.{hop_is}
use Rattle.network.proofs.ExtraLaws.{link_with, link_without}
use Rattle.isolation.proofs.Routes.GridLaws.{neighbour_in, neighbour_back}
use Rattle.isolation.proofs.Flights.Flight.{Flights, word_at, Paths, link_stage, head_stage, out_stage, extra_stage, InStage, Found, Holds, Leaves, Emits, NoClash}

-- a cycle later a word is in the next stage
next_stage : (F : Flights) (T stage : ℕ) (f : F.Id) (k j : ℕ) → InStage F T stage f k j → InStage F (suc T) (suc stage) f k j
next_stage F T stage f k j s = record { on_way = s.on_way; in_packet = s.in_packet; time = omega arith }

-- and a cycle before it was in the stage before
last_stage : (F : Flights) (T stage : ℕ) (f : F.Id) (k j : ℕ) → InStage F (suc T) (suc stage) f k j → InStage F T stage f k j
last_stage F T stage f k j s = record { on_way = s.on_way; in_packet = s.in_packet; time = omega arith }

-- where a word is in the link stage, the word before it is in the header stage
word_before : (F : Flights) (T : ℕ) (f : F.Id) (k j : ℕ) → InStage F T link_stage f k (suc j) → InStage F T head_stage f k j
word_before F T f k j s = record { on_way = s.on_way; in_packet = omega arith; time = omega arith }

-- every word of a flight fills its cell
pub word_full : (F : Flights) (f : F.Id) (k j : ℕ) → is_full (word_at F f k j) ≡ true
word_full F f k zero = refl
word_full F f k (suc j) = refl

module _ (z : List ℕ) (F : Flights) (P : Paths z F) where
  -- a flight's inputs and outputs are those of a router
  pub input_port : (f : F.Id) (k : ℕ) → k < F.routers f → F.input f k < ports
  input_port f zero l = omega (arith, P.first_input f)
  input_port f (suc k) l = omega (arith, P.next_input f k l, opposite_side (F.output f k))

  pub output_port : (f : F.Id) (k : ℕ) → k < F.routers f → F.output f k < ports
  output_port f k l = go (ℕ_discrete (suc k) (F.routers f))
    where
      go : Dec (suc k ≡ F.routers f) → F.output f k < ports
      go (yes e) = omega (arith, P.last_output f k e)
      go (no ne) = omega (arith, P.side_output f k (omega (arith, ne)))

  -- a word that leaves by a side has a further router, and one that leaves to the memory has none
  pub goes_on : (f : F.Id) (k : ℕ) → k < F.routers f → F.output f k < 4 → suc k < F.routers f
  goes_on f k l side = go (ℕ_discrete (suc k) (F.routers f))
    where
      go : Dec (suc k ≡ F.routers f) → suc k < F.routers f
      go (yes e) = omega (arith, P.last_output f k e)
      go (no ne) = omega (arith, ne)

  pub ends_here : (f : F.Id) (k : ℕ) → k < F.routers f → F.output f k ≡ memory_output → suc k ≡ F.routers f
  ends_here f k l memory = go (ℕ_discrete (suc k) (F.routers f))
    where
      go : Dec (suc k ≡ F.routers f) → suc k ≡ F.routers f
      go (yes e) = e
      go (no ne) = absurd (omega (arith, P.side_output f k (omega (arith, ne))))

  -- the header stage makes of a word what the next router takes in
  advance_word : (f : F.Id) (k j : ℕ) → advance (word_at F f k j) ≡ word_at F f (suc k) j
  advance_word f k zero = ap header (sym (P.next_header f k))
  advance_word f k (suc j) = refl

module _ (z : List ℕ) (F : Flights) (T : ℕ) (r : Routers) (h : Holds z F T r) where
  -- the choice beside a word in the header stage is its flight's output
  chosen_at : (node input : ℕ) (w : Found F T head_stage F.input node input)
      → r.choice node input ≡ to_output (F.output w.flight w.router)
  chosen_at node input w =
      sym (ap₂ r.choice w.at_node w.at_port) ∙ h.head_choice w.flight w.router w.index w.in_stage

  -- an input that asks for an output has a word there that goes to that output
  asked : (node output input : ℕ) → node < nodes z → input < ports → is_full (asks r node output input) ≡ true
      → (w : Found F T head_stage F.input node input) × (F.output w.flight w.router ≡ output)
  unfolding asks
  asked node output input n i e =
      let w = h.head_only node input n i (pick_full (goes_to (r.choice node input) output) (r.head node input) e) in
      let passes = pick_passes (goes_to (r.choice node input) output) (r.head node input) e in
      (w, is= (F.output w.flight w.router) output (ap (λ c. goes_to c output) (sym (chosen_at node input w)) ∙ passes))

  -- no two inputs ask for one output
  pub one_asks : NoClash F → (node output input input' : ℕ) → node < nodes z → input < ports → input' < ports
      → is_full (asks r node output input) ≡ true → is_full (asks r node output input') ≡ true → input ≡ input'
  one_asks clash node output input input' n i i' e e' =
      let a = asked node output input n i e in
      let b = asked node output input' n i' e' in
      let v = a.0 in
      let w = b.0 in
      let v-out = next_stage F T head_stage v.flight v.router v.index v.in_stage in
      let w-out = next_stage F T head_stage w.flight w.router w.index w.in_stage in
      sym v.at_port
      ∙ clash (suc T) v.flight w.flight v.router w.router v.index w.index v-out w-out
      (v.at_node ∙ sym w.at_node) (a.1 ∙ sym b.1)
      ∙ w.at_port

  -- a payload word that comes to the header stage finds its packet's output in the latch
  pub payload_latch : (node input : ℕ) → node < nodes z → input < ports → is_payload (r.link node input) ≡ true
      → is_none (r.latch node input) ≡ false
  payload_latch node input n i e =
      let w = h.link_only node input n i (payload_full (r.link node input) e) in
      let there : r.link node input ≡ word_at F w.flight w.router w.index =
      cc (h.link_word_is w.flight w.router w.index w.in_stage) in
      go w w.index refl (rw there at e)
    where
      go : (w : Found F T link_stage F.input node input) (j : ℕ) → w.index ≡ j
          → is_payload (word_at F w.flight w.router j) ≡ true → is_none (r.latch node input) ≡ false
      go w zero q p = absurd (false≢true p)
      go w (suc j) q p =
          let before = word_before F T w.flight w.router j (rw q at w.in_stage) in
          let held : r.latch node input ≡ to_output (F.output w.flight w.router) =
          sym (ap₂ r.latch w.at_node w.at_port) ∙ h.head_latch w.flight w.router j before (omega arith) in
          ap is_none held

  -- and one that has left it has its packet's output beside it
  pub payload_choice : (node input : ℕ) → node < nodes z → input < ports → is_payload (r.head node input) ≡ true
      → is_none (r.choice node input) ≡ false
  payload_choice node input n i e =
      ap is_none (chosen_at node input (h.head_only node input n i (payload_full (r.head node input) e)))

module _ (z : List ℕ) (H : Headed z) (F : Flights) (P : Paths z F) (clash : NoClash F) (T : ℕ) (wire : ℕ → Cell)
    (e : Emits z F T wire) (r : Routers) (h : Holds z F T r) where
  -- the link registers take in the sources' words and what the neighbours' outputs hold
  link_next : (f : F.Id) (k j : ℕ) → InStage F (suc T) link_stage f k j
      → (step_routers z wire r).link (F.node f k) (F.input f k) ≡ word_at F f k j
  unfolding step_routers link_end
  link_next f zero j s =
      rw (yes= (P.first_input f)) (e.source_word_is f j s.in_packet (omega (arith, P.first_delay f)))
  link_next f (suc k) j s =
      let side : F.output f k < 4 = P.side_output f k s.on_way in
      let other : opposite_of (F.output f k) ≡ source_input → ⊥ = λ q. omega (arith, q, opposite_side (F.output f k)) in
      rw (
        P.next_input f k s.on_way,
        P.next_node f k s.on_way,
        no= other,
        neighbour_back z H (F.node f k) (P.in_grid f k (omega arith)) (F.output f k) side,
        opposite_back (F.output f k) side,
      )
      (from_link (has_extra z (F.output f k)) refl)
    where
      -- the word was in the extra register of the link, or on the output where the link has none
      was_in : (stage : ℕ) → stage ≡ router_cycles + link_cycles (is_long z) (F.output f k) → InStage F T stage f k j
      was_in stage e = record {
        on_way = omega (arith, s.on_way);
        in_packet = s.in_packet;
        time = omega (arith, s.time, P.next_delay f k, hop_is (is_long z) (F.output f k));
      }

      from_link : (b : Bool) → has_extra z (F.output f k) ≡ b
          → pick b (r.extra (F.node f k) (F.output f k)) (r.out (F.node f k) (F.output f k)) ≡ word_at F f (suc k) j
      from_link true q = h.extra_word_at f k j (was_in extra_stage (omega (arith, link_with z (F.output f k) q))) q
      from_link false q = h.out_word_is f k j (was_in out_stage (omega (arith, link_without z (F.output f k) q)))

  link_next_only : (node input : ℕ) → node < nodes z → input < ports → is_full ((step_routers z wire r).link node input) ≡ true
      → Found F (suc T) link_stage F.input node input
  unfolding step_routers link_end
  link_next_only node input n i full = go (ℕ_discrete input source_input)
    where
      from_source_is : input ≡ source_input → Leaves F T node → Found F (suc T) link_stage F.input node input
      from_source_is q l = record {
        flight = l.flight;
        router = 0;
        index = l.index;
        in_stage = record {
          on_way = P.some_routers l.flight;
          in_packet = l.in_packet;
          time = omega (arith, P.first_delay l.flight);
        };
        at_node = l.at_node;
        at_port = P.first_input l.flight ∙ sym q;
      }

      from_side : input < 4 → (stage : ℕ) → stage ≡ router_cycles + link_cycles (is_long z) (opposite_of input)
          → Found F T stage F.output (neighbour_of (columns z) (rows z) node input) (opposite_of input)
          → Found F (suc T) link_stage F.input node input
      from_side side stage at_end_is w =
          let on : suc w.router < F.routers w.flight =
          goes_on z F P w.flight w.router w.in_stage.on_way (omega (arith, w.at_port, opposite_side input)) in
          record {
            flight = w.flight;
            router = suc w.router;
            index = w.index;
            in_stage = record {
              on_way = on;
              in_packet = w.in_stage.in_packet;
              time =
                  omega (
                    arith,
                    w.in_stage.time,
                    at_end_is,
                    P.next_delay w.flight w.router,
                    hop_is (is_long z) (F.output w.flight w.router),
                    ap (link_cycles (is_long z)) w.at_port,
                  );
            };
            at_node = cc (P.next_node w.flight w.router on, neighbour_back z H node n input side);
            at_port = cc (P.next_input w.flight w.router on, opposite_back input side);
          }

      go : Dec (input ≡ source_input) → Found F (suc T) link_stage F.input node input
      go (yes q) = from_source_is q (e.source_only node n (rw (yes= q) at full))
      go (no ne) = from_link (has_extra z (opposite_of input)) refl (rw (no= ne) at full)
        where
          side : input < 4
          side = omega (arith, ne)

          from : ℕ
          from = neighbour_of (columns z) (rows z) node input

          port : opposite_of input < ports
          port = omega (arith, opposite_side input)

          from_link : (b : Bool) → has_extra z (opposite_of input) ≡ b
              → is_full (pick b (r.extra from (opposite_of input)) (r.out from (opposite_of input))) ≡ true
              → Found F (suc T) link_stage F.input node input
          from_link true q there =
              from_side side extra_stage (omega (arith, link_with z (opposite_of input) q))
              (h.extra_only from (opposite_of input) (neighbour_in z H node n input) port q there)
          from_link false q there =
              from_side side out_stage (omega (arith, link_without z (opposite_of input) q))
              (h.out_only from (opposite_of input) (neighbour_in z H node n input) port there)

  -- the header stage passes the words on, chooses their outputs and keeps the choice until the last word
  head_next : (f : F.Id) (k j : ℕ) → InStage F (suc T) head_stage f k j
      → (step_routers z wire r).head (F.node f k) (F.input f k) ≡ word_at F f (suc k) j
  unfolding step_routers
  head_next f k j s = rw (h.link_word_is f k j (last_stage F T link_stage f k j s)) (advance_word z F P f k j)

  choice_next : (f : F.Id) (k j : ℕ) → InStage F (suc T) head_stage f k j
      → (step_routers z wire r).choice (F.node f k) (F.input f k) ≡ to_output (F.output f k)
  unfolding step_routers
  choice_next f k zero s =
      rw (h.link_word_is f k zero (last_stage F T link_stage f k zero s)) (ap to_output (P.asked_output f k s.on_way))
  choice_next f k (suc j) s =
      let before = last_stage F T link_stage f k (suc j) s in
      rw (h.link_word_is f k (suc j) before) (h.head_latch f k j (word_before F T f k j before) (omega arith))

  latch_next : (f : F.Id) (k j : ℕ) → InStage F (suc T) head_stage f k j → j < F.size f
      → (step_routers z wire r).latch (F.node f k) (F.input f k) ≡ to_output (F.output f k)
  unfolding step_routers
  latch_next f k zero s more =
      rw (h.link_word_is f k zero (last_stage F T link_stage f k zero s)) (ap to_output (P.asked_output f k s.on_way))
  latch_next f k (suc j) s more =
      let before = last_stage F T link_stage f k (suc j) s in
      let not_last : suc j ≡ F.size f → ⊥ = λ q. omega arith in
      rw (h.link_word_is f k (suc j) before, no= not_last)
      (h.head_latch f k j (word_before F T f k j before) (omega arith))

  head_next_only : (node input : ℕ) → node < nodes z → input < ports → is_full ((step_routers z wire r).head node input) ≡ true
      → Found F (suc T) head_stage F.input node input
  unfolding step_routers
  head_next_only node input n i full =
      let w = h.link_only node input n i (advance_full (r.link node input) full) in
      record {
        flight = w.flight;
        router = w.router;
        index = w.index;
        in_stage = next_stage F T link_stage w.flight w.router w.index w.in_stage;
        at_node = w.at_node;
        at_port = w.at_port;
      }

  -- the crossbar puts each word on its output, since no other word asks for that
  out_next : (f : F.Id) (k j : ℕ) → InStage F (suc T) out_stage f k j
      → (step_routers z wire r).out (F.node f k) (F.output f k) ≡ word_at F f (suc k) j
  unfolding step_routers asks
  out_next f k j s = gather_one ports (asks r (F.node f k) (F.output f k)) (F.input f k) port others ∙ mine
    where
      port : F.input f k < ports
      port = input_port z F P f k s.on_way

      before : InStage F T head_stage f k j
      before = last_stage F T head_stage f k j s

      mine : asks r (F.node f k) (F.output f k) (F.input f k) ≡ word_at F f (suc k) j
      mine = rw (h.head_choice f k j before, yes= {a = F.output f k} refl) (h.head_word_is f k j before)

      full : is_full (asks r (F.node f k) (F.output f k) (F.input f k)) ≡ true
      full = rw mine (word_full F f (suc k) j)

      others : (m : ℕ) → m < ports → (m ≡ F.input f k → ⊥) → asks r (F.node f k) (F.output f k) m ≡ empty
      others m l ne =
          not_full (asks r (F.node f k) (F.output f k) m)
          (λ q. ne
          (one_asks z F T r h clash (F.node f k) (F.output f k) m (F.input f k) (P.in_grid f k s.on_way) l port q full))

  out_next_only : (node output : ℕ) → node < nodes z → output < ports → is_full ((step_routers z wire r).out node output) ≡ true
      → Found F (suc T) out_stage F.output node output
  unfolding step_routers
  out_next_only node output n o full =
      let at = gather_full ports (asks r node output) full in
      let a = asked z F T r h node output at.place n at.below at.full in
      let w = a.0 in
      record {
        flight = w.flight;
        router = w.router;
        index = w.index;
        in_stage = next_stage F T head_stage w.flight w.router w.index w.in_stage;
        at_node = w.at_node;
        at_port = a.1;
      }

  -- the extra registers take what is on their outputs
  extra_next : (f : F.Id) (k j : ℕ) → InStage F (suc T) extra_stage f k j → has_extra z (F.output f k) ≡ true
      → (step_routers z wire r).extra (F.node f k) (F.output f k) ≡ word_at F f (suc k) j
  unfolding step_routers
  extra_next f k j s has = rw has (h.out_word_is f k j (last_stage F T out_stage f k j s))

  extra_next_only : (node output : ℕ) → node < nodes z → output < ports → has_extra z output ≡ true
      → is_full ((step_routers z wire r).extra node output) ≡ true → Found F (suc T) extra_stage F.output node output
  unfolding step_routers
  extra_next_only node output n o has full =
      let w = h.out_only node output n o (rw has at full) in
      record {
        flight = w.flight;
        router = w.router;
        index = w.index;
        in_stage = next_stage F T out_stage w.flight w.router w.index w.in_stage;
        at_node = w.at_node;
        at_port = w.at_port;
      }

  -- a cycle moves every flight's words, and nothing else
  pub step_holds : Holds z F (suc T) (step_routers z wire r)
  step_holds = record {
    link_word_is = link_next;
    head_word_is = head_next;
    head_choice = choice_next;
    head_latch = latch_next;
    out_word_is = out_next;
    extra_word_at = extra_next;
    link_only = link_next_only;
    head_only = head_next_only;
    out_only = out_next_only;
    extra_only = extra_next_only;
  }

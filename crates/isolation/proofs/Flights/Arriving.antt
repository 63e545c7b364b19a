-- A receive unit says that a packet is arriving only while words of one are still to land there: the converse of `receiving`.
-- Assumes nothing.
use Prim.Native.Nat.{ℕ, zero, suc, ◌+◌, ◌<◌}
use mathlib.Core.Bool.{Bool, true, false, false≢true}
use mathlib.Core.List.{List}
use mathlib.Core.Path.{◌≡◌, refl, sym, ◌∙◌, ap}
use native.Mathlib.Omega.{arith}
use Rattle.words.specs.Words.{pick}
use Rattle.words.proofs.TestLaws.{yes=}
use Rattle.sheet.specs.Sheet.{nodes}
use Rattle.sheet.specs.Slots.{destination_of}
use Rattle.network.specs.View.{Cell, empty, header, payload, Receiver, memory_output, View}
use Rattle.network.specs.Cycle.{is_full, is_payload}
use Rattle.soundness.proofs.SheetLaws.{SheetBounds}
use Rattle.isolation.proofs.Flights.Flight.{Flights, word_at}
use Rattle.isolation.proofs.Flights.Run.{lands_only}
use Rattle.isolation.proofs.Flights.Bound.{word_header}
use Rattle.isolation.proofs.Routes.Ways.{Ways}
use Rattle.isolation.proofs.Flights.Trajectory.{Trajectory}
use Rattle.isolation.proofs.Flights.Send.{flights, leads_of, paths, holds}
use Rattle.isolation.proofs.Flights.Deliver.{Lands, memory_word, receiver_next, lands_at_is}

-- a cell's mark of the last word
abbrev is_last : Cell → Bool
is_last empty = false
is_last (header word) = false
is_last (payload word last) = last

-- the packet goes on arriving behind a payload word that is not its last
goes_on : (last arriving : Bool) → pick last false arriving ≡ true → last ≡ false
goes_on true arriving e = absurd (false≢true e)
goes_on false arriving e = refl

module _ (z : List ℕ) (B : SheetBounds z) (W : Ways z) (S : ℕ → View) (J : Trajectory z S) where
  abbrev F : Flights
  F = flights z W S

  -- after a header has come to the memory output, its packet's first word is to land
  header_lands : (T node word : ℕ) → node < nodes z → (S T).routers.out node memory_output ≡ header word → Lands z W S (suc T) node
  header_lands T node word n e =
      let found = lands_only z F (paths z B W S J) T (S T).routers (holds z B W S J T) node n (ap is_full e) in
      let w = found.0 in
      let f = w.flight in
      let leads = leads_of z B W S J f in
      let here : destination_of z f.circuit ≡ node = sym (leads.last_node w.router found.1) ∙ w.at_node in
      let time : T ≡ f.start + w.index + W.travel f.circuit =
      omega (arith, w.in_stage.time, leads.last_delay_at w.router found.1) in
      let cell : word_at F f (W.routers f.circuit) w.index ≡ header word =
      sym (memory_word z B W S J f w.index T time w.in_stage.in_packet)
      ∙ ap (λ i. (S T).routers.out i memory_output) here ∙ e in
      let is-first = (word_header z F (paths z B W S J) f (W.routers f.circuit) w.index word cell).0 in
      record { flight = f; index = 0; in_packet = (paths z B W S J).some_size f; time = omega arith; at_node = here }

  -- after a payload word that is not its packet's last, the next is
  payload_lands : (T node word : ℕ) → node < nodes z → (S T).routers.out node memory_output ≡ payload word false → Lands z W S (suc T) node
  payload_lands T node word n e =
      let w = lands_at_is z B W S J T node n (ap is_payload e) in
      let f = w.flight in
      let cell : word_at F f (W.routers f.circuit) (suc w.index) ≡ payload word false =
      sym (memory_word z B W S J f (suc w.index) T w.time w.in_packet)
      ∙ ap (λ i. (S T).routers.out i memory_output) w.at_node ∙ e in
      let more : suc w.index ≡ F.size f → ⊥ = λ q. false≢true (sym (ap is_last cell) ∙ yes= q) in
      record {
        flight = f;
        index = suc w.index;
        in_packet = omega (arith, w.in_packet, more);
        time = omega (arith, w.time);
        at_node = w.at_node;
      }

  -- with nothing at the memory output no word was to land
  empty_lands : (T node : ℕ) → (S T).routers.out node memory_output ≡ empty → Lands z W S T node → ⊥
  empty_lands T node e w =
      let f = w.flight in
      false≢true
      (sym (ap (λ i. is_full ((S T).routers.out i memory_output)) w.at_node ∙ ap is_full e)
      ∙ ap is_full (memory_word z B W S J f (suc w.index) T w.time w.in_packet))

  arriving_next : (T node : ℕ) → node < nodes z → (((S T).receiver node).arriving ≡ true → Lands z W S T node)
      → ((S (suc T)).receiver node).arriving ≡ true → Lands z W S (suc T) node
  arriving_next T node n before e = go ((S T).routers.out node memory_output) refl
    where
      go : (c : Cell) → (S T).routers.out node memory_output ≡ c → Lands z W S (suc T) node
      go empty q =
          let same = ap (λ (r : Receiver). r.arriving) (receiver_next z B W S J T node empty n q) in
          absurd (empty_lands T node q (before (sym same ∙ e)))
      go (header word) q = header_lands T node word n q
      go (payload word last) q =
          let next = ap (λ (r : Receiver). r.arriving) (receiver_next z B W S J T node (payload word last) n q) in
          let more : last ≡ false = goes_on last ((S T).receiver node).arriving (sym next ∙ e) in
          payload_lands T node word n (q ∙ ap (payload word) more)

  -- where a receive unit says that a packet is arriving, a word of one lands there next
  pub arriving_lands : (T node : ℕ) → node < nodes z → ((S T).receiver node).arriving ≡ true → Lands z W S T node
  arriving_lands zero node n e = absurd (false≢true (sym (J.none_arriving node n) ∙ e))
  arriving_lands (suc T) node n e = arriving_next T node n (arriving_lands T node n) e

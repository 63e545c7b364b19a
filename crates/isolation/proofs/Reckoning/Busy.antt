-- A circuit is busy by a session's words exactly where it is by the reckoning: words are left or inbound where they are owed or under way.
-- Assumes nothing.
use Prim.Native.Nat.{ℕ, ◌+◌, ◌-◌, ◌*◌, ◌≤◌, ◌<◌}
use mathlib.Core.Bool.{Bool, true, false, false≢true}
use mathlib.Core.List.{List, []}
use mathlib.Core.Path.{◌≡◌, refl, sym, ◌∙◌, ap, subst}
use native.Mathlib.Omega.{arith}
use native.Mathlib.Decide.{dec_lt}
use native.Mathlib.Nat.{add-zero}
use Rattle.words.specs.Tests.{any, ◌or◌, ◌≤?◌}
use Rattle.words.proofs.TestLaws.{or_yes, or_skip, yes≤}
use Rattle.words.proofs.AllLaws.{any_none}
use Rattle.sheet.specs.Sheet.{circuits, nodes, circuit_at}
use Rattle.sheet.specs.Flight.{flight_cycles}
use Rattle.sheet.specs.Rules.{verdict}
use Rattle.network.specs.View.{View, Landing, nothing, landed, ports}
use Rattle.network.specs.Cycle.{slot_now, move_now, read_now}
use Rattle.network.specs.Seen.{view}
use Rattle.network.specs.Inbound.{header_inbound, is_arriving, is_inbound}
use Rattle.soundness.proofs.SheetLaws.{sheet_bounds}
use Rattle.session.specs.Calls.{Lent, Call, start, number, does, is_busy}
use Rattle.isolation.specs.Calendar.{Calendar}
use Rattle.isolation.specs.Reckoning.{Reckoned, owed, flight_cycles}
use Rattle.isolation.specs.Demand.{is_item, under_way, reckoned_busy}
use Rattle.isolation.proofs.Routes.SheetWays.{ways_of, travel_is}
use Rattle.isolation.proofs.Flights.Flight.{Flights, Holds}
use Rattle.isolation.proofs.Flights.Run.{SameRouters, same_back, same_then, same_holds}
use Rattle.isolation.proofs.Flights.Trajectory.{Between, Trajectory, move_sends}
use Rattle.isolation.proofs.Flights.Send.{or_none, flights, paths, holds, to_go_is, under_way_is}
use Rattle.isolation.proofs.Flights.Deliver.{is_landed, leaving_now, leaving_sends, leaving_is}
use Rattle.isolation.proofs.Reckoning.SenderFollowed.{Sends, item_of}
use Rattle.isolation.proofs.Reckoning.Stream.{seen, Fine, fine_parts, start_between, stream, streams}
use Rattle.isolation.proofs.Reckoning.Dates.{Point}
use Rattle.isolation.proofs.Reckoning.UnderWay.{never, always, under_way_at, under_way_none}
use Rattle.isolation.proofs.Reckoning.OnWay.{OnWay}
use Rattle.isolation.proofs.Reckoning.Inbound.{header_on_way, arriving_on_way, on_way_inbound}

-- a landing as an item
item_landed : (x : Landing) → is_item (item_of x) ≡ is_landed x
item_landed nothing = refl
item_landed (landed kind address word) = refl

-- a call between two cycles leaves the routers, the receive units, and the words that each sender's packet still has to go
pub record SameWires (z : List ℕ) (v w : View) : Type 0 where
  pub routers : SameRouters z v.routers w.routers
  pub receiver : (node : ℕ) → node < nodes z → w.receiver node ≡ v.receiver node
  pub to_go_at : (circuit : ℕ) → circuit < circuits z → (w.sender circuit).to_go ≡ (v.sender circuit).to_go

pub between_wires : (z : List ℕ) (v w : View) → Between z v w → SameWires z w v
between_wires z v w b = record {
  routers = same_back z _ _ b.routers;
  receiver = λ node n. sym (b.receiver node n);
  to_go_at = λ circuit l. sym (b.to_go_at circuit l);
}

-- at a point of a session they are those of the machine before the next cycle
pub point_wires : (z : List ℕ) (S : ℕ → View) (calls : List Call) (w : Lent) (k : Calendar) → Point z S calls w k
    → SameWires z (S k.cycles) (seen w)
point_wires z S calls w k p =
    subst (λ (v : View). SameWires z v (seen w)) (sym (ap S (sym (add-zero k.cycles)) ∙ p.machine 0))
    (between_wires z (seen w) (seen (stream calls w 0)) (streams z calls w p.fine p.refused).first)

-- and a start leaves them
pub start_wires : (z : List ℕ) (v : View) (w : Lent) → Fine z w → (circuit read_address write_address count kind : ℕ)
    → number (start circuit read_address write_address count kind) w ≡ 0 → SameWires z v (seen w)
    → SameWires z v (seen (does (start circuit read_address write_address count kind) w))
start_wires z v w f circuit read_address write_address count kind e a =
    let b = start_between z w f circuit read_address write_address count kind e in
    record {
      routers = same_then z _ _ _ a.routers b.routers;
      receiver = λ node n. b.receiver node n ∙ a.receiver node n;
      to_go_at = λ c l. b.to_go_at c l ∙ a.to_go_at c l;
    }

module _ (z : List ℕ) (passes : verdict z ≡ 0) (circuit : ℕ) (inside : circuit < circuits z) (S : ℕ → View) (J : Trajectory z S) (T : ℕ)
    (w : Lent) (f : Fine z w) (same : SameWires z (S T) (seen w)) (r : Reckoned) (sending : Sends T r ((seen w).sender circuit))
    (left_then : (t : ℕ) → t < T → r.sent.leaving t ≡ item_of (leaving_now z (S t) circuit)) where
  abbrev F : Flights
  F = flights z (ways_of z passes) S

  abbrev s : List ℕ
  s = w.state

  wires : Holds z F T (view s []).routers
  wires =
      same_holds z F (paths z (sheet_bounds z passes) (ways_of z passes) S J) T (S T).routers (seen w).routers same.routers
      (holds z (sheet_bounds z passes) (ways_of z passes) S J T)

  -- a packet on its way has words that are owed, or has sent its last, which is under way
  on_way_busy : OnWay z passes S J T circuit → reckoned_busy z circuit r T ≡ true
  on_way_busy x = go (dec_lt (F.start x.flight + F.size x.flight) T)
    where
      travel : (ways_of z passes).travel x.flight.circuit ≡ flight_cycles z circuit
      travel = travel_is z passes x.flight.circuit ∙ ap (flight_cycles z) x.of_circuit

      some : 0 < F.size x.flight
      some = (paths z (sheet_bounds z passes) (ways_of z passes) S J).some_size x.flight

      go : Dec (F.start x.flight + F.size x.flight < T) → reckoned_busy z circuit r T ≡ true
      go (yes gone) =
          let t : ℕ = F.start x.flight + F.size x.flight in
          let sent = leaving_is z (sheet_bounds z passes) (ways_of z passes) S J x.flight (F.size x.flight - 1) t (omega (arith, some))
          (omega (arith, some)) in
          let item-there : is_item (r.sent.leaving t) ≡ true =
          ap is_item (left_then t gone) ∙ item_landed (leaving_now z (S t) circuit)
          ∙ ap (λ c. is_landed (leaving_now z (S t) c)) (sym x.of_circuit) ∙ ap is_landed sent in
          sym (or_skip _ (sym (under_way_at z circuit r T t gone item-there (omega (arith, x.unfinished, travel)))))
      go (no not-gone) =
          let j : ℕ = T - F.start x.flight - 1 in
          let going = to_go_is z (sheet_bounds z passes) (ways_of z passes) S J x.flight j T (omega (arith, x.begun)) (omega (arith, x.begun, not-gone)) in
          let to_go_at = ((fine_parts z w f).transfers circuit inside).to_go_at in
          let here : ((seen w).sender circuit).to_go ≡ ((S T).sender x.flight.circuit).to_go =
          same.to_go_at circuit inside ∙ ap (λ c. ((S T).sender c).to_go) (sym x.of_circuit) in
          sym (or_yes _ (yes≤ (omega (arith, sending.left_is, going, here, to_go_at, x.begun, not-gone))))

  -- a word under way is of a packet on its way
  under_way_on : (t : ℕ) → t < T → is_item (r.sent.leaving t) ≡ true → T ≤ t + flight_cycles z circuit → OnWay z passes S J T circuit
  under_way_on t l e late =
      let sent : is_landed (leaving_now z (S t) circuit) ≡ true =
      sym (item_landed (leaving_now z (S t) circuit)) ∙ ap is_item (sym (left_then t l)) ∙ e in
      let m = leaving_sends (move_now z (S t) circuit) (read_now z (S t) circuit) ((S t).sender circuit) sent in
      let u = (under_way_is z (sheet_bounds z passes) (ways_of z passes) S J t circuit inside (move_sends (slot_now z (S t) circuit) ((S t).sender circuit) m)).0 in
      let travel : (ways_of z passes).travel u.flight.circuit ≡ flight_cycles z circuit =
      travel_is z passes u.flight.circuit ∙ ap (flight_cycles z) u.of_circuit in
      record {
        flight = u.flight;
        of_circuit = u.of_circuit;
        begun = omega (arith, u.time);
        unfinished = omega (arith, u.time, u.in_packet, travel);
      }

  -- nothing is inbound where nothing is owed or under way
  none_inbound : reckoned_busy z circuit r T ≡ false → is_inbound s circuit ≡ false
  unfolding is_inbound
  none_inbound e =
      subst (λ y. is_arriving s (circuit_at y circuit).receive or any (nodes y * ports) (header_inbound s (circuit_at y circuit).receive) ≡ false)
      (sym f.sheet_is)
      (or_none (never _ (λ a. not_on_way (arriving_on_way z passes S J T s f.sheet_is (fine_parts z w f) wires same.receiver circuit inside a)))
      (any_none _ _ (λ k l. never _ (λ h.
      not_on_way (header_on_way z passes S J T s f.sheet_is (fine_parts z w f) wires same.receiver circuit inside k l h)))))
    where
      not_on_way : OnWay z passes S J T circuit → ⊥
      not_on_way x = false≢true (sym e ∙ on_way_busy x)

  -- nothing is under way where nothing is inbound
  none_under_way : is_inbound s circuit ≡ false → under_way z circuit r T ≡ false
  none_under_way e =
      under_way_none z circuit r T (λ t l i late.
      false≢true (sym e ∙ on_way_inbound z passes S J T s f.sheet_is (fine_parts z w f) wires same.receiver circuit
      (under_way_on t l i late)))

  -- so the words and the reckoning agree
  pub busy_agrees : is_busy s circuit ≡ reckoned_busy z circuit r T
  unfolding is_busy
  busy_agrees =
      ap (λ (n : ℕ). 1 ≤? n or is_inbound s circuit) (sym sending.left_is) ∙ go (1 ≤? owed r) refl (is_inbound s circuit) refl
    where
      go : (o : Bool) → (1 ≤? owed r) ≡ o → (d : Bool) → is_inbound s circuit ≡ d → o or is_inbound s circuit ≡ o or under_way z circuit r T
      go true e d q = sym (or_yes _ refl) ∙ or_yes _ refl
      go false e false q = ap (λ (b : Bool). false or b) (q ∙ sym (none_under_way q))
      go false e true q =
          let going : under_way z circuit r T ≡ true = always _ (λ u. false≢true (sym (none_inbound (or_none e u)) ∙ q)) in
          ap (λ (b : Bool). false or b) (q ∙ sym going)

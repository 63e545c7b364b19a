-- A session as the machine before each of its cycles; its calendar, and that its schedules and transfers stay in their ranges.
-- Assumes nothing.
use Prim.Native.Nat.{ℕ, zero, suc, ◌+◌, ◌<◌}
use mathlib.Core.Bool.{Bool, true, false}
use mathlib.Core.List.{List}
use mathlib.Core.Path.{◌≡◌, refl, sym, ◌∙◌, ap, subst}
use native.Mathlib.Omega.{arith}
use native.Mathlib.Decide.{ℕ_discrete}
use Rattle.words.specs.Tests.{◌=?◌}
use Rattle.words.specs.Words.{pick}
use Rattle.words.proofs.TestLaws.{yes=, no=}
use Rattle.sheet.specs.Sheet.{circuits, schedules, nodes, circuit_at, period}
use Rattle.network.specs.View.{Order, no_order, pending, View}
use Rattle.network.specs.Cycle.{Move, step_sender, slot_now, move_now, next_number, schedule_after, order_after, period_ends, tick}
use Rattle.network.specs.Seen.{Agree}
pub use Rattle.session.proofs.MoveLaws.{opens_both, move_opens, move_sends, move_rests, transfer_step}
use Rattle.soundness.proofs.SoundLaws.{TransferParts}
use Rattle.soundness.proofs.SheetLaws.{SheetBounds, period_some}
use Rattle.isolation.proofs.Flights.Run.{SameRouters, same_then, NoWords}

-- a pending order's schedule is one of the sheet's
abbrev pub OrderInside : List ℕ → Order → Type 0
OrderInside z no_order = Unit {0}
OrderInside z (pending schedule at) = schedule < schedules z

-- what the calls between two cycles leave alone, whichever they are: the machine after the one cycle, and before the next
pub record Between (z : List ℕ) (v w : View) : Type 0 where
  pub routers : SameRouters z v.routers w.routers
  pub receiver : (node : ℕ) → node < nodes z → w.receiver node ≡ v.receiver node
  pub cycle : w.cycle ≡ v.cycle
  pub period_number : w.period_number ≡ v.period_number
  pub schedule : w.schedule ≡ v.schedule
  pub order : OrderInside z v.order → OrderInside z w.order
  pub busy : (circuit : ℕ) → circuit < circuits z → 0 < (v.sender circuit).left → w.sender circuit ≡ v.sender circuit
  pub to_go_at : (circuit : ℕ) → circuit < circuits z → (w.sender circuit).to_go ≡ (v.sender circuit).to_go
  pub transfer : (circuit : ℕ) → circuit < circuits z → TransferParts (circuit_at z circuit) (v.sender circuit)
      → TransferParts (circuit_at z circuit) (w.sender circuit)

-- nothing was called: the views agree
pub between_agree : (z : List ℕ) (v w : View) → Agree z v w → Between z v w
between_agree z v w a = record {
  routers = record { link = a.link; head = a.head; choice = a.choice; latch = a.latch; out = a.out; extra = a.extra };
  receiver = λ node n. sym (a.receiver node n);
  cycle = sym a.cycle;
  period_number = sym a.period_number;
  schedule = sym a.schedule;
  order = subst (OrderInside z) a.order;
  busy = λ circuit l some. sym (a.sender circuit l);
  to_go_at = λ circuit l. ap (λ x. x.to_go) (sym (a.sender circuit l));
  transfer = λ circuit l. subst (TransferParts (circuit_at z circuit)) (a.sender circuit l);
}

-- one call after another
pub between_then : (z : List ℕ) (u v w : View) → Between z u v → Between z v w → Between z u w
between_then z u v w a b = record {
  routers = same_then z _ _ _ a.routers b.routers;
  receiver = λ node n. b.receiver node n ∙ a.receiver node n;
  cycle = b.cycle ∙ a.cycle;
  period_number = b.period_number ∙ a.period_number;
  schedule = b.schedule ∙ a.schedule;
  order = λ o. b.order (a.order o);
  busy = λ circuit l some.
      let same = a.busy circuit l some in
      b.busy circuit l (subst (λ x. 0 < x.left) (sym same) some) ∙ same;
  to_go_at = λ circuit l. b.to_go_at circuit l ∙ a.to_go_at circuit l;
  transfer = λ circuit l f. b.transfer circuit l (a.transfer circuit l f);
}

-- a session on a sheet: S T is the machine directly before cycle T, counted from the load
pub record Trajectory (z : List ℕ) (S : ℕ → View) : Type 0 where
  pub no_words : NoWords z (S 0).routers
  pub none_arriving : (node : ℕ) → node < nodes z → ((S 0).receiver node).arriving ≡ false
  pub first_cycle : (S 0).cycle ≡ 0
  pub first_schedule : (S 0).schedule < schedules z
  pub first_order : OrderInside z (S 0).order
  pub none_to_go : (circuit : ℕ) → circuit < circuits z → ((S 0).sender circuit).to_go ≡ 0
  pub first_transfer : (circuit : ℕ) → circuit < circuits z → TransferParts (circuit_at z circuit) ((S 0).sender circuit)
  pub between : (T : ℕ) → Between z (tick z (S T)) (S (suc T))

-- one of two schedules, and one of two orders
pick_inside : (b : Bool) (x y most : ℕ) → x < most → y < most → pick b x y < most
pick_inside true x y most p q = p
pick_inside false x y most p q = q

pick_order : (z : List ℕ) (b : Bool) (o o' : Order) → OrderInside z o → OrderInside z o' → OrderInside z (pick b o o')
pick_order z true o o' p q = p
pick_order z false o o' p q = q

-- what an order puts in force, and what is left of it
schedule_after_inside : (z : List ℕ) (o : Order) (number schedule : ℕ) → OrderInside z o → schedule < schedules z
    → schedule_after o number schedule < schedules z
schedule_after_inside z no_order number schedule p q = q
schedule_after_inside z (pending ordered at) number schedule p q = pick_inside (at =? number) ordered schedule (schedules z) p q

order_after_inside : (z : List ℕ) (o : Order) (number : ℕ) → OrderInside z o → OrderInside z (order_after o number)
order_after_inside z no_order number p = p
order_after_inside z (pending ordered at) number p = pick_order z (at =? number) no_order (pending ordered at) tt p

tick_order : (z : List ℕ) (v : View) → OrderInside z v.order → OrderInside z (tick z v).order
tick_order z v p =
    pick_order z (period_ends z v) (order_after v.order (next_number v.period_number)) v.order
    (order_after_inside z v.order (next_number v.period_number) p) p

module _ (z : List ℕ) (S : ℕ → View) where
  -- the first cycle of a period, counted from the load, and its length
  unfoldable pub begins : ℕ → ℕ
  begins zero = 0
  begins (suc p) = begins p + period z (S (begins p)).schedule

  unfoldable pub long : ℕ → ℕ
  long p = period z (S (begins p)).schedule

  pub begins_next : (p : ℕ) → begins (suc p) ≡ begins p + long p
  unfolding begins long
  begins_next p = refl

  pub long_is : (p schedule : ℕ) → (S (begins p)).schedule ≡ schedule → long p ≡ period z schedule
  unfolding long
  long_is p schedule e = ap (period z) e

  -- where a cycle falls: its period and its offset there
  pub record Date (T : ℕ) : Type 0 where
    pub period : ℕ
    pub offset : ℕ
    pub time : T ≡ begins period + offset
    pub within : offset < long period
    pub cycle_is : (S T).cycle ≡ offset
    pub schedule_is : (S T).schedule ≡ (S (begins period)).schedule
    pub schedule_inside : (S T).schedule < schedules z
    pub order_inside : OrderInside z (S T).order

module _ (z : List ℕ) (B : SheetBounds z) (S : ℕ → View) (J : Trajectory z S) where
  date_first : Date z S 0
  unfolding begins long
  date_first = record {
    period = 0;
    offset = 0;
    time = refl;
    within = period_some z B (S 0).schedule J.first_schedule;
    cycle_is = J.first_cycle;
    schedule_is = refl;
    schedule_inside = J.first_schedule;
    order_inside = J.first_order;
  }

  date_next : (T : ℕ) → Date z S T → Date z S (suc T)
  date_next T d = go (ℕ_discrete ((S T).cycle + 1) (period z (S T).schedule))
    where
      same_long : long z S d.period ≡ period z (S T).schedule
      same_long = long_is z S d.period (S T).schedule (sym d.schedule_is)

      order : OrderInside z (S (suc T)).order
      order = (J.between T).order (tick_order z (S T) d.order_inside)

      go : Dec ((S T).cycle + 1 ≡ period z (S T).schedule) → Date z S (suc T)
      go (yes e) =
          let cycle : (S (suc T)).cycle ≡ 0 = (J.between T).cycle ∙ ap (λ b. pick b 0 ((S T).cycle + 1)) (yes= e) in
          let number = next_number (S T).period_number in
          let schedule : (S (suc T)).schedule ≡ schedule_after (S T).order number (S T).schedule =
          (J.between T).schedule ∙ ap (λ b. pick b (schedule_after (S T).order number (S T).schedule) (S T).schedule) (yes= e) in
          let first : suc T ≡ begins z S (suc d.period) =
          omega (arith, begins_next z S d.period, same_long, d.cycle_is, d.time) in
          let same : (S (begins z S (suc d.period))).schedule ≡ (S (suc T)).schedule = ap (λ t. (S t).schedule) (sym first) in
          let inside : (S (suc T)).schedule < schedules z =
          rw schedule (schedule_after_inside z (S T).order number (S T).schedule d.order_inside d.schedule_inside) in
          record {
            period = suc d.period;
            offset = 0;
            time = omega arith;
            within = rw (long_is z S (suc d.period) (S (suc T)).schedule same) (period_some z B (S (suc T)).schedule inside);
            cycle_is = cycle;
            schedule_is = sym same;
            schedule_inside = inside;
            order_inside = order;
          }
      go (no ne) =
          let cycle : (S (suc T)).cycle ≡ (S T).cycle + 1 = (J.between T).cycle ∙ ap (λ b. pick b 0 ((S T).cycle + 1)) (no= ne) in
          let number = next_number (S T).period_number in
          let schedule : (S (suc T)).schedule ≡ (S T).schedule =
          (J.between T).schedule ∙ ap (λ b. pick b (schedule_after (S T).order number (S T).schedule) (S T).schedule) (no= ne) in
          record {
            period = d.period;
            offset = suc d.offset;
            time = omega (arith, d.time);
            within = omega (arith, same_long, d.cycle_is, d.within, ne);
            cycle_is = omega (arith, cycle, d.cycle_is);
            schedule_is = schedule ∙ d.schedule_is;
            schedule_inside = rw schedule d.schedule_inside;
            order_inside = order;
          }

  -- each cycle falls into a period, in which one of the sheet's schedules is in force
  pub date : (T : ℕ) → Date z S T
  date zero = date_first
  date (suc T) = date_next T (date T)

module _ (z : List ℕ) (S : ℕ → View) (J : Trajectory z S) where
  transfer_tick : (T circuit : ℕ) → TransferParts (circuit_at z circuit) ((S T).sender circuit)
      → TransferParts (circuit_at z circuit) ((tick z (S T)).sender circuit)
  transfer_tick T circuit f =
      transfer_step (circuit_at z circuit) (slot_now z (S T) circuit) ((S T).sender circuit) (move_now z (S T) circuit) refl f

  -- before each cycle each circuit's transfer lies within its regions
  pub transfer_inside : (T circuit : ℕ) → circuit < circuits z → TransferParts (circuit_at z circuit) ((S T).sender circuit)
  transfer_inside zero circuit l = J.first_transfer circuit l
  transfer_inside (suc T) circuit l = (J.between T).transfer circuit l (transfer_tick T circuit (transfer_inside T circuit l))

  -- the words of its packet still to go, after a cycle
  pub to_go_next : (T circuit : ℕ) (m : Move) → circuit < circuits z → move_now z (S T) circuit ≡ m
      → ((S (suc T)).sender circuit).to_go ≡ (step_sender m (slot_now z (S T) circuit) ((S T).sender circuit)).to_go
  to_go_next T circuit m l e =
      (J.between T).to_go_at circuit l ∙ ap (λ x. (step_sender x (slot_now z (S T) circuit) ((S T).sender circuit)).to_go) e

  -- and while there are some, no call replaces its transfer
  pub sender_next : (T circuit : ℕ) (m : Move) → circuit < circuits z → move_now z (S T) circuit ≡ m
      → 0 < ((S (suc T)).sender circuit).to_go
      → (S (suc T)).sender circuit ≡ step_sender m (slot_now z (S T) circuit) ((S T).sender circuit)
  sender_next T circuit m l e some =
      let f = transfer_tick T circuit (transfer_inside T circuit l) in
      let left : 0 < ((tick z (S T)).sender circuit).left = omega (arith, f.to_go_at, (J.between T).to_go_at circuit l) in
      (J.between T).busy circuit l left ∙ ap (λ x. step_sender x (slot_now z (S T) circuit) ((S T).sender circuit)) e

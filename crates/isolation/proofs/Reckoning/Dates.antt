-- Every session, whatever its sheet: no cycle is refused, and the reckoned calendar is what the machine's clock shows.
-- Assumes nothing.
use Prim.Native.Nat.{ℕ, zero, suc, ◌+◌, ◌<◌}
use mathlib.Core.Bool.{Bool, true, false, false≢true}
use mathlib.Core.List.{List, [], ◌∷◌, ◌++◌}
use mathlib.Core.Path.{◌≡◌, refl, sym, ◌∙◌, ap, ap₂, subst}
use native.Mathlib.Omega.{arith}
use native.Mathlib.Decide.{ℕ_discrete}
use native.Mathlib.Nat.{add-zero, not-suc-le-zero}
use lib.ListN.{length, take, drop, get_or}
use Rattle.words.specs.Tests.{◌=?◌}
use Rattle.words.specs.Words.{pick}
use Rattle.words.proofs.TestLaws.{yes=, no=}
use Rattle.sheet.specs.Sheet.{circuits, period}
use Rattle.sheet.specs.Rules.{verdict}
use Rattle.network.specs.View.{Order, no_order, pending, View}
use Rattle.network.specs.Cycle.{next_number, schedule_after, order_after, period_ends, tick, faulty}
use Rattle.network.specs.Registers.{reg, clock_row, cycle_place, number_place, in_force_place, order_mark_place, order_schedule_place, order_period_place, row_words}
use Rattle.session.specs.Calls.{Lent, Call, load, start, start_all, store, order, cycle, ask, is_load, number, does, after, after_all}
use Rattle.session.specs.Calls.{ordered, stored}
use Rattle.session.proofs.NumberLaws.{start_passed}
use Rattle.session.proofs.RegisterLaws.{started_other, ordered_other, ordered_mark, ordered_schedule, ordered_period}
use Rattle.isolation.specs.Sessions.{LoadsRefused, Session, after_load, standing, Event, order_done, cycle_done, event_of, events}
use Rattle.isolation.specs.Calendar.{Calendar, calendar_at_load, spend_order, next_calendar, calendar_event, calendar_all, calendar_at}
use Rattle.isolation.proofs.Flights.Trajectory.{Trajectory}
use Rattle.isolation.proofs.Flights.NeverFaulty.{never_faulty}
use Rattle.session.proofs.WritingLaws.{after_done, after_refused}
use Rattle.isolation.proofs.Reckoning.Starts.{calendar_starts}
use Rattle.isolation.proofs.Reckoning.Stream.{is_cycle, seen, Fine, list_has, fine_bounds, fine_opened, fine_after, fine_cycle}
use Rattle.isolation.proofs.Reckoning.Stream.{a_cycle, idle, cycle_then, stream, cycle_seen, cycle_goes, machine_at, session_passes, zero_at}
use Rattle.isolation.proofs.Reckoning.Stream.{session_trajectory}

-- a calendar shows what the machine's clock shows
pub record Dated (k : Calendar) (v : View) : Type 0 where
  pub cycle_is : k.cycle ≡ v.cycle
  pub number_is : k.number ≡ v.period_number
  pub schedule_is : k.schedule ≡ v.schedule
  pub order_is : k.order ≡ v.order

-- two machines' clocks show the same
record SameClock (v w : View) : Type 0 where
  cycle : w.cycle ≡ v.cycle
  period_number : w.period_number ≡ v.period_number
  schedule : w.schedule ≡ v.schedule
  order : w.order ≡ v.order

-- what an order puts in force as a period begins, and what is left of it
record Begun (k begun : Calendar) : Type 0 where
  same_cycles : begun.cycles ≡ k.cycles
  same_cycle : begun.cycle ≡ k.cycle
  same_number : begun.number ≡ k.number
  schedule : begun.schedule ≡ schedule_after k.order k.number k.schedule
  order : begun.order ≡ order_after k.order k.number

begun_by : (cycles number schedule : ℕ) (o : Order)
    → let k : Calendar = record { cycles = cycles; cycle = 0; number = number; schedule = schedule; order = o } in Begun k (spend_order o k)
begun_by cycles number schedule no_order =
    record { same_cycles = refl; same_cycle = refl; same_number = refl; schedule = refl; order = refl }
begun_by cycles number schedule (pending ordered at) = go (at =? number) refl
  where
    go : (b : Bool) → (at =? number) ≡ b
        → let k : Calendar = record { cycles = cycles; cycle = 0; number = number; schedule = schedule; order = pending ordered at } in
        Begun k (pick b (record { cycles = cycles; cycle = 0; number = number; schedule = ordered; order = no_order }) k)
    go true e = record {
      same_cycles = refl;
      same_cycle = refl;
      same_number = refl;
      schedule = sym (ap (λ b. pick b ordered schedule) e);
      order = sym (ap (λ b. pick b no_order (pending ordered at)) e);
    }
    go false e = record {
      same_cycles = refl;
      same_cycle = refl;
      same_number = refl;
      schedule = sym (ap (λ b. pick b ordered schedule) e);
      order = sym (ap (λ b. pick b no_order (pending ordered at)) e);
    }

-- the calendar after a period's last cycle, and after any other
abbrev turned : Calendar → Calendar
turned k =
    spend_order k.order
    (record { cycles = k.cycles + 1; cycle = 0; number = next_number k.number; schedule = k.schedule; order = k.order })

abbrev calendar_onward : Calendar → Calendar
calendar_onward k =
    record { cycles = k.cycles + 1; cycle = k.cycle + 1; number = k.number; schedule = k.schedule; order = k.order }

dated_turn : (z : List ℕ) (k : Calendar) (v : View) → Dated k v → period_ends z v ≡ true → Dated (turned k) (tick z v)
dated_turn z k v d e =
    let begun = begun_by (k.cycles + 1) (next_number k.number) k.schedule k.order in
    let number : next_number k.number ≡ next_number v.period_number = ap next_number d.number_is in
    record {
      cycle_is = begun.same_cycle ∙ sym (ap (λ b. pick b 0 (v.cycle + 1)) e);
      number_is = begun.same_number ∙ number ∙ sym (ap (λ b. pick b (next_number v.period_number) v.period_number) e);
      schedule_is =
          begun.schedule
          ∙ ap (λ o. schedule_after o (next_number k.number) k.schedule) d.order_is
          ∙ ap (λ n. schedule_after v.order n k.schedule) number
          ∙ ap (schedule_after v.order (next_number v.period_number)) d.schedule_is
          ∙ sym (ap (λ b. pick b (schedule_after v.order (next_number v.period_number) v.schedule) v.schedule) e);
      order_is =
          begun.order
          ∙ ap (λ o. order_after o (next_number k.number)) d.order_is
          ∙ ap (order_after v.order) number
          ∙ sym (ap (λ b. pick b (order_after v.order (next_number v.period_number)) v.order) e);
    }

dated_onward : (z : List ℕ) (k : Calendar) (v : View) → Dated k v → period_ends z v ≡ false → Dated (calendar_onward k) (tick z v)
dated_onward z k v d e = record {
  cycle_is = ap (λ n. n + 1) d.cycle_is ∙ sym (ap (λ b. pick b 0 (v.cycle + 1)) e);
  number_is = d.number_is ∙ sym (ap (λ b. pick b (next_number v.period_number) v.period_number) e);
  schedule_is =
      d.schedule_is
      ∙ sym (ap (λ b. pick b (schedule_after v.order (next_number v.period_number) v.schedule) v.schedule) e);
  order_is =
      d.order_is ∙ sym (ap (λ b. pick b (order_after v.order (next_number v.period_number)) v.order) e);
}

-- a cycle: the calendar goes on as the clock does
dated_cycle : (z : List ℕ) (k : Calendar) (v : View) → Dated k v → Dated (next_calendar z k) (tick z v)
dated_cycle z k v d = go (period_ends z v) refl
  where
    same : (k.cycle + 1 =? period z k.schedule) ≡ period_ends z v
    same = ap₂ (λ c s. c + 1 =? period z s) d.cycle_is d.schedule_is

    go : (b : Bool) → period_ends z v ≡ b → Dated (next_calendar z k) (tick z v)
    go true e =
        subst (λ b. Dated (pick b (turned k) (calendar_onward k)) (tick z v)) (sym (same ∙ e)) (dated_turn z k v d e)
    go false e =
        subst (λ b. Dated (pick b (turned k) (calendar_onward k)) (tick z v)) (sym (same ∙ e)) (dated_onward z k v d e)

-- an order: the calendar holds it as the clock does
dated_order : (z : List ℕ) (schedule at : ℕ) (k : Calendar) (v w : View) → Dated k v → w.cycle ≡ v.cycle
    → w.period_number ≡ v.period_number → w.schedule ≡ v.schedule → w.order ≡ pending schedule at
    → Dated (calendar_event z (order_done schedule at) k) w
dated_order z schedule at k v w d c n s o = record {
  cycle_is = d.cycle_is ∙ sym c;
  number_is = d.number_is ∙ sym n;
  schedule_is = d.schedule_is ∙ sym s;
  order_is = sym o;
}

-- a call that leaves the clock alone
dated_same : (k : Calendar) (v w : View) → Dated k v → SameClock v w → Dated k w
dated_same k v w d c = record {
  cycle_is = d.cycle_is ∙ sym c.cycle;
  number_is = d.number_is ∙ sym c.period_number;
  schedule_is = d.schedule_is ∙ sym c.schedule;
  order_is = d.order_is ∙ sym c.order;
}

-- the load: cycle 0 of period 0, schedule 0, no order
dated_load : (v : View) → v.cycle ≡ 0 → v.period_number ≡ 0 → v.schedule ≡ 0 → v.order ≡ no_order → Dated calendar_at_load v
dated_load v c n s o = record { cycle_is = sym c; number_is = sym n; schedule_is = sym s; order_is = sym o }

-- a cycle more is counted
pub next_cycles : (z : List ℕ) (k : Calendar) → (next_calendar z k).cycles ≡ k.cycles + 1
next_cycles z k = go (k.cycle + 1 =? period z k.schedule)
  where
    go : (b : Bool) → (pick b (turned k) (calendar_onward k)).cycles ≡ k.cycles + 1
    go true = (begun_by (k.cycles + 1) (next_number k.number) k.schedule k.order).same_cycles
    go false = refl

-- the cycle within the period after a cycle
pub next_cycle : (z : List ℕ) (k : Calendar) → (next_calendar z k).cycle ≡ pick (k.cycle + 1 =? period z k.schedule) 0 (k.cycle + 1)
next_cycle z k = go (k.cycle + 1 =? period z k.schedule)
  where
    go : (b : Bool) → (pick b (turned k) (calendar_onward k)).cycle ≡ pick b 0 (k.cycle + 1)
    go true = (begun_by (k.cycles + 1) (next_number k.number) k.schedule k.order).same_cycle
    go false = refl

-- a call that is no cycle counts none
pub cycles_kept : (z : List ℕ) (x : Call) (w : Lent) (k : Calendar) → is_cycle x ≡ false → (calendar_all z (event_of x w) k).cycles ≡ k.cycles
cycles_kept z (load y) w k c = refl
cycles_kept z (start circuit read_address write_address count kind) w k c = refl
cycles_kept z (start_all ts answer_words) w k c = ap (λ (d : Calendar). d.cycles) (calendar_starts z ts w.state k)
cycles_kept z (store node address new) w k c = refl
cycles_kept z (ask question) w k c = refl
cycles_kept z (order schedule period) w k c = refl
cycles_kept z cycle w k c = absurd (false≢true (sym c))

-- events one after another
pub calendar_append : (z : List ℕ) (es fs : List Event) (k : Calendar)
    → calendar_all z (es ++ fs) k ≡ calendar_all z fs (calendar_all z es k)
calendar_append z [] fs k = refl
calendar_append z (e ∷ es) fs k = calendar_append z es fs (calendar_event z e k)

-- the clock stays where its registers do
same_clock : (s s' m m' : List ℕ) → ((k : ℕ) → k < 6 → reg s' clock_row k ≡ reg s clock_row k)
    → SameClock (seen (record { state = s; memory = m })) (seen (record { state = s'; memory = m' }))
same_clock s s' m m' same = record {
  cycle = same cycle_place (omega arith);
  period_number = same number_place (omega arith);
  schedule = same in_force_place (omega arith);
  order = rw (same order_mark_place (omega arith), same order_schedule_place (omega arith), same order_period_place (omega arith)) refl;
}

-- a start, and an order
module _ (z : List ℕ) (w : Lent) (f : Fine z w) (k : Calendar) (d : Dated k (seen w)) where
  abbrev s : List ℕ
  s = w.state

  start_dated : (circuit read_address write_address count kind : ℕ) → number (start circuit read_address write_address count kind) w ≡ 0
      → Dated k (seen (does (start circuit read_address write_address count kind) w))
  start_dated circuit read_address write_address count kind e =
      let p = start_passed s circuit read_address write_address count kind e in
      let few : circuit < row_words = omega (arith, p.circuit_inside, (fine_bounds z w f).few_circuits, ap circuits f.sheet_is) in
      dated_same k (seen w) _ d
      (same_clock s _ w.memory w.memory
      (λ place l. started_other s circuit read_address write_address count kind few clock_row place (omega arith)
      (λ low. absurd (omega arith))))

  order_dated : (schedule period : ℕ) → number (order schedule period) w ≡ 0
      → Dated (calendar_event z (order_done schedule period) k) (seen (does (order schedule period) w))
  order_dated schedule period e =
      let long = f.long in
      let time : (place : ℕ) → place < 3 → reg (ordered s schedule period) clock_row place ≡ reg s clock_row place =
      λ place l. ordered_other s schedule period clock_row place (omega arith) (λ q low. absurd (omega arith)) in
      dated_order z schedule period k (seen w) (seen (does (order schedule period) w)) d
      (time cycle_place (omega arith)) (time number_place (omega arith)) (time in_force_place (omega arith))
      (rw (
        ordered_mark s schedule period (omega arith),
        ordered_schedule s schedule period (omega arith),
        ordered_period s schedule period (omega arith),
      ) refl)

-- any call but a cycle, carried out
module _ (z : List ℕ) (w : Lent) (f : Fine z w) (k : Calendar) (d : Dated k (seen w)) where
  does_dated : (x : Call) → is_load x ≡ false → is_cycle x ≡ false → number x w ≡ 0
      → Dated (calendar_all z (event_of x w) k) (seen (does x w))
  does_dated (load y) l c e = absurd (false≢true (sym l))
  does_dated (start circuit read_address write_address count kind) l c e = start_dated z w f k d circuit read_address write_address count kind e
  does_dated (start_all ts answer_words) l c e =
      subst (λ (h : Calendar). Dated h (seen (does (start_all ts answer_words) w))) (sym (calendar_starts z ts w.state k))
      (list_has z (λ (u : Lent). Dated k (seen u))
      (λ t u g e p. start_dated z u g k p t.circuit t.read t.write t.count t.kind e) ts w f d)
  does_dated (store node address new) l c e =
      dated_same k (seen w) _ d (same_clock w.state w.state w.memory (stored w.state w.memory node address new) (λ place i. refl))
  does_dated (ask question) l c e = d
  does_dated (order schedule period) l c e = order_dated z w f k d schedule period e
  does_dated cycle l c e = absurd (false≢true (sym c))

-- a point of a session: the calls that are left, the lent words and the calendar so far; S is the machine before each cycle
pub record Point (z : List ℕ) (S : ℕ → View) (calls : List Call) (w : Lent) (k : Calendar) : Type 0 where
  pub fine : Fine z w
  pub refused : LoadsRefused calls w
  pub machine : (T : ℕ) → S (k.cycles + T) ≡ seen (stream calls w T)
  pub dated : Dated k (seen w)

-- the first machine of a stream that begins with a cycle
stream_first : (b : Bool) (w : Lent) (next : ℕ → Lent) → pick b (cycle_then w next) (idle w) 0 ≡ w
stream_first true w next = refl
stream_first false w next = refl

module _ (z : List ℕ) (passes : verdict z ≡ 0) (S : ℕ → View) (J : Trajectory z S) where
  -- before a cycle the lent words are the machine of that cycle
  pub machine_here : (calls : List Call) (w : Lent) (k : Calendar) → Point z S (cycle ∷ calls) w k → S k.cycles ≡ seen w
  machine_here calls w k p =
      ap S (sym (add-zero k.cycles)) ∙ p.machine 0
      ∙ ap seen (stream_first (number cycle w =? 0) w (stream calls (does cycle w)))

  -- so it is carried out
  pub cycle_done_is : (calls : List Call) (w : Lent) (k : Calendar) → Point z S (cycle ∷ calls) w k → number cycle w ≡ 0
  cycle_done_is calls w k p =
      cycle_goes z w p.fine
      (subst (λ (v : View). faulty z v ≡ false) (machine_here calls w k p) (never_faulty z passes S J k.cycles))

  -- a cycle
  pub cycle_point : (calls : List Call) (w : Lent) (k : Calendar) → Point z S (cycle ∷ calls) w k
      → Point z S calls (does cycle w) (next_calendar z k)
  cycle_point calls w k p =
      let done = cycle_done_is calls w k p in
      let agree = cycle_seen z w p.fine in
      record {
        fine = fine_cycle z w p.fine;
        refused = subst (LoadsRefused calls) (after_done cycle w done) p.refused.1;
        machine = λ T.
            let later : (next_calendar z k).cycles + T ≡ k.cycles + suc T = omega (arith, next_cycles z k) in
            ap S later ∙ p.machine (suc T)
            ∙ ap (λ (b : Bool). seen (pick b (cycle_then w (stream calls (does cycle w))) (idle w) (suc T))) (yes= done);
        dated =
            dated_same _ (tick z (seen w)) _ (dated_cycle z k (seen w) p.dated)
            (record {
              cycle = agree.cycle;
              period_number = agree.period_number;
              schedule = agree.schedule;
              order = agree.order;
            });
      }

  -- a call that is no cycle
  call_point : (x : Call) (calls : List Call) (w : Lent) (k : Calendar) → is_cycle x ≡ false → Point z S (x ∷ calls) w k
      → Point z S calls (after x w) (calendar_all z (pick (number x w =? 0) (event_of x w) []) k)
  call_point x calls w k c p = go (ℕ_discrete (number x w) 0)
    where
      rest : (T : ℕ) → S (k.cycles + T) ≡ seen (stream calls (after x w) T)
      rest T =
          p.machine T
          ∙ ap (λ (b : Bool). seen (pick b (pick (number cycle w =? 0) (cycle_then w (stream calls (does cycle w))) (idle w))
          (stream calls (after x w)) T)) c

      load_no : number x w ≡ 0 → (b : Bool) → is_load x ≡ b → b ≡ false
      load_no e true q = absurd (p.refused.0 q e)
      load_no e false q = refl

      go : Dec (number x w ≡ 0) → Point z S calls (after x w) (calendar_all z (pick (number x w =? 0) (event_of x w) []) k)
      go (yes e) =
          subst (λ (b : Bool). Point z S calls (after x w) (calendar_all z (pick b (event_of x w) []) k)) (sym (yes= e))
          (record {
            fine = fine_after z w p.fine x p.refused.0;
            refused = p.refused.1;
            machine = λ T. ap (λ (n : ℕ). S (n + T)) (cycles_kept z x w k c) ∙ rest T;
            dated =
                subst (λ (y : Lent). Dated (calendar_all z (event_of x w) k) (seen y)) (sym (after_done x w e))
                (does_dated z w p.fine k p.dated x (load_no e (is_load x) refl) c e);
          })
      go (no ne) =
          subst (λ (b : Bool). Point z S calls (after x w) (calendar_all z (pick b (event_of x w) []) k)) (sym (no= ne))
          (record {
            fine = fine_after z w p.fine x p.refused.0;
            refused = p.refused.1;
            machine = rest;
            dated = subst (λ (y : Lent). Dated k (seen y)) (sym (after_refused x w ne)) p.dated;
          })

  -- any call
  pub point_next : (x : Call) (calls : List Call) (w : Lent) (k : Calendar) → Point z S (x ∷ calls) w k
      → Point z S calls (after x w) (calendar_all z (pick (number x w =? 0) (event_of x w) []) k)
  point_next x calls w k p = go (is_cycle x) refl
    where
      go : (b : Bool) → is_cycle x ≡ b → Point z S calls (after x w) (calendar_all z (pick (number x w =? 0) (event_of x w) []) k)
      go false c = call_point x calls w k c p
      go true c =
          let p' : Point z S (cycle ∷ calls) w k = subst (λ (y : Call). Point z S (y ∷ calls) w k) (a_cycle x c) p in
          let done = cycle_done_is calls w k p' in
          subst (λ (y : Call). Point z S calls (after y w) (calendar_all z (pick (number y w =? 0) (event_of y w) []) k))
          (sym (a_cycle x c))
          (subst (λ (b : Bool). Point z S calls (after cycle w) (calendar_all z (pick b (cycle_done ∷ []) []) k)) (sym (yes= done))
          (subst (λ (y : Lent). Point z S calls y (next_calendar z k)) (sym (after_done cycle w done)) (cycle_point calls w k p')))

  -- every point of the calls
  pub points : (n : ℕ) (calls : List Call) (w : Lent) (k : Calendar) → Point z S calls w k
      → Point z S (drop n calls) (after_all (take n calls) w) (calendar_all z (events (take n calls) w) k)
  points zero calls w k p = p
  points (suc n) [] w k p = p
  points (suc n) (x ∷ calls) w k p =
      subst (Point z S (drop n calls) (after_all (take n calls) (after x w)))
      (sym (calendar_append z (pick (number x w =? 0) (event_of x w) []) (events (take n calls) (after x w)) k))
      (points n calls (after x w) _ (point_next x calls w k p))

-- the calls from the k-th on, and the words after it
drop_at : (calls : List Call) (k : ℕ) → k < length calls → drop k calls ≡ get_or calls k cycle ∷ drop (suc k) calls
drop_at [] k l = absurd (not-suc-le-zero l)
drop_at (x ∷ calls) zero l = refl
drop_at (x ∷ calls) (suc k) l = drop_at calls k (omega arith)

pub after_all_at : (calls : List Call) (k : ℕ) (w : Lent) → k < length calls
    → after_all (take (suc k) calls) w ≡ after (get_or calls k cycle) (after_all (take k calls) w)
after_all_at [] k w l = absurd (not-suc-le-zero l)
after_all_at (x ∷ calls) zero w l = refl
after_all_at (x ∷ calls) (suc k) w l = after_all_at calls k (after x w) (omega arith)

module _ (l : Session) where
  -- directly after the load
  pub point_opened : Point l.sheet (machine_at l) l.calls (after_load l) calendar_at_load
  point_opened = record {
    fine = fine_opened l;
    refused = l.loads_refused;
    machine = λ T. ap (machine_at l) (let e : 0 + T ≡ T = omega arith in e);
    dated =
        let clear : (place : ℕ) → place < row_words → reg (after_load l).state clock_row place ≡ 0 = λ place p. zero_at l clock_row place (omega arith) p in
        dated_load (seen (after_load l)) (clear cycle_place (omega arith)) (clear number_place (omega arith))
        (clear in_force_place (omega arith)) (rw (clear order_mark_place (omega arith)) refl);
  }

  -- every point of the session
  pub point_at : (k : ℕ) → Point l.sheet (machine_at l) (drop k l.calls) (standing l k) (calendar_at l k)
  point_at k = points l.sheet (session_passes l) (machine_at l) (session_trajectory l) k l.calls (after_load l) _ point_opened

  -- no cycle is refused
  pub never_refused : (k : ℕ) → k < length l.calls → get_or l.calls k cycle ≡ cycle → number cycle (standing l k) ≡ 0
  never_refused k i c =
      cycle_done_is l.sheet (session_passes l) (machine_at l) (session_trajectory l) _ _ _
      (subst (λ (calls : List Call). Point l.sheet (machine_at l) calls (standing l k) (calendar_at l k))
      (drop_at l.calls k i ∙ ap (λ (x : Call). x ∷ drop (suc k) l.calls) c) (point_at k))

-- The points of a session's list of calls: a call counts one cycle at most, so the point after each number of cycles is found; with it the
-- events before each cycle, and the reckoning from one cycle to the next.
-- Assumes nothing.
use Prim.Native.Nat.{ℕ, zero, suc, ◌+◌, ◌≤◌, ◌<◌}
use mathlib.Core.Bool.{Bool, true, false, false≢true}
use mathlib.Core.List.{List, [], ◌∷◌, ◌++◌, map, append_assoc, append-nil}
use mathlib.Core.Path.{◌≡◌, refl, sym, ◌∙◌, ap, ap₂}
use native.Mathlib.Omega.{arith}
use native.Mathlib.Decide.{dec_lt}
use lib.ListN.{length, take, drop, get_or}
use Rattle.words.specs.Tests.{◌=?◌}
use Rattle.words.specs.Words.{pick, least_from}
use Rattle.words.proofs.TestLaws.{is=, yes=}
use Rattle.words.proofs.WordLaws.{least_from_most, least_from_least}
use Rattle.session.specs.declared.Transfer.{Transfer as Listed}
use Rattle.session.specs.Calls.{Lent, Call, load, start, start_all, store, order, cycle, number, after, after_all, ask, carried_out}
use Rattle.isolation.specs.Sessions.{Session, after_load, standing, Event, start_done, store_done, order_done, cycle_done, start_of, event_of, events, events_before}
use Rattle.isolation.specs.Calendar.{Calendar, calendar_at_load, next_calendar, calendar_event, calendar_all, cycles_done, point_after}
use Rattle.isolation.specs.Reckoning.{Reckoned, cycle_on, reckon_event, reckon_all}
use Rattle.isolation.specs.Demand.{CycleAt}
use Rattle.isolation.proofs.Reckoning.Dates.{next_cycles}
use Rattle.isolation.proofs.Reckoning.Starts.{by_starts}

-- the events of a session
abbrev pub events_of : Session → List Event
events_of l = events l.calls (after_load l)

-- the events before cycle t of a list
abbrev pub up_to : List Event → ℕ → List Event
up_to [] t = []
up_to (cycle_done ∷ es) zero = []
up_to (cycle_done ∷ es) (suc t) = cycle_done ∷ up_to es t
up_to (start_done circuit transfer ∷ es) t = start_done circuit transfer ∷ up_to es t
up_to (store_done node address new ∷ es) t = store_done node address new ∷ up_to es t
up_to (order_done schedule period ∷ es) t = order_done schedule period ∷ up_to es t

-- the events after t cycles and before the next
abbrev pub stretch : List Event → ℕ → List Event
stretch [] t = []
stretch (cycle_done ∷ es) zero = []
stretch (cycle_done ∷ es) (suc t) = stretch es t
stretch (start_done circuit transfer ∷ es) zero = start_done circuit transfer ∷ stretch es zero
stretch (start_done circuit transfer ∷ es) (suc t) = stretch es (suc t)
stretch (store_done node address new ∷ es) zero = store_done node address new ∷ stretch es zero
stretch (store_done node address new ∷ es) (suc t) = stretch es (suc t)
stretch (order_done schedule period ∷ es) zero = order_done schedule period ∷ stretch es zero
stretch (order_done schedule period ∷ es) (suc t) = stretch es (suc t)

-- the cycles among some events
abbrev pub cycles_in : List Event → ℕ
cycles_in [] = 0
cycles_in (cycle_done ∷ es) = suc (cycles_in es)
cycles_in (start_done circuit transfer ∷ es) = cycles_in es
cycles_in (store_done node address new ∷ es) = cycles_in es
cycles_in (order_done schedule period ∷ es) = cycles_in es

-- the calendar counts them
pub calendar_cycles : (z : List ℕ) (es : List Event) (k : Calendar) → (calendar_all z es k).cycles ≡ k.cycles + cycles_in es
calendar_cycles z [] k = omega arith
calendar_cycles z (cycle_done ∷ es) k = omega (arith, calendar_cycles z es (next_calendar z k), next_cycles z k)
calendar_cycles z (start_done circuit transfer ∷ es) k = calendar_cycles z es k
calendar_cycles z (store_done node address new ∷ es) k = calendar_cycles z es k
calendar_cycles z (order_done schedule at ∷ es) k = calendar_cycles z es (calendar_event z (order_done schedule at) k)

cycles_append : (es fs : List Event) → cycles_in (es ++ fs) ≡ cycles_in es + cycles_in fs
cycles_append [] fs = omega arith
cycles_append (cycle_done ∷ es) fs = omega (arith, cycles_append es fs)
cycles_append (start_done circuit transfer ∷ es) fs = cycles_append es fs
cycles_append (store_done node address new ∷ es) fs = cycles_append es fs
cycles_append (order_done schedule at ∷ es) fs = cycles_append es fs

-- the events before a cycle
up_to_cycle : (es fs : List Event) → up_to (es ++ (cycle_done ∷ fs)) (cycles_in es) ≡ es
up_to_cycle [] fs = refl
up_to_cycle (cycle_done ∷ es) fs = ap (λ (r : List Event). cycle_done ∷ r) (up_to_cycle es fs)
up_to_cycle (start_done circuit transfer ∷ es) fs = ap (λ (r : List Event). start_done circuit transfer ∷ r) (up_to_cycle es fs)
up_to_cycle (store_done node address new ∷ es) fs = ap (λ (r : List Event). store_done node address new ∷ r) (up_to_cycle es fs)
up_to_cycle (order_done schedule at ∷ es) fs = ap (λ (r : List Event). order_done schedule at ∷ r) (up_to_cycle es fs)

-- a list of starts tells of no cycle
starts_cycles : (ts : List Listed) (s : List ℕ) → cycles_in (map start_of (carried_out s ts)) ≡ 0
starts_cycles ts s = by_starts (λ u es u'. cycles_in es ≡ 0) (λ u. refl) (λ t u u' es e rest. rest) ts s

-- the events of one call: at most one cycle, and one where it is a cycle that is carried out
own_most : (x : Call) (w : Lent) (b : Bool) → cycles_in (pick b (event_of x w) []) ≤ 1
own_most x w false = omega arith
own_most (load z) w true = omega arith
own_most (start circuit read_address write_address count kind) w true = omega arith
own_most (start_all ts answer_words) w true = omega (arith, starts_cycles ts w.state)
own_most (store node address new) w true = omega arith
own_most (ask question) w true = omega arith
own_most (order schedule period) w true = omega arith
own_most cycle w true = omega arith

own_cycle : (x : Call) (w : Lent) (b : Bool) → cycles_in (pick b (event_of x w) []) ≡ 1 → (x ≡ cycle) × (b ≡ true)
own_cycle x w false e = absurd (let z : ⊥ = omega arith in z)
own_cycle (load z) w true e = absurd (let z : ⊥ = omega arith in z)
own_cycle (start circuit read_address write_address count kind) w true e = absurd (let z : ⊥ = omega arith in z)
own_cycle (start_all ts answer_words) w true e = absurd (let z : ⊥ = omega (arith, starts_cycles ts w.state) in z)
own_cycle (store node address new) w true e = absurd (let z : ⊥ = omega arith in z)
own_cycle (ask question) w true e = absurd (let z : ⊥ = omega arith in z)
own_cycle (order schedule period) w true e = absurd (let z : ⊥ = omega arith in z)
own_cycle cycle w true e = (refl, refl)

-- the events through one call more, and through a cycle that is carried out
pub events_more : (calls : List Call) (w : Lent) (k : ℕ) → k < length calls
    → events (take (suc k) calls) w
    ≡ events (take k calls) w
    ++ pick (number (get_or calls k cycle) (after_all (take k calls) w) =? 0) (event_of (get_or calls k cycle) (after_all (take k calls) w)) []
events_more [] w k l = absurd (let z : ⊥ = omega arith in z)
events_more (x ∷ calls) w zero l = append-nil (pick (number x w =? 0) (event_of x w) [])
events_more (x ∷ calls) w (suc k) l =
    let own : List Event = pick (number x w =? 0) (event_of x w) [] in
    ap (λ (r : List Event). own ++ r) (events_more calls (after x w) k (omega arith))
    ∙ sym (append_assoc own (events (take k calls) (after x w)) _)

pub events_cycle : (calls : List Call) (w : Lent) (k : ℕ) → k < length calls → get_or calls k cycle ≡ cycle
    → number cycle (after_all (take k calls) w) ≡ 0 → events (take (suc k) calls) w ≡ events (take k calls) w ++ (cycle_done ∷ [])
events_cycle calls w k l c e =
    events_more calls w k l
    ∙ ap (λ (x : Call). events (take k calls) w ++ pick (number x (after_all (take k calls) w) =? 0) (event_of x (after_all (take k calls) w)) []) c
    ∙ ap (λ (b : Bool). events (take k calls) w ++ pick b (cycle_done ∷ []) []) (yes= e)

-- the events of the first calls, and of the others
events_split : (calls : List Call) (w : Lent) (k : ℕ)
    → events calls w ≡ events (take k calls) w ++ events (drop k calls) (after_all (take k calls) w)
events_split calls w zero = refl
events_split [] w (suc k) = refl
events_split (x ∷ calls) w (suc k) =
    let own : List Event = pick (number x w =? 0) (event_of x w) [] in
    ap (λ (r : List Event). own ++ r) (events_split calls (after x w) k)
    ∙ sym (append_assoc own (events (take k calls) (after x w)) _)

-- where a count rises by at most one a step, every number up to its last is reached
least_reached : (f : ℕ → ℕ) (n last : ℕ) → ((j : ℕ) → j < last → f (suc j) ≤ f j + 1) → (m k : ℕ) → k + m ≡ last → f k ≤ n → n ≤ f last
    → f (least_from m k (λ j. f j =? n)) ≡ n
unfolding least_from
least_reached f n last h zero k e low high = let same : k ≡ last = omega arith in omega (arith, ap f same)
least_reached f n last h (suc m) k e low high = go (f k =? n) refl (least_reached f n last h m (k + 1))
  where
    go : (b : Bool) → (f k =? n) ≡ b
        → (k + 1 + m ≡ last → f (k + 1) ≤ n → n ≤ f last → f (least_from m (k + 1) (λ j. f j =? n)) ≡ n)
        → f (least_from (suc m) k (λ j. f j =? n)) ≡ n
    go true q r = rw (q, least_from) (is= _ _ q)
    go false q r =
        let other : f k ≡ n → ⊥ = λ p. false≢true (sym q ∙ yes= p) in
        let next : k + 1 ≡ suc k = omega arith in
        rw (q, least_from) (r (omega arith) (omega (arith, other, h k (omega arith), ap f next)) high)

take_all : {A : Type 0} (xs : List A) → take (length xs) xs ≡ xs
take_all [] = refl
take_all {A} (x ∷ xs) = ap {B = List A} (λ r. x ∷ r) (take_all xs)

module _ (z : List ℕ) where
  -- the calendar before cycle 0, and from a cycle to the next: the cycle, then a stretch
  pub calendar_first : (es : List Event) (k : Calendar) → calendar_all z (up_to es 0) k ≡ calendar_all z (stretch es 0) k
  calendar_first [] k = refl
  calendar_first (cycle_done ∷ es) k = refl
  calendar_first (start_done c transfer ∷ es) k = calendar_first es k
  calendar_first (store_done node address new ∷ es) k = calendar_first es k
  calendar_first (order_done schedule at ∷ es) k = calendar_first es (calendar_event z (order_done schedule at) k)

  pub calendar_next : (es : List Event) (t : ℕ) (k : Calendar) → t < cycles_in es
      → calendar_all z (up_to es (suc t)) k ≡ calendar_all z (stretch es (suc t)) (next_calendar z (calendar_all z (up_to es t) k))
  calendar_next [] t k l = absurd (let z : ⊥ = omega arith in z)
  calendar_next (cycle_done ∷ es) zero k l = calendar_first es (next_calendar z k)
  calendar_next (cycle_done ∷ es) (suc t) k l = calendar_next es t (next_calendar z k) (omega arith)
  calendar_next (start_done c transfer ∷ es) t k l = calendar_next es t k l
  calendar_next (store_done node address new ∷ es) t k l = calendar_next es t k l
  calendar_next (order_done schedule at ∷ es) t k l = calendar_next es t (calendar_event z (order_done schedule at) k) l

module _ (z : List ℕ) (circuit : ℕ) where
  -- the reckoning over a list and one more
  pub reckon_last : (es : List Event) (e : Event) (k : Calendar) (r : Reckoned)
      → reckon_all z circuit (es ++ (e ∷ [])) k r ≡ reckon_event z circuit e (calendar_all z es k) (reckon_all z circuit es k r)
  reckon_last [] e k r = refl
  reckon_last (x ∷ es) e k r = reckon_last es e (calendar_event z x k) (reckon_event z circuit x k r)

  -- before cycle 0 there is one stretch
  pub reckon_first : (es : List Event) (k : Calendar) (r : Reckoned)
      → reckon_all z circuit (up_to es 0) k r ≡ reckon_all z circuit (stretch es 0) k r
  reckon_first [] k r = refl
  reckon_first (cycle_done ∷ es) k r = refl
  reckon_first (start_done c transfer ∷ es) k r = reckon_first es k (reckon_event z circuit (start_done c transfer) k r)
  reckon_first (store_done node address new ∷ es) k r = reckon_first es k (reckon_event z circuit (store_done node address new) k r)
  reckon_first (order_done schedule at ∷ es) k r = reckon_first es (calendar_event z (order_done schedule at) k) r

  -- from a cycle to the next: the cycle, then a stretch
  pub reckon_next : (es : List Event) (t : ℕ) (k : Calendar) (r : Reckoned) → t < cycles_in es
      → reckon_all z circuit (up_to es (suc t)) k r
      ≡ reckon_all z circuit (stretch es (suc t)) (next_calendar z (calendar_all z (up_to es t) k))
      (cycle_on z circuit (calendar_all z (up_to es t) k) (reckon_all z circuit (up_to es t) k r))
  reckon_next [] t k r l = absurd (let z : ⊥ = omega arith in z)
  reckon_next (cycle_done ∷ es) zero k r l = reckon_first es (next_calendar z k) (cycle_on z circuit k r)
  reckon_next (cycle_done ∷ es) (suc t) k r l = reckon_next es t (next_calendar z k) (cycle_on z circuit k r) (omega arith)
  reckon_next (start_done c transfer ∷ es) t k r l =
      reckon_next es t k (reckon_event z circuit (start_done c transfer) k r) l
  reckon_next (store_done node address new ∷ es) t k r l = reckon_next es t k (reckon_event z circuit (store_done node address new) k r) l
  reckon_next (order_done schedule at ∷ es) t k r l = reckon_next es t (calendar_event z (order_done schedule at) k) r l

-- cycle t of a session: the call that it is, the point directly after it, and the events before it and through it
pub record Reached (l : Session) (t : ℕ) : Type 0 where
  pub call : ℕ
  pub point : point_after l (suc t) ≡ suc call
  pub a_cycle : CycleAt l call
  pub before : events_before l call ≡ up_to (events_of l) t
  pub through : events_before l (suc call) ≡ up_to (events_of l) t ++ (cycle_done ∷ [])

module _ (l : Session) where
  pub all_events : events_before l (length l.calls) ≡ events_of l
  all_events = ap (λ (calls : List Call). events calls (after_load l)) (take_all l.calls)

  pub cycles_counted : (k : ℕ) → cycles_done l k ≡ cycles_in (events_before l k)
  cycles_counted k = omega (arith, calendar_cycles l.sheet (events_before l k) calendar_at_load)

  pub all_counted : cycles_done l (length l.calls) ≡ cycles_in (events_of l)
  all_counted = cycles_counted (length l.calls) ∙ ap cycles_in all_events

  -- what call k tells
  abbrev own : ℕ → List Event
  own k = pick (number (get_or l.calls k cycle) (standing l k) =? 0) (event_of (get_or l.calls k cycle) (standing l k)) []

  counted_more : (k : ℕ) → k < length l.calls → cycles_done l (suc k) ≡ cycles_done l k + cycles_in (own k)
  counted_more k i =
      cycles_counted (suc k) ∙ ap cycles_in (events_more l.calls (after_load l) k i) ∙ cycles_append (events_before l k) (own k)
      ∙ ap (λ (n : ℕ). n + cycles_in (own k)) (sym (cycles_counted k))

  own_at_most : (k : ℕ) → cycles_in (own k) ≤ 1
  own_at_most k = own_most (get_or l.calls k cycle) (standing l k) (number (get_or l.calls k cycle) (standing l k) =? 0)

  -- directly after n cycles, n are counted
  pub point_counted : (n : ℕ) → n ≤ cycles_done l (length l.calls) → cycles_done l (point_after l n) ≡ n
  point_counted n i =
      least_reached (cycles_done l) n (length l.calls) (λ j b. omega (arith, counted_more j b, own_at_most j)) (length l.calls) 0
      (omega arith) (omega arith) i

  pub point_inside : (n : ℕ) → point_after l n ≤ length l.calls
  point_inside n = omega (arith, least_from_most (λ k. cycles_done l k =? n) (length l.calls) 0)

  -- after no cycle that is the load
  pub point_first : point_after l 0 ≡ 0
  point_first = go (dec_lt 0 (length l.calls))
    where
      go : Dec (0 < length l.calls) → point_after l 0 ≡ 0
      go (yes i) =
          omega (arith, least_from_least (λ k. cycles_done l k =? 0) (length l.calls) 0 0 (omega arith) (omega (arith, i)) (yes= refl))
      go (no i) = omega (arith, i, point_inside 0)

  -- a call that is carried out as cycle t, with the point after it
  reached_at : (t k : ℕ) → t < cycles_done l (length l.calls) → point_after l (suc t) ≡ suc k → Reached l t
  reached_at t k i p =
      let inside : k < length l.calls = omega (arith, p, point_inside (suc t)) in
      let more = counted_more k inside in
      let total : cycles_done l (suc k) ≡ suc t = ap (cycles_done l) (sym p) ∙ point_counted (suc t) (omega arith) in
      let earlier : cycles_done l k ≡ suc t → ⊥ = λ e.
      let least = least_from_least (λ k. cycles_done l k =? suc t) (length l.calls) 0 k (omega arith) (omega (arith, inside)) (yes= e) in
      omega (arith, p, least) in
      let one : cycles_in (own k) ≡ 1 = omega (arith, more, total, earlier, own_at_most k) in
      let counted : cycles_in (events_before l k) ≡ t = omega (arith, more, total, one, cycles_counted k) in
      let told = own_cycle (get_or l.calls k cycle) (standing l k) (number (get_or l.calls k cycle) (standing l k) =? 0) one in
      let done : number cycle (standing l k) ≡ 0 = is= _ _ (ap (λ (x : Call). number x (standing l k) =? 0) (sym told.0) ∙ told.1) in
      let next = events_cycle l.calls (after_load l) k inside told.0 done in
      let rest : List Event = events (drop (suc k) l.calls) (standing l (suc k)) in
      let whole : events_of l ≡ events_before l k ++ (cycle_done ∷ rest) =
      events_split l.calls (after_load l) (suc k) ∙ ap (λ (r : List Event). r ++ rest) next
      ∙ append_assoc (events_before l k) (cycle_done ∷ []) rest in
      let before : events_before l k ≡ up_to (events_of l) t =
      sym (ap₂ up_to whole (sym counted) ∙ up_to_cycle (events_before l k) rest) in
      record {
        call = k;
        point = p;
        a_cycle = (inside, told.0, done);
        before = before;
        through = next ∙ ap (λ (r : List Event). r ++ (cycle_done ∷ [])) before;
      }

  pub reached : (t : ℕ) → t < cycles_done l (length l.calls) → Reached l t
  reached t i = go (point_after l (suc t)) refl
    where
      go : (p : ℕ) → point_after l (suc t) ≡ p → Reached l t
      go zero e =
          let none : cycles_done l 0 ≡ suc t = ap (cycles_done l) (sym e) ∙ point_counted (suc t) (omega arith) in
          absurd (omega (arith, none))
      go (suc k) e = reached_at t k i e

-- Two reckonings of a circuit that agree in what matters stay so: through its acts, through what does not concern it, through cycles.
-- Assumes nothing.
use Prim.Native.Nat.{ℕ, zero, suc, ◌+◌, ◌-◌, ◌≤◌, ◌<◌, min}
use mathlib.Core.Bool.{Bool, true, false, false≢true}
use mathlib.Core.List.{List, [], ◌∷◌, ◌++◌, flat_map}
use mathlib.Core.Path.{◌≡◌, refl, sym, ◌∙◌, ap, ap₂, subst}
use native.Mathlib.Omega.{arith}
use native.Mathlib.Nat.{le_refl}
use Rattle.words.specs.Tests.{◌and◌, ◌or◌, ◌≤?◌, ◌=?◌, any}
use Rattle.words.specs.Words.{pick}
use Rattle.words.proofs.TestLaws.{is=, yes=, no=}
use Rattle.words.proofs.AllLaws.{any_same}
use Rattle.sheet.specs.declared.circuits.Region.{Region}
use Rattle.sheet.specs.declared.circuits.Circuit.{Circuit}
use Rattle.sheet.specs.Sheet.{circuit_at, period}
use Rattle.sheet.specs.Slots.{slot_length, source_of, destination_of}
use Rattle.isolation.specs.Sessions.{Session, Transfer, Event, start_done, store_done, order_done, cycle_done}
use Rattle.isolation.specs.Calendar.{Calendar, calendar_at_load, next_calendar, calendar_event, calendar_all}
use Rattle.isolation.specs.Reckoning.{Item, none, item, Reckoned, owed, flight_cycles, reckoned_landing, last_reckoned, word_after, leaves_in}
use Rattle.isolation.specs.Reckoning.{next_item, cycle_on, start_on, store_on, reckon_event, reckon_all}
use Rattle.isolation.specs.Demand.{in_region, under_way, reckoned_busy, Act, began, read_stored, receive_stored, act_of, events_after, acts_after}
use Rattle.isolation.proofs.Reckoning.Dates.{next_cycles, next_cycle}
use Rattle.isolation.proofs.Reckoning.Points.{stretch, events_of}
use Rattle.isolation.proofs.Reckoning.UnderWay.{under_way_same}

-- two calendars agree in the cycles since the load and in the cycle within the period
pub record SameTime (k k' : Calendar) : Type 0 where
  pub same_cycles : k.cycles ≡ k'.cycles
  pub same_cycle : k.cycle ≡ k'.cycle

-- two reckonings agree in what matters to a circuit with these regions
pub record Same (m : Circuit) (r q : Reckoned) : Type 0 where
  pub same_transfer : r.transfer ≡ q.transfer
  pub same_gone : r.sent.gone ≡ q.sent.gone
  pub same_packet_words : (t : ℕ) → r.sent.packet_words t ≡ q.sent.packet_words t
  pub same_leaving : (t : ℕ) → r.sent.leaving t ≡ q.sent.leaving t
  pub same_read_words : (address : ℕ) → in_region m.read address ≡ true → r.words.read address ≡ q.words.read address
  pub same_receive_words : (address : ℕ) → in_region m.receive address ≡ true → r.words.receive address ≡ q.words.receive address

pub same_sym : {m : Circuit} {r q : Reckoned} → Same m r q → Same m q r
same_sym h = record {
  same_transfer = sym h.same_transfer;
  same_gone = sym h.same_gone;
  same_packet_words = λ t. sym (h.same_packet_words t);
  same_leaving = λ t. sym (h.same_leaving t);
  same_read_words = λ at i. sym (h.same_read_words at i);
  same_receive_words = λ at i. sym (h.same_receive_words at i);
}

pub same_trans : {m : Circuit} {r q p : Reckoned} → Same m r q → Same m q p → Same m r p
same_trans h g = record {
  same_transfer = h.same_transfer ∙ g.same_transfer;
  same_gone = h.same_gone ∙ g.same_gone;
  same_packet_words = λ t. h.same_packet_words t ∙ g.same_packet_words t;
  same_leaving = λ t. h.same_leaving t ∙ g.same_leaving t;
  same_read_words = λ at i. h.same_read_words at i ∙ g.same_read_words at i;
  same_receive_words = λ at i. h.same_receive_words at i ∙ g.same_receive_words at i;
}

-- the words changed: what a store into a region does
abbrev with_words : Reckoned → (ℕ → ℕ) → (ℕ → ℕ) → Reckoned
with_words r reads receives = record { transfer = r.transfer; sent = r.sent; words = record { read = reads; receive = receives } }

-- the circuit's acts in a stretch
abbrev pub acts_in : List ℕ → ℕ → List Event → ℕ → List Act
acts_in z circuit es t = flat_map (act_of z circuit) (stretch es t)

-- an event counts no cycle less, and past t cycles no event is after t
calendar_on : (z : List ℕ) (e : Event) (k : Calendar) → k.cycles ≤ (calendar_event z e k).cycles
calendar_on z (start_done c transfer) k = le_refl k.cycles
calendar_on z (store_done node address new) k = le_refl k.cycles
calendar_on z (order_done schedule at) k = le_refl k.cycles
calendar_on z cycle_done k = omega (arith, next_cycles z k)

none_after : (z : List ℕ) (es : List Event) (k : Calendar) (t : ℕ) → t < k.cycles → events_after z es k t ≡ []
none_after z [] k t l = refl
none_after z (e ∷ es) k t l =
    ap (λ (b : Bool). pick b (e ∷ []) [] ++ events_after z es (calendar_event z e k) t) (no= (λ q. omega arith))
    ∙ none_after z es (calendar_event z e k) t (omega (arith, calendar_on z e k))

-- the events after k.cycles + s cycles: the first of them, where s is 0, and the rest
module _ (z : List ℕ) (circuit : ℕ) (e : Event) (es : List Event) (k : Calendar) where
  abbrev rest : ℕ → List Act
  rest t = flat_map (act_of z circuit) (events_after z es (calendar_event z e k) t)

  acts_first : (t : ℕ) → k.cycles ≡ t → flat_map (act_of z circuit) (events_after z (e ∷ es) k t) ≡ act_of z circuit e ++ rest t
  unfolding flat_map
  acts_first t q =
      ap (λ (b : Bool). flat_map (act_of z circuit) (pick b (e ∷ []) [] ++ events_after z es (calendar_event z e k) t)) (yes= q)

  acts_later : (t s : ℕ) → k.cycles + suc s ≡ t → flat_map (act_of z circuit) (events_after z (e ∷ es) k t) ≡ rest t
  unfolding flat_map
  acts_later t s q =
      ap (λ (b : Bool). flat_map (act_of z circuit) (pick b (e ∷ []) [] ++ events_after z es (calendar_event z e k) t)) (no= (λ r. omega arith))

-- so the acts after t cycles are those of a stretch
acts_in_at : (z : List ℕ) (circuit : ℕ) (es : List Event) (k : Calendar) (t s : ℕ) → k.cycles + s ≡ t
    → flat_map (act_of z circuit) (events_after z es k t) ≡ acts_in z circuit es s
unfolding flat_map
acts_in_at z circuit [] k t s q = refl
acts_in_at z circuit (cycle_done ∷ es) k t zero q =
    acts_first z circuit cycle_done es k t (omega arith)
    ∙ ap (flat_map (act_of z circuit)) (none_after z es (next_calendar z k) t (omega (arith, next_cycles z k)))
acts_in_at z circuit (cycle_done ∷ es) k t (suc s) q =
    acts_later z circuit cycle_done es k t s q ∙ acts_in_at z circuit es (next_calendar z k) t s (omega (arith, next_cycles z k))
acts_in_at z circuit (start_done c transfer ∷ es) k t zero q =
    let e : Event = start_done c transfer in
    acts_first z circuit e es k t (omega arith)
    ∙ ap (λ (acts : List Act). act_of z circuit e ++ acts) (acts_in_at z circuit es k t zero q)
acts_in_at z circuit (start_done c transfer ∷ es) k t (suc s) q =
    acts_later z circuit (start_done c transfer) es k t s q ∙ acts_in_at z circuit es k t (suc s) q
acts_in_at z circuit (store_done node address new ∷ es) k t zero q =
    acts_first z circuit (store_done node address new) es k t (omega arith)
    ∙ ap (λ (acts : List Act). act_of z circuit (store_done node address new) ++ acts) (acts_in_at z circuit es k t zero q)
acts_in_at z circuit (store_done node address new ∷ es) k t (suc s) q =
    acts_later z circuit (store_done node address new) es k t s q ∙ acts_in_at z circuit es k t (suc s) q
acts_in_at z circuit (order_done schedule at ∷ es) k t zero q =
    acts_first z circuit (order_done schedule at) es k t (omega arith)
    ∙ acts_in_at z circuit es (calendar_event z (order_done schedule at) k) t zero q
acts_in_at z circuit (order_done schedule at ∷ es) k t (suc s) q =
    acts_later z circuit (order_done schedule at) es k t s q
    ∙ acts_in_at z circuit es (calendar_event z (order_done schedule at) k) t (suc s) q

pub acts_are : (l : Session) (circuit t : ℕ) → acts_after l circuit t ≡ acts_in l.sheet circuit (events_of l) t
acts_are l circuit t = acts_in_at l.sheet circuit (events_of l) calendar_at_load t t (omega arith)

-- an act, and some acts, on a reckoning: no sheet needed
abbrev pub act_on : Act → Reckoned → Reckoned
act_on (began transfer) r = start_on transfer r
act_on (read_stored address new) r = with_words r (λ at. pick (at =? address) new (r.words.read at)) r.words.receive
act_on (receive_stored address new) r = with_words r r.words.read (λ at. pick (at =? address) new (r.words.receive at))

abbrev pub act_all : List Act → Reckoned → Reckoned
act_all [] r = r
act_all (x ∷ acts) r = act_all acts (act_on x r)

act_append : (xs ys : List Act) (r : Reckoned) → act_all (xs ++ ys) r ≡ act_all ys (act_all xs r)
act_append [] ys r = refl
act_append (x ∷ xs) ys r = act_append xs ys (act_on x r)

-- a start on both
start_same : {m : Circuit} {r q : Reckoned} (transfer : Transfer) → Same m r q
    → Same m (start_on transfer r) (start_on transfer q)
start_same transfer h = record {
  same_transfer = refl;
  same_gone = refl;
  same_packet_words = h.same_packet_words;
  same_leaving = h.same_leaving;
  same_read_words = h.same_read_words;
  same_receive_words = h.same_receive_words;
}

-- other words on both
words_same : {m : Circuit} {r q : Reckoned} (reads receives reads' receives' : ℕ → ℕ) → Same m r q
    → ((address : ℕ) → in_region m.read address ≡ true → reads address ≡ reads' address)
    → ((address : ℕ) → in_region m.receive address ≡ true → receives address ≡ receives' address)
    → Same m (with_words r reads receives) (with_words q reads' receives')
words_same reads receives reads' receives' h f g = record {
  same_transfer = h.same_transfer;
  same_gone = h.same_gone;
  same_packet_words = h.same_packet_words;
  same_leaving = h.same_leaving;
  same_read_words = f;
  same_receive_words = g;
}

-- a store's word at an address of the region: it is the store's only where the store is an act
store_word : (here : Bool) (region : Region) (address new at x y : ℕ) → in_region region at ≡ true → x ≡ y
    → pick (here and at =? address) new x ≡ pick (here and in_region region address) (pick (at =? address) new y) y
unfolding ◌and◌
store_word false region address new at x y i e = e
store_word true region address new at x y i e = go (at =? address) refl
  where
    other : (b : Bool) → x ≡ pick b y y
    other true = e
    other false = e

    go : (b : Bool) → (at =? address) ≡ b → pick b new x ≡ pick (in_region region address) (pick b new y) y
    go true p =
        sym (ap (λ (b : Bool). pick b new y) (subst (λ (k : ℕ). in_region region k ≡ true) (is= at address p) i))
    go false p = other (in_region region address)

-- a store, by whether it is an act on the read region and on the receive region
store_acts : {m : Circuit} {r q : Reckoned} (reads receives : Bool) (address new : ℕ) (f g : ℕ → ℕ) → Same m r q
    → ((at : ℕ) → in_region m.read at ≡ true → f at ≡ pick reads (pick (at =? address) new (q.words.read at)) (q.words.read at))
    → ((at : ℕ) → in_region m.receive at ≡ true
    → g at ≡ pick receives (pick (at =? address) new (q.words.receive at)) (q.words.receive at))
    → Same m (with_words r f g) (act_all (pick reads (read_stored address new ∷ []) [] ++ pick receives (receive_stored address new ∷ []) []) q)
store_acts {q} true true address new f g h e i = words_same f g _ _ h e i
store_acts {q} true false address new f g h e i = words_same f g _ _ h e i
store_acts {q} false true address new f g h e i = words_same f g _ _ h e i
store_acts {q} false false address new f g h e i = words_same f g q.words.read q.words.receive h e i

module _ (z : List ℕ) (circuit : ℕ) where
  start_acts : {r q : Reckoned} (k : Calendar) (c : ℕ) (transfer : Transfer) → Same (circuit_at z circuit) r q
      → Same (circuit_at z circuit) (reckon_event z circuit (start_done c transfer) k r)
      (act_all (act_of z circuit (start_done c transfer)) q)
  start_acts {r} {q} k c transfer h = go (c =? circuit)
    where
      go : (b : Bool) → Same (circuit_at z circuit) (pick b (start_on transfer r) r)
          (act_all (pick b (began transfer ∷ []) []) q)
      go true = start_same transfer h
      go false = h

  wrote_acts : {r q : Reckoned} (node address new : ℕ) → Same (circuit_at z circuit) r q
      → Same (circuit_at z circuit) (store_on z circuit node address new r) (act_all (act_of z circuit (store_done node address new)) q)
  wrote_acts {r} {q} node address new h =
      store_acts (node =? source_of z circuit and in_region (circuit_at z circuit).read address)
      (node =? destination_of z circuit and in_region (circuit_at z circuit).receive address) address new _ _ h
      (λ at i. store_word (node =? source_of z circuit) (circuit_at z circuit).read address new at _ _ i (h.same_read_words at i))
      (λ at i. store_word (node =? destination_of z circuit) (circuit_at z circuit).receive address new at _ _ i (h.same_receive_words at i))

  -- the acts of an event, then those of the rest
  acts_on : {r : Reckoned} (xs ys : List Act) (q : Reckoned) → Same (circuit_at z circuit) r (act_all ys (act_all xs q))
      → Same (circuit_at z circuit) r (act_all (xs ++ ys) q)
  acts_on {r} xs ys q h = subst (λ (p : Reckoned). Same (circuit_at z circuit) r p) (sym (act_append xs ys q)) h

  -- a stretch without cycles does what its acts do
  pub stretch_acts : (es : List Event) (t : ℕ) (k : Calendar) (r q : Reckoned) → Same (circuit_at z circuit) r q
      → Same (circuit_at z circuit) (reckon_all z circuit (stretch es t) k r) (act_all (acts_in z circuit es t) q)
  unfolding flat_map
  stretch_acts [] t k r q h = h
  stretch_acts (cycle_done ∷ es) zero k r q h = h
  stretch_acts (cycle_done ∷ es) (suc t) k r q h = stretch_acts es t k r q h
  stretch_acts (start_done c transfer ∷ es) zero k r q h =
      acts_on (act_of z circuit (start_done c transfer)) (acts_in z circuit es zero) q
      (stretch_acts es zero k _ _ (start_acts k c transfer h))
  stretch_acts (start_done c transfer ∷ es) (suc t) k r q h = stretch_acts es (suc t) k r q h
  stretch_acts (store_done node address new ∷ es) zero k r q h =
      acts_on (act_of z circuit (store_done node address new)) (acts_in z circuit es zero) q
      (stretch_acts es zero k _ _ (wrote_acts node address new h))
  stretch_acts (store_done node address new ∷ es) (suc t) k r q h = stretch_acts es (suc t) k r q h
  stretch_acts (order_done schedule at ∷ es) zero k r q h = stretch_acts es zero (calendar_event z (order_done schedule at) k) r q h
  stretch_acts (order_done schedule at ∷ es) (suc t) k r q h = stretch_acts es (suc t) k r q h

-- a stretch without cycles changes the calendar's order alone
pub record SameDay (k k' : Calendar) : Type 0 where
  pub cycles_kept : k.cycles ≡ k'.cycles
  pub cycle_kept : k.cycle ≡ k'.cycle
  pub schedule_kept : k.schedule ≡ k'.schedule

pub stretch_kept : (z : List ℕ) (es : List Event) (t : ℕ) (k : Calendar) → SameDay (calendar_all z (stretch es t) k) k
stretch_kept z [] t k = record { cycles_kept = refl; cycle_kept = refl; schedule_kept = refl }
stretch_kept z (cycle_done ∷ es) zero k = record { cycles_kept = refl; cycle_kept = refl; schedule_kept = refl }
stretch_kept z (cycle_done ∷ es) (suc t) k = stretch_kept z es t k
stretch_kept z (start_done c transfer ∷ es) zero k = stretch_kept z es zero k
stretch_kept z (start_done c transfer ∷ es) (suc t) k = stretch_kept z es (suc t) k
stretch_kept z (store_done node address new ∷ es) zero k = stretch_kept z es zero k
stretch_kept z (store_done node address new ∷ es) (suc t) k = stretch_kept z es (suc t) k
stretch_kept z (order_done schedule at ∷ es) zero k =
    let h = stretch_kept z es zero (calendar_event z (order_done schedule at) k) in
    record { cycles_kept = h.cycles_kept; cycle_kept = h.cycle_kept; schedule_kept = h.schedule_kept }
stretch_kept z (order_done schedule at ∷ es) (suc t) k = stretch_kept z es (suc t) k

pub same_refl : {m : Circuit} (r : Reckoned) → Same m r r
same_refl r = record {
  same_transfer = refl;
  same_gone = refl;
  same_packet_words = λ t. refl;
  same_leaving = λ t. refl;
  same_read_words = λ at i. refl;
  same_receive_words = λ at i. refl;
}

leaves_same : {m : Circuit} {r q : Reckoned} {n n' : ℕ} → n ≡ n' → Same m r q → leaves_in r n ≡ leaves_in q n'
unfolding leaves_in
leaves_same {r} {q} {n} e h =
    any_same n _ (λ s. n ≤? s + q.sent.packet_words s) (λ s l. ap (λ (k : ℕ). n ≤? s + k) (h.same_packet_words s))
    ∙ ap (λ (t : ℕ). any t (λ s. t ≤? s + q.sent.packet_words s)) e

-- a function set at one place
at_same : {A : Type 0} (t : ℕ) {u u' : ℕ} {x x' y y' : A} → u ≡ u' → x ≡ x' → y ≡ y' → pick (t =? u) x y ≡ pick (t =? u') x' y'
at_same {A} t {u} {u'} {x} {x'} {y} {y'} e f g =
    ap₂ (λ (k : ℕ) (v : A). pick (t =? k) v y) e f ∙ ap (λ (v : A). pick (t =? u') x' v) g

-- what two sheets have in common for a circuit of each, in a cycle with these two calendars
pub record Sheets (z z' : List ℕ) (c d : ℕ) (k k' : Calendar) : Type 0 where
  pub same_circuit : circuit_at z c ≡ circuit_at z' d
  pub same_flight : flight_cycles z c ≡ flight_cycles z' d
  pub same_length : period z k.schedule ≡ period z' k'.schedule
  pub same_slot : (offset : ℕ) → slot_length z k.schedule offset c ≡ slot_length z' k'.schedule offset d

-- what is reckoned to land, and to have landed last
landing_same : (z z' : List ℕ) (c d : ℕ) {m : Circuit} (r q : Reckoned) (n n' : ℕ) → flight_cycles z c ≡ flight_cycles z' d → n ≡ n'
    → Same m r q → reckoned_landing z c r n ≡ reckoned_landing z' d q n'
unfolding reckoned_landing
landing_same z z' c d r q n n' f e h =
    ap₂ (λ (f t : ℕ). pick (f ≤? t) (r.sent.leaving (t - f)) none) f e
    ∙ ap (λ (i : Item). pick (flight_cycles z' d ≤? n') i none) (h.same_leaving (n' - flight_cycles z' d))

pub landed_same : (z z' : List ℕ) (c d : ℕ) {m : Circuit} (r q : Reckoned) (n n' : ℕ) → flight_cycles z c ≡ flight_cycles z' d → n ≡ n'
    → Same m r q → last_reckoned z c r n ≡ last_reckoned z' d q n'
landed_same z z' c d r q n n' f e h =
    ap₂ (λ (t : ℕ) (i : Item). pick (1 ≤? t) i none) e (landing_same z z' c d r q (n - 1) (n' - 1) f (ap (λ (t : ℕ). t - 1) e) h)

-- both are busy or neither is
pub busy_same : (z z' : List ℕ) (c d : ℕ) {m : Circuit} (r q : Reckoned) (n n' : ℕ) → flight_cycles z c ≡ flight_cycles z' d → n ≡ n'
    → Same m r q → reckoned_busy z c r n ≡ reckoned_busy z' d q n'
busy_same z z' c d r q n n' f e h =
    ap₂ (λ (x : Transfer) (g : ℕ). 1 ≤? (x.count - g) or under_way z c r n) h.same_transfer h.same_gone
    ∙ ap (λ (b : Bool). 1 ≤? owed q or b) (under_way_same z z' c d r q n n' f e h.same_leaving)

-- a cycle on both calendars
pub time_next : (z z' : List ℕ) (c d : ℕ) (k k' : Calendar) → Sheets z z' c d k k' → SameTime k k'
    → SameTime (next_calendar z k) (next_calendar z' k')
time_next z z' c d k k' s time = record {
  same_cycles = next_cycles z k ∙ ap (λ (t : ℕ). t + 1) time.same_cycles ∙ sym (next_cycles z' k');
  same_cycle =
      next_cycle z k ∙ ap₂ (λ (t p : ℕ). pick (t + 1 =? p) 0 (t + 1)) time.same_cycle s.same_length ∙ sym (next_cycle z' k');
}

module _ (z z' : List ℕ) (c d : ℕ) {m : Circuit} (k k' : Calendar) (r q : Reckoned) (s : Sheets z z' c d k k') (time : SameTime k k')
    (h : Same m r q) where
  opens_same : min (slot_length z k.schedule k.cycle c - 1) (owed r) ≡ min (slot_length z' k'.schedule k'.cycle d - 1) (owed q)
  opens_same =
      let slots = s.same_slot k.cycle ∙ ap (λ (t : ℕ). slot_length z' k'.schedule t d) time.same_cycle in
      ap₂ (λ (t o : ℕ). min (t - 1) o) slots (ap₂ (λ (x : Transfer) (g : ℕ). x.count - g) h.same_transfer h.same_gone)

  -- the next word, where its address lies in the read region
  item_same : in_region m.read (r.transfer.read_address + r.sent.gone) ≡ true → next_item r ≡ next_item q
  item_same i =
      ap (item r.transfer.kind (r.transfer.write_address + r.sent.gone))
      (h.same_read_words (r.transfer.read_address + r.sent.gone) i)
      ∙ ap₂ (λ (x : Transfer) (g : ℕ). item x.kind (x.write_address + g) (q.words.read (x.read_address + g))) h.same_transfer
      h.same_gone

  leaves : leaves_in r k.cycles ≡ leaves_in q k'.cycles
  leaves = leaves_same time.same_cycles h

  leaving_same : (leaves_in r k.cycles ≡ true → in_region m.read (r.transfer.read_address + r.sent.gone) ≡ true)
      → pick (leaves_in r k.cycles) (next_item r) none ≡ pick (leaves_in q k'.cycles) (next_item q) none
  leaving_same i = go (leaves_in r k.cycles) (leaves_in q k'.cycles) refl leaves
    where
      go : (b b' : Bool) → leaves_in r k.cycles ≡ b → b ≡ b' → pick b (next_item r) none ≡ pick b' (next_item q) none
      go true true e f = item_same (i e)
      go true false e f = absurd (false≢true (sym f))
      go false true e f = absurd (false≢true f)
      go false false e f = refl

  -- a cycle on both reckonings
  pub cycle_same : (leaves_in r k.cycles ≡ true → in_region m.read (r.transfer.read_address + r.sent.gone) ≡ true)
      → Same m (cycle_on z c k r) (cycle_on z' d k' q)
  cycle_same i = record {
    same_transfer = h.same_transfer;
    same_gone = ap₂ (λ (b : Bool) (g : ℕ). g + pick b 1 0) leaves h.same_gone;
    same_packet_words = λ t. at_same t time.same_cycles opens_same (h.same_packet_words t);
    same_leaving = λ t. at_same t time.same_cycles (leaving_same i) (h.same_leaving t);
    same_read_words = h.same_read_words;
    same_receive_words = λ at j.
        ap₂ (λ (o : Item) (w : ℕ). word_after o at w) (landing_same z z' c d r q k.cycles k'.cycles s.same_flight time.same_cycles h)
        (h.same_receive_words at j);
  }

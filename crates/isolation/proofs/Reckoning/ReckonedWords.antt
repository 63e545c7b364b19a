-- A session shows what is reckoned: along its calls one circuit's reckoning follows the lent words.
-- Assumes nothing.
use Prim.Native.Nat.{ℕ, zero, suc, ◌+◌, ◌-◌, ◌*◌, ◌≤◌, ◌<◌}
use mathlib.Core.Bool.{Bool, true, false, false≢true}
use mathlib.Core.List.{List, [], ◌∷◌, ◌++◌, map}
use mathlib.Core.Path.{◌≡◌, refl, sym, ◌∙◌, ap, ap₂, subst}
use native.Mathlib.Omega.{arith}
use native.Mathlib.Decide.{ℕ_discrete, dec_lt}
use native.Mathlib.Nat.{mul-le-mul, le_refl}
use lib.ListN.{length, take, drop, set}
use lib.Seq.{get_or-set_same, get_or-set_other}
use Rattle.words.specs.Tests.{◌and◌, ◌≤?◌, ◌=?◌}
use Rattle.words.specs.Words.{pick, word}
use Rattle.words.proofs.TestLaws.{yes=, no=, yes≤, no≤, and_both, and_no, and_no_right}
use Rattle.words.proofs.WordLaws.{row_and_place}
use Rattle.sheet.specs.Sheet.{memory_words, circuits, nodes, circuit_at}
use Rattle.sheet.specs.Slots.{source_of, destination_of}
use Rattle.sheet.specs.Rules.{verdict}
use Rattle.network.specs.View.{View, Sender}
use Rattle.network.specs.Cycle.{tick, reopens, stored_by}
use Rattle.network.specs.Registers.{reg, room, left_row, read_row, write_row, kind_row, to_go_row, row_words}
use Rattle.network.specs.Seen.{seen_sender}
use Rattle.network.proofs.RowLaws.{sender_same}
use Rattle.session.specs.declared.Transfer.{Transfer as Listed}
use Rattle.session.specs.Calls.{Lent, lend, Call, load, start, start_all, store, order, cycle, ask, as_start, is_load, number, does, after, after_all}
use Rattle.session.specs.Calls.{started, started_all, carried_out, ordered, stored}
use Rattle.session.proofs.NumberLaws.{StartPassed, start_passed, place_passed}
use Rattle.sheet.specs.Inner.Passed.{CircuitSmall}
use Rattle.soundness.proofs.SheetLaws.{SheetBounds, sheet_bounds, circuit_bounds}
use Rattle.session.proofs.RegisterLaws.{started_other, started_sender, ordered_other}
use Rattle.isolation.specs.Sessions.{Transfer, Event, start_done, start_of, cycle_done, event_of, events}
use Rattle.isolation.specs.Calendar.{Calendar, next_calendar, calendar_event, calendar_all}
use Rattle.isolation.specs.Reckoning.{Item, none, Reckoned, reckoned_landing, last_reckoned, cycle_on, start_on, store_on, reckon_event, reckon_all, word_after, flight_cycles}
use Rattle.isolation.specs.Demand.{in_region}
use Rattle.isolation.proofs.Routes.SheetWays.{ways_of}
use Rattle.isolation.proofs.Flights.Trajectory.{Trajectory}
use Rattle.isolation.proofs.Flights.Send.{none_reopens}
use Rattle.isolation.proofs.Flights.Deliver.{leaving_now}
use Rattle.isolation.proofs.Reckoning.Dates.{next_cycles, cycles_kept, calendar_append, Point, machine_here, cycle_done_is, cycle_point, point_next}
use Rattle.isolation.proofs.Reckoning.Landed.{landing_kept}
use Rattle.isolation.proofs.Reckoning.SenderFollowed.{Sends, Follows, sends_cycle, sends_start, sends_same, sends_store, item_of, leaving_is, leaving_before}
use Rattle.isolation.proofs.Reckoning.Regions.{in_high, in_region_when, item_in, stored_inside, sent_before, lands_inside, read_kept}
use Rattle.session.proofs.WritingLaws.{after_done, after_refused}
use Rattle.isolation.proofs.Reckoning.Stream.{is_cycle, seen, Fine, fine_parts, fine_does, fine_bounds, a_cycle, cycle_seen, fine_cycle}
use Rattle.isolation.proofs.Reckoning.Starts.{by_starts}

-- the memory word at a node's address
abbrev pub word_at : List ℕ → List ℕ → ℕ → ℕ → ℕ
word_at z memory node address = word memory (node * memory_words z + address)

-- the transfer that a start gives
abbrev transfer_of : ℕ → ℕ → ℕ → ℕ → Transfer
transfer_of read_address write_address count kind =
    record { read_address = read_address; write_address = write_address; count = count; kind = kind }

-- after n cycles a circuit's reckoning shows the lent words: its sender, the words of its regions
pub record Now (z : List ℕ) (circuit : ℕ) (w : Lent) (n : ℕ) (r : Reckoned) : Type 0 where
  pub sending : Sends n r ((seen w).sender circuit)
  pub reads : (address : ℕ) → in_region (circuit_at z circuit).read address ≡ true
      → r.words.read address ≡ word_at z w.memory (source_of z circuit) address
  pub receives : (address : ℕ) → in_region (circuit_at z circuit).receive address ≡ true
      → r.words.receive address ≡ word_at z w.memory (destination_of z circuit) address

-- the memory in the words, read as the machine's
pub seen_memory : (z : List ℕ) (w : Lent) → Fine z w → (node address : ℕ)
    → (seen w).memory node address ≡ word_at z w.memory node address
seen_memory z w f node address = ap (λ (y : List ℕ). word w.memory (node * memory_words y + address)) f.sheet_is

-- the words of a region's node after a store there or elsewhere
store_word : (m : List ℕ) (room node address new at x : ℕ) → address < room → x < room → node * room + address < length m
    → pick (node =? at and x =? address) new (word m (at * room + x)) ≡ word (set m (node * room + address) new) (at * room + x)
store_word m room node address new at x p q l = go (ℕ_discrete (node * room + address) (at * room + x))
  where
    go : Dec (node * room + address ≡ at * room + x)
        → pick (node =? at and x =? address) new (word m (at * room + x)) ≡ word (set m (node * room + address) new) (at * room + x)
    go (yes e) =
        let both = row_and_place room node at address x p q e in
        rw (and_both (yes= both.0) (yes= (sym both.1)))
        (sym (ap (λ (k : ℕ). word (set m (node * room + address) new) k) (sym e) ∙ get_or-set_same m (node * room + address) new 0 l))
    go (no ne) =
        rw (other (ℕ_discrete node at))
        (sym (get_or-set_other m (node * room + address) (at * room + x) new 0 (λ e. ne (sym e))))
      where
        other : Dec (node ≡ at) → (node =? at and x =? address) ≡ false
        other (yes e) = and_no_right _ _ (no= (λ q. ne (ap₂ (λ (a b : ℕ). a * room + b) e (sym q))))
        other (no n) = sym (and_no _ (no= n))

module _ (z : List ℕ) (circuit : ℕ) (inside : circuit < circuits z) where
  module _ (w : Lent) (f : Fine z w) (n : ℕ) (k : Calendar) (r : Reckoned) (now : Now z circuit w n r) where
    abbrev s : List ℕ
    s = w.state

    bounds : SheetBounds z
    bounds = fine_bounds z w f

    -- a start, on this circuit or another
    pub start_now : (c read_address write_address count kind : ℕ) → number (start c read_address write_address count kind) w ≡ 0
        → Now z circuit (does (start c read_address write_address count kind) w) n
        (reckon_event z circuit (start_done c (transfer_of read_address write_address count kind)) k r)
    start_now c read_address write_address count kind e = go (ℕ_discrete c circuit)
      where
        p : StartPassed s c read_address write_address count kind
        p = start_passed s c read_address write_address count kind e

        few : c < row_words
        few = omega (arith, p.circuit_inside, bounds.few_circuits, ap circuits f.sheet_is)

        go : Dec (c ≡ circuit) → Now z circuit (does (start c read_address write_address count kind) w) n
            (pick (c =? circuit) (start_on (transfer_of read_address write_address count kind) r) r)
        go (yes q) =
            let sender : seen_sender (started s c read_address write_address count kind) circuit
            ≡ record { left = count; read_address = read_address; write_address = write_address; kind = kind; to_go = reg s to_go_row circuit } =
            subst
            (λ (d : ℕ). seen_sender (started s c read_address write_address count kind) d
            ≡ record { left = count; read_address = read_address; write_address = write_address; kind = kind; to_go = reg s to_go_row d }) q
            (started_sender s c read_address write_address count kind few (omega (arith, f.long))) in
            subst (λ (b : Bool). Now z circuit (does (start c read_address write_address count kind) w) n
            (pick b (start_on (transfer_of read_address write_address count kind) r) r)) (sym (yes= q))
            (record {
              sending =
                  sends_start n (transfer_of read_address write_address count kind) r ((seen w).sender circuit) _ now.sending
                  (ap (λ (x : Sender). x.to_go) sender) (ap (λ (x : Sender). x.left) sender)
                  (ap (λ (x : Sender). x.read_address) sender) (ap (λ (x : Sender). x.write_address) sender)
                  (ap (λ (x : Sender). x.kind) sender);
              reads = now.reads;
              receives = now.receives;
            })
        go (no ne) =
            let same : (row : ℕ) → reg (started s c read_address write_address count kind) row circuit ≡ reg s row circuit =
            λ row. started_other s c read_address write_address count kind few row circuit (omega (arith, bounds.few_circuits))
            (λ low high q. ne (sym q)) in
            subst (λ (b : Bool). Now z circuit (does (start c read_address write_address count kind) w) n
            (pick b (start_on (transfer_of read_address write_address count kind) r) r)) (sym (no= ne))
            (record {
              sending =
                  sends_same n r ((seen w).sender circuit) _ now.sending
                  (sender_same _ _ (same left_row) (same read_row) (same write_row) (same kind_row) (same to_go_row));
              reads = now.reads;
              receives = now.receives;
            })

    -- an order
    order_now : (schedule period : ℕ) → number (order schedule period) w ≡ 0
        → Now z circuit (does (order schedule period) w) n r
    order_now schedule period e =
        let other = ordered_other s schedule period in
        let same : (row : ℕ) → 1 ≤ row → reg (ordered s schedule period) row circuit ≡ reg s row circuit =
        λ row low. other row circuit (omega (arith, bounds.few_circuits)) (λ q. absurd (omega arith)) in
        record {
          sending =
              sends_same n r ((seen w).sender circuit) _ now.sending
              (sender_same _ _ (same left_row (omega arith)) (same read_row (omega arith)) (same write_row (omega arith))
              (same kind_row (omega arith)) (same to_go_row (omega arith)));
          reads = now.reads;
          receives = now.receives;
        }

    -- a store
    store_now : (node address new : ℕ) → number (store node address new) w ≡ 0
        → Now z circuit (does (store node address new) w) n (store_on z circuit node address new r)
    unfolding stored
    store_now node address new e =
        let p = place_passed s w.memory node address e in
        let small = circuit_bounds z bounds circuit inside in
        let here : address < memory_words z = omega (arith, p.address_inside, ap memory_words f.sheet_is) in
        let there : node < nodes z = omega (arith, p.node_inside, ap nodes f.sheet_is) in
        let most : suc node * memory_words z ≤ nodes z * memory_words z = mul-le-mul there (le_refl (memory_words z)) in
        let fits : node * memory_words z + address < length w.memory = omega (arith, f.whole) in
        let place : node * room s + address ≡ node * memory_words z + address =
        ap (λ (y : List ℕ). node * memory_words y + address) f.sheet_is in
        record {
          sending = sends_store z circuit n node address new r ((seen w).sender circuit) now.sending;
          reads = λ at i.
              ap (pick (node =? source_of z circuit and at =? address) new) (now.reads at i)
              ∙ store_word w.memory (memory_words z) node address new (source_of z circuit) at here
              (omega (arith, in_high (circuit_at z circuit).read at i, small.read_ends)) fits
              ∙ ap (λ (p : ℕ). word (set w.memory p new) (source_of z circuit * memory_words z + at)) (sym place);
          receives = λ at i.
              ap (pick (node =? destination_of z circuit and at =? address) new) (now.receives at i)
              ∙ store_word w.memory (memory_words z) node address new (destination_of z circuit) at here
              (omega (arith, in_high (circuit_at z circuit).receive at i, small.receive_ends)) fits
              ∙ ap (λ (p : ℕ). word (set w.memory p new) (destination_of z circuit * memory_words z + at)) (sym place);
        }

  -- a list of starts, one after another
  list_now : (w : Lent) → Fine z w → (n : ℕ) (k : Calendar) (r : Reckoned) → Now z circuit w n r → (ts : List Listed)
      → Now z circuit (lend (started_all w.state ts) w.memory) n (reckon_all z circuit (map start_of (carried_out w.state ts)) k r)
  list_now w f n k r now ts =
      by_starts
      (λ s es s'. Fine z (lend s w.memory) → (q : Reckoned) → Now z circuit (lend s w.memory) n q
      → Now z circuit (lend s' w.memory) n (reckon_all z circuit es k q))
      (λ s g q here. here)
      (λ t s s' es e rest g q here.
      let u : Lent = lend s w.memory in
      rest (fine_does z (as_start t) u refl e g) (reckon_event z circuit (start_of t) k q)
      (start_now u g n k q here t.circuit t.read t.write t.count t.kind e))
      ts w.state f r now

  module _ (w : Lent) (f : Fine z w) (n : ℕ) (k : Calendar) (r : Reckoned) (now : Now z circuit w n r) where
    -- any call but a cycle, carried out
    does_now : (x : Call) → is_load x ≡ false → is_cycle x ≡ false → number x w ≡ 0
        → Now z circuit (does x w) n (reckon_all z circuit (event_of x w) k r)
    does_now (load y) l c e = absurd (false≢true (sym l))
    does_now (start c read_address write_address count kind) l q e = start_now w f n k r now c read_address write_address count kind e
    does_now (start_all ts answer_words) l c e = list_now w f n k r now ts
    does_now (store node address new) l c e = store_now w f n k r now node address new e
    does_now (ask question) l c e = now
    does_now (order schedule period) l c e = order_now w f n k r now schedule period e
    does_now cycle l c e = absurd (false≢true (sym c))

-- a call that is no cycle leaves what left
pub start_leaving : (circuit d : ℕ) (transfer : Transfer) (r : Reckoned) (t : ℕ)
    → (pick (d =? circuit) (start_on transfer r) r).sent.leaving t ≡ r.sent.leaving t
start_leaving circuit d transfer r t = go (d =? circuit)
  where
    go : (b : Bool) → (pick b (start_on transfer r) r).sent.leaving t ≡ r.sent.leaving t
    go true = refl
    go false = refl

leaving_same : (z : List ℕ) (circuit : ℕ) (x : Call) (w : Lent) (k : Calendar) (r : Reckoned) → is_cycle x ≡ false → (t : ℕ)
    → (reckon_all z circuit (event_of x w) k r).sent.leaving t ≡ r.sent.leaving t
leaving_same z circuit (load y) w k r c t = refl
leaving_same z circuit (start d read_address write_address count kind) w k r c t =
    start_leaving circuit d (transfer_of read_address write_address count kind) r t
leaving_same z circuit (start_all ts answer_words) w k r c t =
    by_starts (λ s es s'. (q : Reckoned) → (reckon_all z circuit es k q).sent.leaving t ≡ q.sent.leaving t) (λ s q. refl)
    (λ u s s' es e rest q.
    rest (reckon_event z circuit (start_of u) k q)
    ∙ start_leaving circuit u.circuit (transfer_of u.read u.write u.count u.kind) q t)
    ts w.state r
leaving_same z circuit (store node address new) w k r c t = refl
leaving_same z circuit (ask question) w k r c t = refl
leaving_same z circuit (order schedule period) w k r c t = refl
leaving_same z circuit cycle w k r c t = absurd (false≢true (sym c))

-- events one after another
reckon_append : (z : List ℕ) (circuit : ℕ) (es fs : List Event) (k : Calendar) (r : Reckoned)
    → reckon_all z circuit (es ++ fs) k r ≡ reckon_all z circuit fs (calendar_all z es k) (reckon_all z circuit es k r)
reckon_append z circuit [] fs k r = refl
reckon_append z circuit (e ∷ es) fs k r = reckon_append z circuit es fs (calendar_event z e k) (reckon_event z circuit e k r)

-- what is reckoned to have landed last stays where what left stays
last_landed_same : (z : List ℕ) (circuit : ℕ) (r q : Reckoned) (n : ℕ) → ((t : ℕ) → t < n → q.sent.leaving t ≡ r.sent.leaving t)
    → last_reckoned z circuit q n ≡ last_reckoned z circuit r n
unfolding reckoned_landing
last_landed_same z circuit r q n h = go (dec_lt 0 n) (dec_lt (n - 1) (flight_cycles z circuit))
  where
    go : Dec (0 < n) → Dec (n - 1 < flight_cycles z circuit) → last_reckoned z circuit q n ≡ last_reckoned z circuit r n
    go (no l) d = rw (no≤ {a = 1} {b = n} (omega (arith, l))) refl
    go (yes l) (yes m) = rw (no≤ m) refl
    go (yes l) (no m) =
        ap (λ (x : Item). pick (1 ≤? n) (pick (flight_cycles z circuit ≤? n - 1) x none) none) (h (n - 1 - flight_cycles z circuit) (omega arith))

-- a point of a session for a circuit: the calls that are left, the lent words, and calendar and reckoning so far; S is the machine before
-- each cycle
pub record At (z : List ℕ) (circuit : ℕ) (S : ℕ → View) (calls : List Call) (w : Lent) (k : Calendar) (r : Reckoned) : Type 0 where
  pub point : Point z S calls w k
  pub left_then : (t : ℕ) → t < k.cycles → r.sent.leaving t ≡ item_of (leaving_now z (S t) circuit)
  pub now : Now z circuit w k.cycles r
  pub last : item_in (circuit_at z circuit).receive ((seen w).landing (destination_of z circuit)) ≡ last_reckoned z circuit r k.cycles

module _ (z : List ℕ) (passes : verdict z ≡ 0) (circuit : ℕ) (inside : circuit < circuits z) (S : ℕ → View) (J : Trajectory z S) where
  small : CircuitSmall (nodes z) (memory_words z) (circuit_at z circuit)
  small = circuit_bounds z (sheet_bounds z passes) circuit inside

  module _ (calls : List Call) (w : Lent) (k : Calendar) (r : Reckoned) (a : At z circuit S (cycle ∷ calls) w k r) where
    f : Fine z w
    f = a.point.fine

    here : S k.cycles ≡ seen w
    here = machine_here z passes S J calls w k a.point

    followed : Follows z circuit k r (seen w)
    followed = record {
      dated = a.point.dated;
      sending = a.now.sending;
      transfer = (fine_parts z w f).transfers circuit inside;
      calm =
          subst (λ (v : View). reopens z v circuit ≡ false) here
          (none_reopens z (sheet_bounds z passes) (ways_of z passes) S J k.cycles circuit inside);
    }

    -- what is reckoned to land in this cycle
    landing_reckoned : reckoned_landing z circuit r k.cycles ≡ sent_before z passes S J circuit inside k.cycles
    unfolding reckoned_landing
    landing_reckoned = go (dec_lt k.cycles (flight_cycles z circuit))
      where
        go : Dec (k.cycles < flight_cycles z circuit)
            → pick (flight_cycles z circuit ≤? k.cycles) (r.sent.leaving (k.cycles - flight_cycles z circuit)) none
            ≡ sent_before z passes S J circuit inside k.cycles
        go (yes l) = rw (no≤ l) refl
        go (no l) =
            let late : flight_cycles z circuit ≤ k.cycles = omega (arith, l) in
            ap (λ (x : Item). pick (flight_cycles z circuit ≤? k.cycles) x none)
            (a.left_then (k.cycles - flight_cycles z circuit) (omega arith))

    -- what lands in the receive region
    landing_here : item_in (circuit_at z circuit).receive ((tick z (seen w)).landing (destination_of z circuit))
        ≡ reckoned_landing z circuit r k.cycles
    landing_here =
        subst (λ (v : View). item_in (circuit_at z circuit).receive ((tick z v).landing (destination_of z circuit))
        ≡ sent_before z passes S J circuit inside k.cycles) here
        (lands_inside z passes S J circuit inside k.cycles)
        ∙ sym landing_reckoned

    -- the word that leaves next is the machine's
    word_here : 0 < ((seen w).sender circuit).to_go
        → r.words.read (r.transfer.read_address + r.sent.gone)
        ≡ (seen w).memory (source_of z circuit) ((seen w).sender circuit).read_address
    word_here going =
        let t = (fine_parts z w f).transfers circuit inside in
        let some : 0 < ((seen w).sender circuit).left = omega (arith, t.to_go_at) in
        let same = a.now.sending.read_at some in
        let lies = t.reads some in
        let i : in_region (circuit_at z circuit).read ((seen w).sender circuit).read_address ≡ true =
        in_region_when (circuit_at z circuit).read ((seen w).sender circuit).read_address lies.low (omega (arith, lies.high)) in
        ap r.words.read same ∙ a.now.reads _ i ∙ sym (seen_memory z w f (source_of z circuit) _)

    cycle_now : Now z circuit (does cycle w) (next_calendar z k).cycles (cycle_on z circuit k r)
    cycle_now =
        let agree = cycle_seen z w f in
        let fine = fine_cycle z w f in
        record {
          sending =
              sends_same _ _ ((tick z (seen w)).sender circuit) _ (sends_cycle z circuit k r (seen w) followed) (agree.sender circuit inside);
          reads = λ address i.
              let after_is = agree.memory (source_of z circuit) address small.source_inside
              (omega (arith, in_high (circuit_at z circuit).read address i, small.read_ends)) in
              let kept : stored_by ((tick z (seen w)).landing (source_of z circuit)) address ((seen w).memory (source_of z circuit) address)
              ≡ (seen w).memory (source_of z circuit) address =
              subst (λ (v : View). stored_by ((tick z v).landing (source_of z circuit)) address ((seen w).memory (source_of z circuit) address)
              ≡ (seen w).memory (source_of z circuit) address) here
              (read_kept z passes S J circuit inside k.cycles address ((seen w).memory (source_of z circuit) address) i) in
              a.now.reads address i ∙ sym (seen_memory z w f (source_of z circuit) address) ∙ sym kept ∙ sym after_is
              ∙ seen_memory z (does cycle w) fine (source_of z circuit) address;
          receives = λ address i.
              let after_is = agree.memory (destination_of z circuit) address small.destination_inside
              (omega (arith, in_high (circuit_at z circuit).receive address i, small.receive_ends)) in
              ap₂ (λ (x : Item) (y : ℕ). word_after x address y) (sym landing_here)
              (a.now.receives address i ∙ sym (seen_memory z w f (destination_of z circuit) address))
              ∙ stored_inside (circuit_at z circuit).receive ((tick z (seen w)).landing (destination_of z circuit)) address
              ((seen w).memory (destination_of z circuit) address) i
              ∙ sym after_is
              ∙ seen_memory z (does cycle w) fine (destination_of z circuit) address;
        }

    cycle_left : (t : ℕ) → t < (next_calendar z k).cycles → (cycle_on z circuit k r).sent.leaving t ≡ item_of (leaving_now z (S t) circuit)
    cycle_left t l = go (ℕ_discrete t k.cycles)
      where
        go : Dec (t ≡ k.cycles) → (cycle_on z circuit k r).sent.leaving t ≡ item_of (leaving_now z (S t) circuit)
        go (yes e) =
            ap (cycle_on z circuit k r).sent.leaving e ∙ leaving_is z circuit k r (seen w) followed word_here
            ∙ ap (λ (v : View). item_of (leaving_now z v circuit)) (sym here)
            ∙ ap (λ (n : ℕ). item_of (leaving_now z (S n) circuit)) (sym e)
        go (no ne) =
            let earlier : t < k.cycles = omega (arith, ne, next_cycles z k) in
            leaving_before z circuit k r t earlier ∙ a.left_then t earlier

    -- what landed in this cycle, as the reckoning has it afterwards: it left before
    landing_after : reckoned_landing z circuit (cycle_on z circuit k r) k.cycles ≡ reckoned_landing z circuit r k.cycles
    unfolding reckoned_landing
    landing_after = go (dec_lt k.cycles (flight_cycles z circuit))
      where
        go : Dec (k.cycles < flight_cycles z circuit)
            → pick (flight_cycles z circuit ≤? k.cycles) ((cycle_on z circuit k r).sent.leaving (k.cycles - flight_cycles z circuit)) none
            ≡ pick (flight_cycles z circuit ≤? k.cycles) (r.sent.leaving (k.cycles - flight_cycles z circuit)) none
        go (yes l) = rw (no≤ l) refl
        go (no l) =
            ap (λ (x : Item). pick (flight_cycles z circuit ≤? k.cycles) x none)
            (leaving_before z circuit k r (k.cycles - flight_cycles z circuit) (omega arith))

    cycle_last : item_in (circuit_at z circuit).receive ((seen (does cycle w)).landing (destination_of z circuit))
        ≡ last_reckoned z circuit (cycle_on z circuit k r) (next_calendar z k).cycles
    cycle_last =
        let counted : last_reckoned z circuit (cycle_on z circuit k r) (k.cycles + 1) ≡ reckoned_landing z circuit (cycle_on z circuit k r) k.cycles =
        rw (yes≤ {a = 1} {b = k.cycles + 1} (omega arith))
        (ap (reckoned_landing z circuit (cycle_on z circuit k r)) (let e : k.cycles + 1 - 1 ≡ k.cycles = omega arith in e)) in
        ap (item_in (circuit_at z circuit).receive) ((cycle_seen z w f).landing (destination_of z circuit) small.destination_inside)
        ∙ landing_here ∙ sym landing_after ∙ sym counted
        ∙ ap (last_reckoned z circuit (cycle_on z circuit k r)) (sym (next_cycles z k))

  -- a call that is no cycle
  call_at : (x : Call) (calls : List Call) (w : Lent) (k : Calendar) (r : Reckoned) → is_cycle x ≡ false → At z circuit S (x ∷ calls) w k r
      → At z circuit S calls (after x w) (calendar_all z (pick (number x w =? 0) (event_of x w) []) k)
      (reckon_all z circuit (pick (number x w =? 0) (event_of x w) []) k r)
  call_at x calls w k r c a = go (ℕ_discrete (number x w) 0)
    where
      f : Fine z w
      f = a.point.fine

      kept : item_in (circuit_at z circuit).receive ((seen (after x w)).landing (destination_of z circuit)) ≡ last_reckoned z circuit r k.cycles
      kept =
          ap (item_in (circuit_at z circuit).receive)
          (landing_kept z w f (destination_of z circuit) small.destination_inside x a.point.refused.0 c)
          ∙ a.last

      load_no : number x w ≡ 0 → (b : Bool) → is_load x ≡ b → b ≡ false
      load_no e true q = absurd (a.point.refused.0 q e)
      load_no e false q = refl

      next : Point z S calls (after x w) (calendar_all z (pick (number x w =? 0) (event_of x w) []) k)
      next = point_next z passes S J x calls w k a.point

      done : number x w ≡ 0 → Point z S calls (after x w) (calendar_all z (event_of x w) k)
          → At z circuit S calls (after x w) (calendar_all z (event_of x w) k) (reckon_all z circuit (event_of x w) k r)
      done e p =
          let same = cycles_kept z x w k c in
          record {
            point = p;
            left_then = λ t l. leaving_same z circuit x w k r c t ∙ a.left_then t (omega (arith, same));
            now =
                subst (λ (n : ℕ). Now z circuit (after x w) n (reckon_all z circuit (event_of x w) k r)) (sym same)
                (subst (λ (y : Lent). Now z circuit y k.cycles (reckon_all z circuit (event_of x w) k r)) (sym (after_done x w e))
                (does_now z circuit inside w f k.cycles k r a.now x (load_no e (is_load x) refl) c e));
            last =
                kept ∙ sym (last_landed_same z circuit r (reckon_all z circuit (event_of x w) k r) k.cycles (λ t l. leaving_same z circuit x w k r c t))
                ∙ ap (last_reckoned z circuit (reckon_all z circuit (event_of x w) k r)) (sym same);
          }

      go : Dec (number x w ≡ 0) → At z circuit S calls (after x w) (calendar_all z (pick (number x w =? 0) (event_of x w) []) k)
          (reckon_all z circuit (pick (number x w =? 0) (event_of x w) []) k r)
      go (yes e) =
          subst (λ (b : Bool). Point z S calls (after x w) (calendar_all z (pick b (event_of x w) []) k)
          → At z circuit S calls (after x w) (calendar_all z (pick b (event_of x w) []) k) (reckon_all z circuit (pick b (event_of x w) []) k r))
          (sym (yes= e)) (done e) next
      go (no ne) =
          subst (λ (b : Bool). Point z S calls (after x w) (calendar_all z (pick b (event_of x w) []) k)
          → At z circuit S calls (after x w) (calendar_all z (pick b (event_of x w) []) k) (reckon_all z circuit (pick b (event_of x w) []) k r))
          (sym (no= ne))
          (λ p. record {
            point = p;
            left_then = a.left_then;
            now = subst (λ (y : Lent). Now z circuit y k.cycles r) (sym (after_refused x w ne)) a.now;
            last = kept;
          })
          next

  -- any call
  step_at : (x : Call) (calls : List Call) (w : Lent) (k : Calendar) (r : Reckoned) → At z circuit S (x ∷ calls) w k r
      → At z circuit S calls (after x w) (calendar_all z (pick (number x w =? 0) (event_of x w) []) k)
      (reckon_all z circuit (pick (number x w =? 0) (event_of x w) []) k r)
  step_at x calls w k r a = go (is_cycle x) refl
    where
      go : (b : Bool) → is_cycle x ≡ b
          → At z circuit S calls (after x w) (calendar_all z (pick (number x w =? 0) (event_of x w) []) k)
          (reckon_all z circuit (pick (number x w =? 0) (event_of x w) []) k r)
      go false c = call_at x calls w k r c a
      go true c =
          let a' : At z circuit S (cycle ∷ calls) w k r = subst (λ (y : Call). At z circuit S (y ∷ calls) w k r) (a_cycle x c) a in
          let done = cycle_done_is z passes S J calls w k a'.point in
          subst (λ (y : Call). At z circuit S calls (after y w) (calendar_all z (pick (number y w =? 0) (event_of y w) []) k)
          (reckon_all z circuit (pick (number y w =? 0) (event_of y w) []) k r))
          (sym (a_cycle x c))
          (subst (λ (b : Bool). At z circuit S calls (after cycle w) (calendar_all z (pick b (cycle_done ∷ []) []) k)
          (reckon_all z circuit (pick b (cycle_done ∷ []) []) k r)) (sym (yes= done))
          (subst (λ (y : Lent). At z circuit S calls y (next_calendar z k) (cycle_on z circuit k r)) (sym (after_done cycle w done))
          (record {
            point = cycle_point z passes S J calls w k a'.point;
            left_then = cycle_left calls w k r a';
            now = cycle_now calls w k r a';
            last = cycle_last calls w k r a';
          })))

  -- every point of the calls
  pub points : (n : ℕ) (calls : List Call) (w : Lent) (k : Calendar) (r : Reckoned) → At z circuit S calls w k r
      → At z circuit S (drop n calls) (after_all (take n calls) w) (calendar_all z (events (take n calls) w) k)
      (reckon_all z circuit (events (take n calls) w) k r)
  points zero calls w k r a = a
  points (suc n) [] w k r a = a
  points (suc n) (x ∷ calls) w k r a =
      let own : List Event = pick (number x w =? 0) (event_of x w) [] in
      let later : List Event = events (take n calls) (after x w) in
      subst (λ (d : Calendar). At z circuit S (drop n calls) (after_all (take n calls) (after x w)) d (reckon_all z circuit (own ++ later) k r))
      (sym (calendar_append z own later k))
      (subst (At z circuit S (drop n calls) (after_all (take n calls) (after x w)) (calendar_all z later (calendar_all z own k)))
      (sym (reckon_append z circuit own later k r))
      (points n calls (after x w) _ _ (step_at x calls w k r a)))

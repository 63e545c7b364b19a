-- A session as a trajectory: its words directly before each cycle, with idle cycles behind the end of its list.
-- Assumes nothing.
use Prim.Native.Nat.{ℕ, zero, suc, ◌*◌, ◌≤◌, ◌<◌}
use mathlib.Core.Bool.{Bool, true, false, false≢true}
use mathlib.Core.List.{List, [], ◌∷◌}
use mathlib.Core.Path.{◌≡◌, refl, sym, ◌∙◌, ap, ap₂, subst}
use native.Mathlib.Omega.{arith}
use native.Mathlib.Decide.{ℕ_discrete}
use lib.ListN.{length}
use Rattle.words.specs.Tests.{◌=?◌}
use Rattle.words.specs.Words.{pick}
use Rattle.words.proofs.TestLaws.{is=}
use Rattle.sheet.specs.Sheet.{meant, memory_words, circuits, schedules, nodes, circuit_at}
use Rattle.sheet.specs.Rules.{verdict}
use Rattle.network.specs.View.{View, empty, Receiver, Order, no_order, pending, ports}
use Rattle.network.specs.Cycle.{tick, faulty}
use Rattle.network.specs.Registers.{reg, sheet_in, state_words, clock_row, cycle_place, number_place, in_force_place, order_mark_place, order_schedule_place, row_count, row_words}
use Rattle.network.specs.Registers.{order_period_place, link_mark, link_word, head_mark, head_word, choice_row, latch_row, out_mark, out_word, extra_mark, extra_word, receive_mark}
use Rattle.network.specs.Registers.{receive_kind, receive_address, left_row, read_row, write_row, kind_row, to_go_row, at}
use Rattle.network.specs.Seen.{seen_sender, seen_cell, seen_choice, marked, view, Agree}
use Rattle.network.proofs.RowLaws.{sheet_kept, sender_same}
use Rattle.network.proofs.StepLaws.{state_length, memory_length}
use Rattle.network.proofs.ViewLaws.{cycle_agrees}
use Rattle.network.proofs.FaultLaws.{faulty_is}
use Rattle.soundness.specs.Sound.{sound}
use Rattle.session.specs.declared.Transfer.{Transfer as Listed}
use Rattle.session.specs.Calls.{Lent, lend, Call, load, start, start_all, store, order, cycle, is_load, number, does, after, ask, as_start}
use Rattle.session.specs.Calls.{started, started_all, ordered, stored}
use Rattle.session.proofs.NumberLaws.{start_passed, order_passed, load_passed, cycle_zero}
use Rattle.soundness.proofs.SheetLaws.{SheetBounds, sheet_bounds}
use Rattle.soundness.proofs.SoundLaws.{TransferParts, SoundParts, sound_parts}
use Rattle.session.proofs.WritingLaws.{after_done, after_refused}
use Rattle.session.proofs.RegisterLaws.{loaded_sheet, loaded_register, started_other, ordered_other, ordered_mark, ordered_schedule, ordered_period}
use Rattle.session.proofs.ListLaws.{all_has}
use Rattle.session.proofs.KeptLaws.{sound_next, sound_kept, state_length_kept, memory_length_kept, sheet_same}
use Rattle.isolation.proofs.Flights.Trajectory.{OrderInside, Between, between_agree, between_then, Trajectory}
use Rattle.isolation.specs.Sessions.{LoadsRefused, Session, after_load}

-- the machine in lent words
abbrev pub seen : Lent → View
seen w = view w.state w.memory

-- lent words of a session on the sheet z
pub record Fine (z : List ℕ) (w : Lent) : Type 0 where
  pub long : state_words ≤ length w.state
  pub is_sound : sound w.state ≡ true
  pub sheet_is : sheet_in w.state ≡ z
  pub whole : length w.memory ≡ nodes z * memory_words z

pub fine_parts : (z : List ℕ) (w : Lent) → Fine z w → SoundParts z w.state
fine_parts z w f = subst (λ y. SoundParts y w.state) f.sheet_is (sound_parts w.state f.is_sound)

pub fine_bounds : (z : List ℕ) (w : Lent) → Fine z w → SheetBounds z
fine_bounds z w f = sheet_bounds z (fine_parts z w f).sheet_passes

-- a call that is carried out and is no load
pub fine_does : (z : List ℕ) (x : Call) (w : Lent) → is_load x ≡ false → number x w ≡ 0 → Fine z w → Fine z (does x w)
fine_does z x w no-load e f = record {
  long = omega (arith, f.long, state_length_kept x w e);
  is_sound = sound_kept x w e;
  sheet_is = sheet_same x w no-load e ∙ f.sheet_is;
  whole = memory_length_kept x w ∙ f.whole;
}

-- a cycle, whether it would be refused or not
pub fine_cycle : (z : List ℕ) (w : Lent) → Fine z w → Fine z (does cycle w)
fine_cycle z w f = record {
  long = omega (arith, f.long, state_length w.state w.memory (omega (arith, f.long)));
  is_sound = sound_next w.state w.memory f.is_sound;
  sheet_is = sheet_kept w.state w.memory ∙ f.sheet_is;
  whole = memory_length w.state w.memory ∙ f.whole;
}

-- a session's words after its load
pub fine_opened : (l : Session) → Fine l.sheet (after_load l)
fine_opened l =
    let p = load_passed (meant l.given) l.lent.state l.lent.memory l.is_carried_out in
    record {
      long = omega (arith, p.long, state_length_kept (load l.given) l.lent l.is_carried_out);
      is_sound = sound_kept (load l.given) l.lent l.is_carried_out;
      sheet_is = loaded_sheet (meant l.given) l.lent.state ∙ sym l.sheet_is;
      whole = p.whole ∙ sym (ap (λ (z : List ℕ). nodes z * memory_words z) l.sheet_is);
    }

-- whether a call is a cycle
abbrev pub is_cycle : Call → Bool
is_cycle (load z) = false
is_cycle (start circuit read_address write_address count kind) = false
is_cycle (start_all ts answer_words) = false
is_cycle (store node address new) = false
is_cycle (order schedule period) = false
is_cycle cycle = true
is_cycle (ask question) = false

-- a call that changes no register of routers, nodes and the clock's time
module _ (z s m s' m' : List ℕ) (few_nodes : nodes z ≤ 16)
    (same : (row k : ℕ) → (left_row ≤ row → row ≤ to_go_row → ⊥) → k < row_words → (row ≡ 0 → k < 3) → reg s' row k ≡ reg s row k)
    (order_kept : OrderInside z (view s m).order → OrderInside z (view s' m').order)
    (busy-kept : (circuit : ℕ) → circuit < circuits z → 0 < reg s left_row circuit → seen_sender s' circuit ≡ seen_sender s circuit)
    (to-go-kept : (circuit : ℕ) → circuit < circuits z → reg s' to_go_row circuit ≡ reg s to_go_row circuit)
    (transfer-kept : (circuit : ℕ) → circuit < circuits z → TransferParts (circuit_at z circuit) (seen_sender s circuit)
    → TransferParts (circuit_at z circuit) (seen_sender s' circuit)) where
  router_same : (row node input : ℕ) → 1 ≤ row → row < left_row → node < nodes z → input < ports
      → reg s' row (at node input) ≡ reg s row (at node input)
  router_same row node input low high n i = same row (at node input) (λ a b. omega arith) (omega arith) (λ e. absurd (omega arith))

  extra_same : (row node output : ℕ) → extra_mark ≤ row → node < nodes z → output < ports
      → reg s' row (at node output) ≡ reg s row (at node output)
  extra_same row node output low n i = same row (at node output) (λ a b. omega arith) (omega arith) (λ e. absurd (omega arith))

  node_same : (row node : ℕ) → 1 ≤ row → row < left_row → node < nodes z → reg s' row node ≡ reg s row node
  node_same row node low high n = same row node (λ a b. omega arith) (omega arith) (λ e. absurd (omega arith))

  between_registers : Between z (view s m) (view s' m')
  between_registers = record {
    routers = record {
      link = λ node input n i.
          ap₂ seen_cell (sym (router_same link_mark node input (omega arith) (omega arith) n i))
          (sym (router_same link_word node input (omega arith) (omega arith) n i));
      head = λ node input n i.
          ap₂ seen_cell (sym (router_same head_mark node input (omega arith) (omega arith) n i))
          (sym (router_same head_word node input (omega arith) (omega arith) n i));
      choice = λ node input n i. ap seen_choice (sym (router_same choice_row node input (omega arith) (omega arith) n i));
      latch = λ node input n i. ap seen_choice (sym (router_same latch_row node input (omega arith) (omega arith) n i));
      out = λ node input n i.
          ap₂ seen_cell (sym (router_same out_mark node input (omega arith) (omega arith) n i))
          (sym (router_same out_word node input (omega arith) (omega arith) n i));
      extra = λ node output n i has.
          ap₂ seen_cell (sym (extra_same extra_mark node output (omega arith) n i)) (sym (extra_same extra_word node output (omega arith) n i));
    };
    receiver = λ node n.
        rw (
          node_same receive_mark node (omega arith) (omega arith) n,
          node_same receive_kind node (omega arith) (omega arith) n,
          node_same receive_address node (omega arith) (omega arith) n,
        ) refl;
    cycle = same clock_row cycle_place (λ a b. omega arith) (omega arith) (λ e. omega arith);
    period_number = same clock_row number_place (λ a b. omega arith) (omega arith) (λ e. omega arith);
    schedule = same clock_row in_force_place (λ a b. omega arith) (omega arith) (λ e. omega arith);
    order = order_kept;
    busy = busy-kept;
    to_go_at = to-go-kept;
    transfer = transfer-kept;
  }

order_same : (z : List ℕ) (o o' : Order) → o' ≡ o → OrderInside z o → OrderInside z o'
order_same z o o' e = subst (OrderInside z) (sym e)

agree_sym : (z : List ℕ) (v w : View) → Agree z v w → Agree z w v
agree_sym z v w a = record {
  link = λ node input n i. sym (a.link node input n i);
  head = λ node input n i. sym (a.head node input n i);
  choice = λ node input n i. sym (a.choice node input n i);
  latch = λ node input n i. sym (a.latch node input n i);
  out = λ node o n i. sym (a.out node o n i);
  extra = λ node o n i has. sym (a.extra node o n i has);
  memory = λ node address n l. sym (a.memory node address n l);
  cycle = sym a.cycle;
  period_number = sym a.period_number;
  schedule = sym a.schedule;
  order = sym a.order;
  sender = λ circuit l. sym (a.sender circuit l);
  receiver = λ node n. sym (a.receiver node n);
  landing = λ node n. sym (a.landing node n);
}

-- a start: its circuit was free, and the state's other registers stay
module _ (z : List ℕ) (w : Lent) (f : Fine z w) where
  abbrev s : List ℕ
  s = w.state

  pub start_between : (circuit read_address write_address count kind : ℕ) → number (start circuit read_address write_address count kind) w ≡ 0
      → Between z (seen w) (seen (does (start circuit read_address write_address count kind) w))
  start_between circuit read_address write_address count kind e =
      let p = start_passed s circuit read_address write_address count kind e in
      let b = fine_bounds z w f in
      let few : circuit < row_words = omega (arith, p.circuit_inside, b.few_circuits, ap circuits f.sheet_is) in
      let other = started_other s circuit read_address write_address count kind few in
      let parts = fine_parts z (does (start circuit read_address write_address count kind) w)
      (fine_does z (start circuit read_address write_address count kind) w refl e f) in
      between_registers z s w.memory (started s circuit read_address write_address count kind) w.memory b.few_nodes
      (λ row k no kl c. other row k kl (λ low high q. no low (omega arith)))
      (order_same z (seen w).order (seen (does (start circuit read_address write_address count kind) w)).order
      (rw (
        other clock_row order_mark_place (omega arith) (λ low. absurd (omega arith)),
        other clock_row order_schedule_place (omega arith) (λ low. absurd (omega arith)),
        other clock_row order_period_place (omega arith) (λ low. absurd (omega arith)),
      ) refl))
      (λ c l some.
      let ne : c ≡ circuit → ⊥ = λ q. omega (arith, p.free, ap (reg s left_row) q) in
      let same : (row : ℕ) → reg (started s circuit read_address write_address count kind) row c ≡ reg s row c =
      λ row. other row c (omega arith) (λ low high q. ne q) in
      sender_same _ _ (same left_row) (same read_row) (same write_row) (same kind_row) (same to_go_row))
      (λ c l. other to_go_row c (omega arith) (λ low high q. omega arith))
      (λ c l x. parts.transfers c l)

  -- an order: its schedule is one of the sheet's
  order_between : (schedule period : ℕ) → number (order schedule period) w ≡ 0 → Between z (seen w) (seen (does (order schedule period) w))
  order_between schedule period e =
      let p = order_passed s schedule period e in
      let b = fine_bounds z w f in
      let other = ordered_other s schedule period in
      let long = f.long in
      let same : (row c : ℕ) → 1 ≤ row → c < circuits z → reg (ordered s schedule period) row c ≡ reg s row c =
      λ row c low l. other row c (omega (arith, b.few_circuits)) (λ q. absurd (omega arith)) in
      let inside : schedule < schedules z = omega (arith, p.schedule_inside, ap schedules f.sheet_is) in
      let parts = fine_parts z (does (order schedule period) w) (fine_does z (order schedule period) w refl e f) in
      between_registers z s w.memory (ordered s schedule period) w.memory b.few_nodes
      (λ row k rl kl c. other row k kl (λ q low high. absurd (omega (arith, c q))))
      (λ o. order_same z (pending schedule period) (seen (does (order schedule period) w)).order
      (rw (
        ordered_mark s schedule period (omega arith),
        ordered_schedule s schedule period (omega arith),
        ordered_period s schedule period (omega arith),
      ) refl)
      inside)
      (λ c l some. sender_same _ _ (same left_row c (omega arith) l) (same read_row c (omega arith) l) (same write_row c (omega arith) l)
      (same kind_row c (omega arith) l) (same to_go_row c (omega arith) l))
      (λ c l. same to_go_row c (omega arith) l)
      (λ c l x. parts.transfers c l)

  -- a call that leaves the state
  same_between : (m' : List ℕ) → Between z (seen w) (view s m')
  same_between m' =
      between_registers z s w.memory s m' (fine_bounds z w f).few_nodes (λ row k rl kl c. refl) (λ o. o) (λ c l some. refl)
      (λ c l. refl) (λ c l x. x)

-- what a start on such words keeps, a list of starts keeps
pub list_has : (z : List ℕ) (P : Lent → Type 0)
    → ((t : Listed) (u : Lent) → Fine z u → number (as_start t) u ≡ 0 → P u → P (does (as_start t) u))
    → (ts : List Listed) (w : Lent) → Fine z w → P w → P (lend (started_all w.state ts) w.memory)
list_has z P h ts w f p =
    (all_has (λ (s : List ℕ). Fine z (lend s w.memory) × P (lend s w.memory))
    (λ t s e q. (fine_does z (as_start t) (lend s w.memory) refl e q.0, h t (lend s w.memory) q.0 e q.1))
    ts w.state (f, p)).1

module _ (z : List ℕ) (w : Lent) (f : Fine z w) where
  -- any call but a cycle, carried out
  does_between : (x : Call) → is_load x ≡ false → is_cycle x ≡ false → number x w ≡ 0 → Between z (seen w) (seen (does x w))
  does_between (load y) n c e = absurd (false≢true (sym n))
  does_between (start circuit read_address write_address count kind) n c e = start_between z w f circuit read_address write_address count kind e
  does_between (start_all ts answer_words) n c e =
      list_has z (λ (u : Lent). Between z (seen w) (seen u))
      (λ t u g e p. between_then z _ _ _ p (start_between z u g t.circuit t.read t.write t.count t.kind e))
      ts w f (same_between z w f w.memory)
  does_between (store node address new) n c e = same_between z w f (stored w.state w.memory node address new)
  does_between (ask question) n c e = same_between z w f w.memory
  does_between (order schedule period) n c e = order_between z w f schedule period e
  does_between cycle n c e = absurd (false≢true (sym c))

  -- a call that is no load, or a refused one, in a session
  pub fine_after : (x : Call) → (is_load x ≡ true → number x w ≡ 0 → ⊥) → Fine z (after x w)
  fine_after x r = go (ℕ_discrete (number x w) 0) (is_load x) refl
    where
      go : Dec (number x w ≡ 0) → (b : Bool) → is_load x ≡ b → Fine z (after x w)
      go (yes e) true q = absurd (r q e)
      go (yes e) false q = subst (Fine z) (sym (after_done x w e)) (fine_does z x w q e f)
      go (no ne) b q = subst (Fine z) (sym (after_refused x w ne)) f

  pub after_between : (x : Call) → (is_load x ≡ true → number x w ≡ 0 → ⊥) → is_cycle x ≡ false → Between z (seen w) (seen (after x w))
  after_between x r c = go (ℕ_discrete (number x w) 0) (is_load x) refl
    where
      go : Dec (number x w ≡ 0) → (b : Bool) → is_load x ≡ b → Between z (seen w) (seen (after x w))
      go (yes e) true q = absurd (r q e)
      go (yes e) false q = subst (λ (y : Lent). Between z (seen w) (seen y)) (sym (after_done x w e)) (does_between x q c e)
      go (no ne) b q = subst (λ (y : Lent). Between z (seen w) (seen y)) (sym (after_refused x w ne)) (same_between z w f w.memory)

  -- a cycle: the words after it are the machine after a cycle
  pub cycle_seen : Agree z (seen (does cycle w)) (tick z (seen w))
  cycle_seen =
      let b = fine_bounds z w f in
      subst (λ (y : List ℕ). Agree y (seen (does cycle w)) (tick y (seen w))) f.sheet_is
      (cycle_agrees w.state w.memory (omega (arith, ap nodes f.sheet_is, b.few_nodes))
      (omega (arith, ap circuits f.sheet_is, b.few_circuits))
      (f.whole ∙ ap (λ (y : List ℕ). nodes y * memory_words y) (sym f.sheet_is)))

  pub cycle_between : Between z (tick z (seen w)) (seen (does cycle w))
  cycle_between = between_agree z _ _ (agree_sym z _ _ cycle_seen)

  -- a cycle without a fault is carried out
  pub cycle_goes : faulty z (seen w) ≡ false → number cycle w ≡ 0
  cycle_goes e =
      cycle_zero w.state w.memory
      (record {
        memory = record {
          state = record { long = f.long; is_sound = f.is_sound };
          whole = f.whole ∙ ap (λ (y : List ℕ). nodes y * memory_words y) (sym f.sheet_is);
        };
        calm =
            faulty_is w.state w.memory ∙ ap (λ (y : List ℕ). faulty y (seen w)) f.sheet_is ∙ e;
      })

-- a session that has no calls left goes on by cycles; one whose next cycle would be refused likewise
abbrev pub idle : Lent → ℕ → Lent
idle w zero = w
idle w (suc T) = idle (does cycle w) T

abbrev pub cycle_then : Lent → (ℕ → Lent) → ℕ → Lent
cycle_then w next zero = w
cycle_then w next (suc T) = next T

-- the words directly before cycle T of some calls on lent words
abbrev pub stream : List Call → Lent → ℕ → Lent
stream [] w = idle w
stream (x ∷ calls) w =
    pick (is_cycle x) (pick (number cycle w =? 0) (cycle_then w (stream calls (does cycle w))) (idle w)) (stream calls (after x w))

-- words before cycles, each cycle's and those of the calls behind it
pub record Streaming (z : List ℕ) (w : Lent) (S : ℕ → Lent) : Type 0 where
  pub first : Between z (seen w) (seen (S 0))
  pub next : (T : ℕ) → Between z (tick z (seen (S T))) (seen (S (suc T)))

idle_streams : (z : List ℕ) (w : Lent) → Fine z w → Streaming z w (idle w)
idle_streams z w f = record { first = same_between z w f w.memory; next = go w f }
  where
    go : (u : Lent) → Fine z u → (T : ℕ) → Between z (tick z (seen (idle u T))) (seen (idle u (suc T)))
    go u g zero = cycle_between z u g
    go u g (suc T) = go (does cycle u) (fine_cycle z u g) T

cycle_streams : (z : List ℕ) (w : Lent) (next : ℕ → Lent) → Fine z w → Streaming z (does cycle w) next → Streaming z w (cycle_then w next)
cycle_streams z w next f S = record { first = same_between z w f w.memory; next = go }
  where
    go : (T : ℕ) → Between z (tick z (seen (cycle_then w next T))) (seen (cycle_then w next (suc T)))
    go zero = between_then z _ _ _ (cycle_between z w f) S.first
    go (suc T) = S.next T

call_streams : (z : List ℕ) (x : Call) (w : Lent) (next : ℕ → Lent) → Fine z w → (is_load x ≡ true → number x w ≡ 0 → ⊥)
    → is_cycle x ≡ false → Streaming z (after x w) next → Streaming z w next
call_streams z x w next f r c S =
    record { first = between_then z _ _ _ (after_between z w f x r c) S.first; next = S.next }

-- a cycle among the calls is one
pub a_cycle : (x : Call) → is_cycle x ≡ true → x ≡ cycle
a_cycle (load z) e = absurd (false≢true e)
a_cycle (start circuit read_address write_address count kind) e = absurd (false≢true e)
a_cycle (start_all ts answer_words) e = absurd (false≢true e)
a_cycle (store node address new) e = absurd (false≢true e)
a_cycle (ask question) e = absurd (false≢true e)
a_cycle (order schedule period) e = absurd (false≢true e)
a_cycle cycle e = refl

pub streams : (z : List ℕ) (calls : List Call) (w : Lent) → Fine z w → LoadsRefused calls w → Streaming z w (stream calls w)
streams z [] w f r = idle_streams z w f
streams z (x ∷ calls) w f r = go (λ u. streams z calls u) (is_cycle x) refl (number cycle w =? 0) refl
  where
    go : ((u : Lent) → Fine z u → LoadsRefused calls u → Streaming z u (stream calls u)) → (b : Bool) → is_cycle x ≡ b
        → (d : Bool) → (number cycle w =? 0) ≡ d
        → Streaming z w (pick b (pick d (cycle_then w (stream calls (does cycle w))) (idle w)) (stream calls (after x w)))
    go rest true c true e =
        cycle_streams z w (stream calls (does cycle w)) f
        (rest (does cycle w) (fine_cycle z w f)
        (subst (LoadsRefused calls) (ap (λ (y : Call). after y w) (a_cycle x c) ∙ after_done cycle w (is= _ _ e)) r.1))
    go rest true c false e = idle_streams z w f
    go rest false c d e = call_streams z x w (stream calls (after x w)) f r.0 c (rest (after x w) (fine_after z w f x r.0) r.1)

-- a session's machine directly before each cycle
abbrev pub machine_at : Session → ℕ → View
machine_at l T = seen (stream l.calls (after_load l) T)

module _ (l : Session) where
  abbrev sheet : List ℕ
  sheet = l.sheet

  abbrev S : ℕ → View
  S = machine_at l

  streaming : Streaming sheet (after_load l) (stream l.calls (after_load l))
  streaming = streams sheet l.calls (after_load l) (fine_opened l) l.loads_refused

  -- every register is 0 directly after the load
  pub zero_at : (row k : ℕ) → row < row_count → k < row_words → reg (after_load l).state row k ≡ 0
  zero_at = loaded_register (meant l.given) l.lent.state

  pub session_passes : verdict sheet ≡ 0
  session_passes = ap verdict l.sheet_is ∙ (load_passed (meant l.given) l.lent.state l.lent.memory l.is_carried_out).passes

  bounds : SheetBounds sheet
  bounds = sheet_bounds sheet session_passes

  empty_at : (mark w node input : ℕ) → mark < row_count → node < nodes sheet → input < ports
      → seen_cell (reg (after_load l).state mark (at node input)) w ≡ empty
  empty_at mark w node input ml n i = rw (zero_at mark (at node input) ml (omega (arith, bounds.few_nodes))) refl

  -- it is a trajectory
  pub session_trajectory : Trajectory sheet S
  session_trajectory =
      let first = streaming.first in
      record {
        no_words = record {
          link = λ node input n i. sym (first.routers.link node input n i) ∙ empty_at link_mark _ node input (omega arith) n i;
          head = λ node input n i. sym (first.routers.head node input n i) ∙ empty_at head_mark _ node input (omega arith) n i;
          out = λ node input n i. sym (first.routers.out node input n i) ∙ empty_at out_mark _ node input (omega arith) n i;
          extra = λ node o n i has. sym (first.routers.extra node o n i has) ∙ empty_at extra_mark _ node o (omega arith) n i;
        };
        none_arriving = λ node n.
            ap (λ (r : Receiver). r.arriving) (first.receiver node n)
            ∙ ap marked (zero_at receive_mark node (omega arith) (omega (arith, bounds.few_nodes)));
        first_cycle = first.cycle ∙ zero_at clock_row cycle_place (omega arith) (omega arith);
        first_schedule =
            omega
            (arith, first.schedule, zero_at clock_row in_force_place (omega arith) (omega arith), bounds.some_schedule);
        first_order =
            first.order
            (order_same sheet no_order (seen (after_load l)).order
            (rw (zero_at clock_row order_mark_place (omega arith) (omega arith)) refl) tt);
        none_to_go = λ circuit c. first.to_go_at circuit c ∙ zero_at to_go_row circuit (omega arith) (omega (arith, bounds.few_circuits));
        first_transfer = λ circuit c. first.transfer circuit c ((fine_parts sheet (after_load l) (fine_opened l)).transfers circuit c);
        between = streaming.next;
      }

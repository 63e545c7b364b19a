-- Which calls of a session are carried out, and so its events, follows from the sheet, the memory at load and the calls alone: the tests
-- of each call read what calendar and reckoning show. With it a session's events are computed, whatever the lent words.
-- Assumes nothing.
use Prim.Native.Nat.{ℕ, zero, suc, ◌+◌, ◌-◌, ◌*◌, ◌%◌, ◌≤◌, ◌<◌}
use mathlib.Core.Bool.{Bool, true, false, not}
use mathlib.Core.List.{List, [], ◌∷◌, ◌++◌, map, append-nil}
use mathlib.Core.Path.{◌≡◌, refl, sym, ◌∙◌, ap, ap₂, subst}
use native.Mathlib.Omega.{arith}
use native.Mathlib.Decide.{dec_lt}
use native.Mathlib.Nat.{not-suc-le-zero}
use lib.ListN.{length, take, drop, get_or}
use Rattle.words.specs.Tests.{◌and◌, ◌≤?◌, ◌<?◌, ◌=?◌}
use Rattle.words.specs.Words.{pick}
use Rattle.words.specs.Numbers.{unless, ◌then◌}
use Rattle.words.proofs.TestLaws.{yes≤, no≤, yes=, no=, no<, is=, and_no}
use Rattle.sheet.specs.Sheet.{memory_words, circuits, schedules, nodes, circuit_at}
use Rattle.sheet.specs.Rules.{verdict}
use Rattle.network.specs.View.{Order, no_order, pending, View}
use Rattle.network.specs.Registers.{reg, clock_row, order_mark_place, order_schedule_place, order_period_place}
use Rattle.network.specs.Seen.{seen_order}
use Rattle.soundness.specs.Sound.{kind_travels}
use Rattle.session.specs.declared.Transfer.{Transfer as Listed}
use Rattle.session.specs.Calls.{lend, lend_state, start_all, as_start, transfer_number, start_all_number, started_by, started_next, carried_out, answers_all}
use Rattle.session.specs.Calls.{Lent, Call, load, start, store, fetch, left, period_number, what_landed, order, cycle, is_load, number, memory_number}
use Rattle.session.specs.Calls.{place_number, left_number, landed_number, is_busy, is_pending, ahead, order_number}
use Rattle.session.specs.Calls.{Question, ask, question_number}
use Rattle.words.proofs.NumberLaws.{zero_then, zero_unless, unless_test, after_zero, test_then, then_stop}
use Rattle.isolation.specs.Sessions.{Session, after_load, standing, Event, start_of, event_of, events_before}
use Rattle.isolation.specs.Calendar.{Calendar, calendar_at_load, calendar_all, calendar_after, calendar_at, cycles_done}
use Rattle.isolation.specs.Reckoning.{Reckoned, reckon, at_load}
use Rattle.isolation.specs.Demand.{reckoned_busy}
use Rattle.isolation.proofs.Reckoning.Stream.{is_cycle, seen, Fine, fine_does, a_cycle, machine_at, session_passes, session_trajectory}
use Rattle.isolation.proofs.Reckoning.ReckonedWords.{Now, start_now, start_leaving}
use Rattle.isolation.proofs.Reckoning.Dates.{calendar_append, point_at, never_refused}
use Rattle.isolation.proofs.Reckoning.Points.{events_more, reckon_last}
use Rattle.isolation.proofs.Reckoning.Reckons.{refused_at, at_point, busy_at}
use Rattle.isolation.proofs.Reckoning.StartAnswers.{named_on, fits_in, state_zero, start_is}
use Rattle.isolation.proofs.Reckoning.Busy.{SameWires, point_wires, start_wires, busy_agrees}
use Rattle.isolation.proofs.Reckoning.SenderFollowed.{item_of}
use Rattle.isolation.proofs.Flights.Deliver.{leaving_now}
use Rattle.isolation.proofs.Flights.Trajectory.{Trajectory}

-- the number that a start answers, from the events before it
abbrev pub start_answer : List ℕ → List ℕ → List Event → ℕ → ℕ → ℕ → ℕ → ℕ → ℕ
start_answer z m es circuit read_address write_address count kind =
    unless 15 (named_on z circuit read_address write_address kind)
    then unless 16 (fits_in (circuit_at z circuit) read_address write_address count kind)
    then unless 17 (not (reckoned_busy z circuit (reckon z circuit m es) (calendar_after z es).cycles))

-- an order is pending
abbrev is_held : Order → Bool
is_held no_order = false
is_held (pending schedule period) = true

abbrev order_goes : List ℕ → Calendar → ℕ → ℕ → Bool
order_goes z k schedule period =
    schedule <? schedules z
    and (not (is_held k.order)
    and (3 ≤? (period + 4294967296 - k.number) % 4294967296 and (period + 4294967296 - k.number) % 4294967296 <? 2147483648))

abbrev ask_goes : List ℕ → Question → Bool
ask_goes z (fetch node address) = node <? nodes z and address <? memory_words z
ask_goes z (left circuit) = circuit <? circuits z
ask_goes z period_number = true
ask_goes z (what_landed node) = node <? nodes z

-- whether a call is carried out, from the events before it
abbrev pub goes : List ℕ → List ℕ → List Event → Call → Bool
goes z m es (load y) = false
goes z m es (start circuit read_address write_address count kind) = start_answer z m es circuit read_address write_address count kind =? 0
goes z m es (start_all ts answer_words) = length ts ≤? 64 and length ts ≤? answer_words
goes z m es (store node address new) = node <? nodes z and address <? memory_words z
goes z m es (order schedule period) = order_goes z (calendar_after z es) schedule period
goes z m es cycle = true
goes z m es (ask question) = ask_goes z question

-- a register shows whether an order is pending
held_register : (mark schedule period : ℕ) → is_held (seen_order mark schedule period) ≡ (1 ≤? mark)
held_register zero schedule period = sym (no≤ (omega arith))
held_register (suc mark) schedule period = sym (yes≤ (omega arith))

-- what a start answers on lent words, where each circuit is busy by the words as it is by the events before it
module _ (z m : List ℕ) (w : Lent) (f : Fine z w) (es : List Event)
    (busy-is : (circuit : ℕ) → circuit < circuits z
    → is_busy w.state circuit ≡ reckoned_busy z circuit (reckon z circuit m es) (calendar_after z es).cycles) where
  start_answers : (circuit read_address write_address count kind : ℕ)
      → number (start circuit read_address write_address count kind) w ≡ start_answer z m es circuit read_address write_address count kind
  start_answers circuit read_address write_address count kind =
      start_is z w f circuit read_address write_address count kind ∙ go (dec_lt circuit (circuits z))
    where
      named : Bool
      named = read_address <? memory_words z and write_address <? memory_words z and kind_travels kind

      fits : Bool
      fits = fits_in (circuit_at z circuit) read_address write_address count kind

      go : Dec (circuit < circuits z)
          → (unless 15 (circuit <? circuits z and named) then unless 16 fits then unless 17 (not (is_busy w.state circuit)))
          ≡ start_answer z m es circuit read_address write_address count kind
      go (yes inside) =
          ap (λ (b : Bool). unless 15 (circuit <? circuits z and named) then unless 16 fits then unless 17 (not b)) (busy-is circuit inside)
      go (no n) =
          let outside : (circuit <? circuits z and named) ≡ false = sym (and_no named (no< (omega (arith, n)))) in
          sym (then_stop 15 _ (omega arith) outside) ∙ then_stop 15 _ (omega arith) outside

-- a transfer of a list: what it answers and what it tells, from the events before it
abbrev list_answer : List ℕ → List ℕ → List Event → Listed → ℕ
list_answer z m es t = start_answer z m es t.circuit t.read t.write t.count t.kind

abbrev told_one : Listed → ℕ → List Event
told_one t answer = pick (answer =? 0) (start_of t ∷ []) []

-- and a list, each with what those before it told
abbrev pub list_told : List ℕ → List ℕ → List Listed → List Event → List Event
list_told z m [] es = []
list_told z m (t ∷ ts) es = let own : List Event = told_one t (list_answer z m es t) in own ++ list_told z m ts (es ++ own)

abbrev pub list_answers : List ℕ → List ℕ → List Listed → List Event → List ℕ
list_answers z m [] es = []
list_answers z m (t ∷ ts) es = list_answer z m es t ∷ list_answers z m ts (es ++ told_one t (list_answer z m es t))

-- that is what a list on a state tells and answers
pub record ListShown (z m : List ℕ) (ts : List Listed) (s : List ℕ) (es : List Event) : Type 0 where
  pub tells : map start_of (carried_out s ts) ≡ list_told z m ts es
  pub answers : answers_all s ts ≡ list_answers z m ts es

-- where the lent words show the reckoning of every circuit, and their wires are those of a machine S of a session
module _ (z : List ℕ) (passes : verdict z ≡ 0) (S : ℕ → View) (J : Trajectory z S) (m memory : List ℕ) (n : ℕ) where
  record Shown (s : List ℕ) (es : List Event) : Type 0 where
    fine : Fine z (lend s memory)
    now : (circuit : ℕ) → circuit < circuits z → Now z circuit (lend s memory) n (reckon z circuit m es)
    wires : SameWires z (S n) (seen (lend s memory))
    left_then : (circuit : ℕ) → circuit < circuits z → (t : ℕ) → t < n
        → (reckon z circuit m es).sent.leaving t ≡ item_of (leaving_now z (S t) circuit)
    counted : (calendar_after z es).cycles ≡ n

  -- so each is busy by the words as it is by the events
  busy_shown : (s : List ℕ) (es : List Event) → Shown s es → (circuit : ℕ) → circuit < circuits z
      → is_busy s circuit ≡ reckoned_busy z circuit (reckon z circuit m es) (calendar_after z es).cycles
  busy_shown s es p circuit inside =
      busy_agrees z passes circuit inside S J n (lend s memory) p.fine p.wires (reckon z circuit m es) (p.now circuit inside).sending
      (p.left_then circuit inside)
      ∙ ap (reckoned_busy z circuit (reckon z circuit m es)) (sym p.counted)

  shown_start : (t : Listed) (s : List ℕ) (es : List Event) → transfer_number s t ≡ 0 → Shown s es
      → Shown (started_by s t) (es ++ (start_of t ∷ []))
  shown_start t s es e p = record {
    fine = fine_does z (as_start t) (lend s memory) refl e p.fine;
    now = λ circuit inside.
        subst (Now z circuit (lend (started_by s t) memory) n) (sym (reckon_last z circuit es (start_of t) calendar_at_load (at_load z circuit m)))
        (start_now z circuit inside (lend s memory) p.fine n (calendar_all z es calendar_at_load) (reckon z circuit m es)
        (p.now circuit inside) t.circuit t.read t.write t.count t.kind e);
    wires = start_wires z (S n) (lend s memory) p.fine t.circuit t.read t.write t.count t.kind e p.wires;
    left_then = λ circuit inside i l.
        ap (λ (r : Reckoned). r.sent.leaving i) (reckon_last z circuit es (start_of t) calendar_at_load (at_load z circuit m))
        ∙ start_leaving circuit t.circuit _ (reckon z circuit m es) i ∙ p.left_then circuit inside i l;
    counted = ap (λ (k : Calendar). k.cycles) (calendar_append z es (start_of t ∷ []) calendar_at_load) ∙ p.counted;
  }

  list_shown : (ts : List Listed) (s : List ℕ) (es : List Event) → Shown s es → ListShown z m ts s es
  unfolding carried_out answers_all started_next
  list_shown [] s es p = record { tells = refl; answers = refl }
  list_shown (t ∷ ts) s es p =
      let same = start_answers z m (lend s memory) p.fine es (busy_shown s es p)
      t.circuit t.read t.write t.count t.kind in
      let rest = go (list_shown ts) (transfer_number s t =? 0) refl in
      record {
        tells = rest.0 ∙ ap (λ (a : ℕ). told_one t a ++ list_told z m ts (es ++ told_one t a)) same;
        answers = ap (λ (r : List ℕ). transfer_number s t ∷ r) rest.1 ∙ ap (λ (a : ℕ). a ∷ list_answers z m ts (es ++ told_one t a)) same;
      }
    where
      go : ((u : List ℕ) (fs : List Event) → Shown u fs → ListShown z m ts u fs) → (b : Bool) → (transfer_number s t =? 0) ≡ b
          → (map start_of (pick b (t ∷ []) [] ++ carried_out (pick b (started_by s t) s) ts)
          ≡ pick b (start_of t ∷ []) [] ++ list_told z m ts (es ++ pick b (start_of t ∷ []) []))
          × (answers_all (pick b (started_by s t) s) ts ≡ list_answers z m ts (es ++ pick b (start_of t ∷ []) []))
      go rest true q =
          let next = rest (started_by s t) (es ++ (start_of t ∷ [])) (shown_start t s es (is= _ _ q) p) in
          (ap (λ (r : List Event). start_of t ∷ r) next.tells, next.answers)
      go rest false q =
          let next = rest s es p in
          let none : es ≡ es ++ [] = sym (append-nil es) in
          (next.tells ∙ ap (list_told z m ts) none, next.answers ∙ ap (list_answers z m ts) none)

-- what a call tells, from the events before it: of a list alone does it depend on the words
abbrev pub told : List ℕ → List ℕ → List Event → Call → List Event
told z m es (load y) = []
told z m es (start circuit read_address write_address count kind) = event_of (start circuit read_address write_address count kind) (lend_state [])
told z m es (start_all ts answer_words) = list_told z m ts es
told z m es (store node address new) = event_of (store node address new) (lend_state [])
told z m es (order schedule period) = event_of (order schedule period) (lend_state [])
told z m es cycle = event_of cycle (lend_state [])
told z m es (ask question) = []

module _ (l : Session) (k : ℕ) where
  abbrev z : List ℕ
  z = l.sheet

  abbrev w : Lent
  w = standing l k

  abbrev es : List Event
  es = events_before l k

  f : Fine z w
  f = (point_at l k).fine

  -- what a start answers here
  pub start_here : (circuit read_address write_address count kind : ℕ)
      → number (start circuit read_address write_address count kind) w ≡ start_answer z l.lent.memory es circuit read_address write_address count kind
  start_here = start_answers z l.lent.memory w f es (λ circuit inside. busy_at l circuit inside k)

  -- what a list of transfers tells and answers here
  pub list_here : (ts : List Listed) → ListShown z l.lent.memory ts w.state es
  list_here ts =
      list_shown z (session_passes l) (machine_at l) (session_trajectory l) l.lent.memory w.memory (cycles_done l k) ts w.state es
      (record {
        fine = f;
        now = λ circuit inside. (at_point l circuit inside k).now;
        wires = point_wires z (machine_at l) (drop k l.calls) w (calendar_at l k) (point_at l k);
        left_then = λ circuit inside. (at_point l circuit inside k).left_then;
        counted = refl;
      })

  list_test : (ts : List Listed) (answer_words : ℕ)
      → (number (start_all ts answer_words) w =? 0) ≡ (length ts ≤? 64 and length ts ≤? answer_words)
  unfolding start_all_number
  list_test ts answer_words = after_zero _ (state_zero z w f) ∙ unless_test 20 _

  order_test : (schedule period : ℕ) → (number (order schedule period) w =? 0) ≡ order_goes z (calendar_at l k) schedule period
  unfolding order_number is_pending ahead
  order_test schedule period =
      let d = (point_at l k).dated in
      let held : (1 ≤? reg w.state clock_row order_mark_place) ≡ is_held (calendar_at l k).order =
      sym (held_register (reg w.state clock_row order_mark_place) (reg w.state clock_row order_schedule_place)
      (reg w.state clock_row order_period_place))
      ∙ ap is_held (sym d.order_is) in
      after_zero _ (state_zero z w f)
      ∙ test_then 14 _ _
      ∙ ap₂ (λ (y : List ℕ) (t : Bool). schedule <? schedules y and t) f.sheet_is
      (test_then 17 _ _
      ∙ ap₂ (λ (t u : Bool). not t and u) held
      (unless_test 18 _
      ∙ ap (λ (n : ℕ). 3 ≤? (period + 4294967296 - n) % 4294967296 and (period + 4294967296 - n) % 4294967296 <? 2147483648)
      (sym d.number_is)))

  place_test : (node address : ℕ) → (place_number w.state w.memory node address =? 0) ≡ (node <? nodes z and address <? memory_words z)
  unfolding place_number memory_number
  place_test node address =
      after_zero _
      (zero_then (state_zero z w f)
      (zero_unless 14 (yes= (f.whole ∙ ap (λ (y : List ℕ). nodes y * memory_words y) (sym f.sheet_is)))))
      ∙ unless_test 14 _
      ∙ ap (λ (y : List ℕ). node <? nodes y and address <? memory_words y) f.sheet_is

  left_test : (circuit : ℕ) → (left_number w.state circuit =? 0) ≡ (circuit <? circuits z)
  unfolding left_number
  left_test circuit =
      after_zero _ (state_zero z w f) ∙ unless_test 14 _ ∙ ap (λ (y : List ℕ). circuit <? circuits y) f.sheet_is

  landed_test : (node : ℕ) → (landed_number w.state node =? 0) ≡ (node <? nodes z)
  unfolding landed_number
  landed_test node = after_zero _ (state_zero z w f) ∙ unless_test 14 _ ∙ ap (λ (y : List ℕ). node <? nodes y) f.sheet_is

  question_test : (question : Question) → (question_number question w =? 0) ≡ ask_goes z question
  question_test (fetch node address) = place_test node address
  question_test (left circuit) = left_test circuit
  question_test period_number = yes= (state_zero z w f)
  question_test (what_landed node) = landed_test node

  -- the next call
  call_test : (x : Call) → (is_cycle x ≡ true → number x w ≡ 0) → (is_load x ≡ true → number x w ≡ 0 → ⊥)
      → (number x w =? 0) ≡ goes z l.lent.memory es x
  call_test (load y) c r = no= (r refl)
  call_test (start circuit read_address write_address count kind) c r =
      ap (λ (n : ℕ). n =? 0) (start_here circuit read_address write_address count kind)
  call_test (start_all ts answer_words) c r = list_test ts answer_words
  call_test (store node address new) c r = place_test node address
  call_test (order schedule period) c r = order_test schedule period
  call_test cycle c r = yes= (c refl)
  call_test (ask question) c r = question_test question

  -- what it tells
  call_told : (x : Call) → event_of x w ≡ told z l.lent.memory es x
  call_told (load y) = refl
  call_told (start circuit read_address write_address count kind) = refl
  call_told (start_all ts answer_words) = (list_here ts).tells
  call_told (store node address new) = refl
  call_told (order schedule period) = refl
  call_told cycle = refl
  call_told (ask question) = refl

-- the events of some calls behind others, by these tests
abbrev pub decided : List ℕ → List ℕ → List Call → List Event → List Event
decided z m [] es = es
decided z m (x ∷ calls) es = decided z m calls (es ++ pick (goes z m es x) (told z m es x) [])

-- one call more
decided_more : (z m : List ℕ) (calls : List Call) (es : List Event) (k : ℕ) → k < length calls
    → decided z m (take (suc k) calls) es
    ≡ decided z m (take k calls) es
    ++ pick (goes z m (decided z m (take k calls) es) (get_or calls k cycle)) (told z m (decided z m (take k calls) es) (get_or calls k cycle)) []
decided_more z m [] es k l = absurd (not-suc-le-zero l)
decided_more z m (x ∷ calls) es zero l = refl
decided_more z m (x ∷ calls) es (suc k) l = decided_more z m calls (es ++ pick (goes z m es x) (told z m es x) []) k (omega arith)

-- the events of a session
module _ (l : Session) where
  go_test : (k : ℕ) → k < length l.calls
      → (number (get_or l.calls k cycle) (standing l k) =? 0)
      ≡ goes l.sheet l.lent.memory (events_before l k) (get_or l.calls k cycle)
  go_test k p =
      call_test l k (get_or l.calls k cycle)
      (λ c. let same = a_cycle (get_or l.calls k cycle) c in
      ap (λ (y : Call). number y (standing l k)) same ∙ never_refused l k p same)
      (refused_at l.calls (after_load l) l.loads_refused k p)

  pub events_decided : (k : ℕ) → k ≤ length l.calls
      → events_before l k ≡ decided l.sheet l.lent.memory (take k l.calls) []
  events_decided zero p = refl
  events_decided (suc k) p =
      let x : Call = get_or l.calls k cycle in
      let rest = events_decided k (omega arith) in
      events_more l.calls (after_load l) k (omega arith)
      ∙ ap₂ (λ (b : Bool) (own : List Event). events_before l k ++ pick b own []) (go_test k (omega arith)) (call_told l k x)
      ∙ ap (λ (es : List Event). es ++ pick (goes l.sheet l.lent.memory es x) (told l.sheet l.lent.memory es x) []) rest
      ∙ sym (decided_more l.sheet l.lent.memory l.calls [] k (omega arith))

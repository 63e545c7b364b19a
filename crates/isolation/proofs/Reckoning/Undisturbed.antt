-- The second half of demand 3 from the first: two sessions alike for a circuit of each answer alike for it.
-- Assumes nothing.
use Prim.Native.Nat.{ℕ, zero, suc, ◌+◌, ◌-◌, ◌≤◌, ◌<◌}
use mathlib.Core.Bool.{Bool, true, not}
use mathlib.Core.List.{[], ◌∷◌}
use mathlib.Core.Path.{◌≡◌, refl, sym, ◌∙◌, ap, ap₂, subst}
use native.Mathlib.Omega.{arith}
use lib.ListN.{length}
use Rattle.words.specs.Tests.{◌and◌}
use Rattle.sheet.specs.declared.circuits.Circuit.{Circuit}
use Rattle.sheet.specs.Sheet.{period}
use Rattle.sheet.specs.Slots.{slot_length}
use Rattle.sheet.proofs.TimeLaws.{flight_same}
use Rattle.soundness.specs.Sound.{kind_travels}
use Rattle.session.specs.Answers.{found_of}
use Rattle.std.specs.Prelude.{Result}
use Rattle.std.specs.declared.result.Result.TheVariants.{Ok, Err}
use Rattle.isolation.specs.Sessions.{Session, Transfer, cycle_done}
use Rattle.isolation.specs.Calendar.{Calendar, calendar_at_load, next_calendar, calendar_all, calendar_after, calendar_at, cycles_done, point_after, schedule_in}
use Rattle.isolation.specs.Reckoning.{Reckoned, flight_cycles, leaves_in, cycle_on, at_load, reckon_all, reckon}
use Rattle.isolation.specs.Demand.{in_region, its_record, reckoned_at, reckoned_busy, circuit_landing, AsReckoned, Alike, Undisturbed}
use Rattle.isolation.proofs.Reckoning.Dates.{calendar_append}
use Rattle.isolation.proofs.Reckoning.Points.{up_to, stretch, cycles_in, all_counted, point_counted, point_inside, point_first, reached}
use Rattle.isolation.proofs.Reckoning.Points.{calendar_first, calendar_next, reckon_last, reckon_first, reckon_next, events_of}
use Rattle.isolation.proofs.Reckoning.Alike.{SameTime, stretch_kept, time_next, Same, same_sym, same_trans, same_refl, acts_in, acts_are, act_all, stretch_acts, Sheets, landed_same, busy_same, cycle_same}
use Rattle.isolation.proofs.Reckoning.StartAnswers.{fits_in, StartsBy}

-- whenever a word of the circuit leaves in a cycle, its read address lies in the read region
abbrev pub ReadsInRegion : Session → ℕ → Type 0
ReadsInRegion l circuit = (k : ℕ) → leaves_in (reckoned_at l circuit k) (cycles_done l k) ≡ true
    → in_region (its_record l circuit).read ((reckoned_at l circuit k).transfer.read_address + (reckoned_at l circuit k).sent.gone) ≡ true

-- a found word's value
abbrev value_of : Result ℕ ℕ → ℕ
value_of (Ok w) = w
value_of (Err n) = 0

-- a session's calendar and reckoning before cycle t
abbrev pub calendar_before : Session → ℕ → Calendar
calendar_before l t = calendar_after l.sheet (up_to (events_of l) t)

abbrev pub before_cycle : Session → ℕ → ℕ → Reckoned
before_cycle l circuit t = reckon l.sheet circuit l.lent.memory (up_to (events_of l) t)

module _ (l : Session) where
  -- the events have so many cycles as are counted
  cycles_inside : (t : ℕ) → t < cycles_done l (length l.calls) → t < cycles_in (events_of l)
  cycles_inside t i = omega (arith, all_counted l)

  -- the calendar and the reckoning at the call that is cycle t, and directly after it
  time_before : (t : ℕ) (i : t < cycles_done l (length l.calls)) → calendar_at l (reached l t i).call ≡ calendar_before l t
  time_before t i = ap (calendar_after l.sheet) (reached l t i).before

  time_after : (t : ℕ) → t < cycles_done l (length l.calls)
      → calendar_at l (point_after l (suc t)) ≡ next_calendar l.sheet (calendar_before l t)
  time_after t i =
      let r = reached l t i in
      ap (calendar_at l) r.point ∙ ap (calendar_after l.sheet) r.through
      ∙ calendar_append l.sheet (up_to (events_of l) t) (cycle_done ∷ []) calendar_at_load

  before_is : (circuit t : ℕ) (i : t < cycles_done l (length l.calls))
      → reckoned_at l circuit (reached l t i).call ≡ before_cycle l circuit t
  before_is circuit t i = ap (reckon l.sheet circuit l.lent.memory) (reached l t i).before

  after_is : (circuit t : ℕ) → t < cycles_done l (length l.calls)
      → reckoned_at l circuit (point_after l (suc t)) ≡ cycle_on l.sheet circuit (calendar_before l t) (before_cycle l circuit t)
  after_is circuit t i =
      let r = reached l t i in
      ap (reckoned_at l circuit) r.point ∙ ap (reckon l.sheet circuit l.lent.memory) r.through
      ∙ reckon_last l.sheet circuit (up_to (events_of l) t) cycle_done calendar_at_load (at_load l.sheet circuit l.lent.memory)

  -- the schedule in force in cycle t is in force since the cycle before it
  pub schedule_before : (t : ℕ) → t < cycles_done l (length l.calls) → schedule_in l t ≡ (calendar_before l t).schedule
  schedule_before zero i =
      ap (λ (k : ℕ). (calendar_at l k).schedule) (point_first l)
      ∙ sym (stretch_kept l.sheet (events_of l) 0 calendar_at_load).schedule_kept
      ∙ ap (λ (k : Calendar). k.schedule) (sym (calendar_first l.sheet (events_of l) calendar_at_load))
  schedule_before (suc t) i =
      ap (λ (k : Calendar). k.schedule) (time_after t (omega arith))
      ∙ sym (stretch_kept l.sheet (events_of l) (suc t) (next_calendar l.sheet (calendar_before l t))).schedule_kept
      ∙ ap (λ (k : Calendar). k.schedule)
      (sym (calendar_next l.sheet (events_of l) t calendar_at_load (cycles_inside t (omega arith))))

module _ (a b : Session) (c d n : ℕ) (ha : AsReckoned a c) (hb : AsReckoned b d) (na : n ≤ cycles_done a (length a.calls))
    (nb : n ≤ cycles_done b (length b.calls)) (x : Alike a b c d n) (reading : ReadsInRegion a c) (sa : StartsBy a c) (sb : StartsBy b d) where
  abbrev m : Circuit
  m = its_record a c

  -- the regions are the same
  to_read : (address : ℕ) → in_region m.read address ≡ true → in_region (its_record b d).read address ≡ true
  to_read address i = subst (λ (m : Circuit). in_region m.read address ≡ true) x.same_record i

  to_receive : (address : ℕ) → in_region m.receive address ≡ true → in_region (its_record b d).receive address ≡ true
  to_receive address i = subst (λ (m : Circuit). in_region m.receive address ≡ true) x.same_record i

  -- at load they agree
  load_same : Same m (reckoned_at a c 0) (reckoned_at b d 0)
  load_same = record {
    same_transfer = refl;
    same_gone = refl;
    same_packet_words = λ t. refl;
    same_leaving = λ t. refl;
    same_read_words = λ address i. ap value_of (sym (ha.read_region 0 address (omega arith) i) ∙ x.same_regions.read address i
        ∙ hb.read_region 0 address (omega arith) (to_read address i));
    same_receive_words = λ address i. ap value_of (sym (ha.receive_region 0 address (omega arith) i) ∙ x.same_regions.receive address i
        ∙ hb.receive_region 0 address (omega arith) (to_receive address i));
  }

  acts_equal : (t : ℕ) → t < n → acts_in a.sheet c (events_of a) t ≡ acts_in b.sheet d (events_of b) t
  acts_equal t i = sym (acts_are a c t) ∙ x.same_acts t i ∙ acts_are b d t

  -- a stretch on both
  stretch_same : (t : ℕ) → t < n → (k k' : Calendar) (r q : Reckoned) → Same m r q
      → Same m (reckon_all a.sheet c (stretch (events_of a) t) k r) (reckon_all b.sheet d (stretch (events_of b) t) k' q)
  stretch_same t i k k' r q h =
      let right = subst (λ (m : Circuit). Same m (reckon_all b.sheet d (stretch (events_of b) t) k' q)
      (act_all (acts_in b.sheet d (events_of b) t) q)) (sym x.same_record)
      (stretch_acts b.sheet d (events_of b) t k' q q (same_refl q)) in
      let middle = subst (λ acts. Same m (reckon_all a.sheet c (stretch (events_of a) t) k r) (act_all acts q))
      (acts_equal t i) (stretch_acts a.sheet c (events_of a) t k r q h) in
      same_trans middle (same_sym right)

  stretch_times : (t : ℕ) (k k' : Calendar) → SameTime k k'
      → SameTime (calendar_all a.sheet (stretch (events_of a) t) k) (calendar_all b.sheet (stretch (events_of b) t) k')
  stretch_times t k k' h =
      let ka = stretch_kept a.sheet (events_of a) t k in
      let kb = stretch_kept b.sheet (events_of b) t k' in
      record {
        same_cycles = ka.cycles_kept ∙ h.same_cycles ∙ sym kb.cycles_kept;
        same_cycle = ka.cycle_kept ∙ h.same_cycle ∙ sym kb.cycle_kept;
      }

  flight_equal : flight_cycles a.sheet c ≡ flight_cycles b.sheet d
  flight_equal = flight_same a.sheet b.sheet c d x.same_columns x.same_rows x.same_kind x.same_record

  -- the sheets in cycle t
  sheets_at : (t : ℕ) → t < n → Sheets a.sheet b.sheet c d (calendar_before a t) (calendar_before b t)
  sheets_at t i =
      let sa = schedule_before a t (omega arith) in
      let sb = schedule_before b t (omega arith) in
      record {
        same_circuit = x.same_record;
        same_flight = flight_equal;
        same_length = ap (period a.sheet) (sym sa) ∙ x.same_lengths t i ∙ ap (period b.sheet) sb;
        same_slot = λ offset.
            ap (λ (j : ℕ). slot_length a.sheet j offset c) (sym sa) ∙ x.same_slots t offset i
            ∙ ap (λ (j : ℕ). slot_length b.sheet j offset d) sb;
      }

  reading_at : (t : ℕ) → t < n → leaves_in (before_cycle a c t) (calendar_before a t).cycles ≡ true
      → in_region m.read ((before_cycle a c t).transfer.read_address + (before_cycle a c t).sent.gone) ≡ true
  reading_at t i =
      let ia : t < cycles_done a (length a.calls) = omega arith in
      subst (λ (k : Calendar). leaves_in (before_cycle a c t) k.cycles ≡ true
      → in_region m.read ((before_cycle a c t).transfer.read_address + (before_cycle a c t).sent.gone) ≡ true) (time_before a t ia)
      (subst (λ (r : Reckoned). leaves_in r (cycles_done a (reached a t ia).call) ≡ true
      → in_region m.read (r.transfer.read_address + r.sent.gone) ≡ true)
      (before_is a c t ia) (reading (reached a t ia).call))

  -- before every cycle they agree, the calendars in their times
  times_before : (t : ℕ) → t < n → SameTime (calendar_before a t) (calendar_before b t)
  times_before zero i =
      let h = stretch_times 0 calendar_at_load calendar_at_load (record { same_cycles = refl; same_cycle = refl }) in
      let second = subst (λ (k : Calendar). SameTime k (calendar_all b.sheet (stretch (events_of b) 0) calendar_at_load))
      (sym (calendar_first a.sheet (events_of a) calendar_at_load)) h in
      subst (SameTime (calendar_before a 0)) (sym (calendar_first b.sheet (events_of b) calendar_at_load)) second
  times_before (suc t) i =
      let h = stretch_times (suc t) _ _
      (time_next a.sheet b.sheet c d _ _ (sheets_at t (omega arith)) (times_before t (omega arith))) in
      let second = subst (λ (k : Calendar). SameTime k
      (calendar_all b.sheet (stretch (events_of b) (suc t)) (next_calendar b.sheet (calendar_before b t))))
      (sym (calendar_next a.sheet (events_of a) t calendar_at_load (cycles_inside a t (omega arith)))) h in
      subst (SameTime (calendar_before a (suc t)))
      (sym (calendar_next b.sheet (events_of b) t calendar_at_load (cycles_inside b t (omega arith)))) second

  -- directly after cycle t, where before it they agree
  cycled_same : (t : ℕ) → t < n → Same m (before_cycle a c t) (before_cycle b d t)
      → Same m (cycle_on a.sheet c (calendar_before a t) (before_cycle a c t)) (cycle_on b.sheet d (calendar_before b t) (before_cycle b d t))
  cycled_same t i h =
      cycle_same a.sheet b.sheet c d (calendar_before a t) (calendar_before b t) (before_cycle a c t) (before_cycle b d t) (sheets_at t i)
      (times_before t i) h (reading_at t i)

  before_same : (t : ℕ) → t < n → Same m (before_cycle a c t) (before_cycle b d t)
  before_same zero i =
      let h = stretch_same 0 i calendar_at_load calendar_at_load (reckoned_at a c 0) (reckoned_at b d 0) load_same in
      let second = subst (λ (r : Reckoned). Same m r (reckon_all b.sheet d (stretch (events_of b) 0) calendar_at_load (reckoned_at b d 0)))
      (sym (reckon_first a.sheet c (events_of a) calendar_at_load (reckoned_at a c 0))) h in
      subst (λ (r : Reckoned). Same m (before_cycle a c 0) r)
      (sym (reckon_first b.sheet d (events_of b) calendar_at_load (reckoned_at b d 0))) second
  before_same (suc t) i =
      let k' : Calendar = next_calendar b.sheet (calendar_before b t) in
      let h = stretch_same (suc t) i (next_calendar a.sheet (calendar_before a t)) k' _ _
      (cycled_same t (omega arith) (before_same t (omega arith))) in
      let second = subst (λ (r : Reckoned). Same m r
      (reckon_all b.sheet d (stretch (events_of b) (suc t)) k' (cycle_on b.sheet d (calendar_before b t) (before_cycle b d t))))
      (sym (reckon_next a.sheet c (events_of a) t calendar_at_load (reckoned_at a c 0) (cycles_inside a t (omega arith)))) h in
      subst (λ (r : Reckoned). Same m (before_cycle a c (suc t)) r)
      (sym (reckon_next b.sheet d (events_of b) t calendar_at_load (reckoned_at b d 0) (cycles_inside b t (omega arith)))) second

  -- and directly after so many cycles
  after_same : (t : ℕ) → t ≤ n → Same m (reckoned_at a c (point_after a t)) (reckoned_at b d (point_after b t))
  after_same zero i =
      subst (λ (k : ℕ). Same m (reckoned_at a c k) (reckoned_at b d (point_after b 0))) (sym (point_first a))
      (subst (λ (k : ℕ). Same m (reckoned_at a c 0) (reckoned_at b d k)) (sym (point_first b)) load_same)
  after_same (suc t) i =
      let second = subst (λ (r : Reckoned). Same m r (cycle_on b.sheet d (calendar_before b t) (before_cycle b d t)))
      (sym (after_is a c t (omega arith))) (cycled_same t (omega arith) (before_same t (omega arith))) in
      subst (λ (r : Reckoned). Same m (reckoned_at a c (point_after a (suc t))) r) (sym (after_is b d t (omega arith))) second

  -- the landing in cycle t
  landing_at : (t : ℕ) → t < n → circuit_landing a c (point_after a (suc t)) ≡ circuit_landing b d (point_after b (suc t))
  landing_at t i =
      ha.landings (point_after a (suc t)) (point_inside a (suc t))
      ∙ landed_same a.sheet b.sheet c d _ _ _ _ flight_equal
      (point_counted a (suc t) (omega arith) ∙ sym (point_counted b (suc t) (omega arith))) (after_same (suc t) (omega arith))
      ∙ sym (hb.landings (point_after b (suc t)) (point_inside b (suc t)))

  -- the circuit is busy in both or in neither
  busy_equal : reckoned_busy a.sheet c (reckoned_at a c (point_after a n)) (cycles_done a (point_after a n))
      ≡ reckoned_busy b.sheet d (reckoned_at b d (point_after b n)) (cycles_done b (point_after b n))
  busy_equal =
      busy_same a.sheet b.sheet c d _ _ _ _ flight_equal (point_counted a n na ∙ sym (point_counted b n nb)) (after_same n (omega arith))

  -- nobody can tell the two apart
  pub undisturbed_reading : Undisturbed a b c d n
  undisturbed_reading =
      let s = after_same n (omega arith) in
      let ia = point_inside a n in
      let ib = point_inside b n in
      record {
        landings = landing_at;
        words_left = ha.words_left (point_after a n) ia
            ∙ ap₂ (λ (y : Transfer) (g : ℕ). found_of 0 (y.count - g)) s.same_transfer s.same_gone
            ∙ sym (hb.words_left (point_after b n) ib);
        regions = record {
          read = λ address i. ha.read_region (point_after a n) address ia i
              ∙ ap (found_of 0) (s.same_read_words address i)
              ∙ sym (hb.read_region (point_after b n) address ib (to_read address i));
          receive = λ address i. ha.receive_region (point_after a n) address ia i
              ∙ ap (found_of 0) (s.same_receive_words address i)
              ∙ sym (hb.receive_region (point_after b n) address ib (to_receive address i));
        };
        same_busy = λ read_address write_address count kind.
            sa.refused_17 (point_after a n) read_address write_address count kind
            ∙ ap₂ (λ (y : Circuit) (busy : Bool). kind_travels kind and fits_in y read_address write_address count kind and busy)
            x.same_record busy_equal
            ∙ sym (sb.refused_17 (point_after b n) read_address write_address count kind);
        same_free = λ read_address write_address count kind.
            sa.taken (point_after a n) read_address write_address count kind
            ∙ ap₂ (λ (y : Circuit) (busy : Bool). kind_travels kind and fits_in y read_address write_address count kind and not busy)
            x.same_record busy_equal
            ∙ sym (sb.taken (point_after b n) read_address write_address count kind);
      }

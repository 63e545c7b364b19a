-- The answers of a session are what is reckoned: demand 3 but for the comparison of two sessions.
-- Assumes nothing.
use Prim.Native.Nat.{ℕ, zero, suc, ◌+◌, ◌-◌, ◌*◌, ◌≤◌, ◌<◌}
use mathlib.Core.Bool.{Bool, true, false, not, false≢true}
use mathlib.Core.List.{List, [], ◌∷◌, ◌++◌}
use mathlib.Core.Path.{◌≡◌, refl, sym, ◌∙◌, ap, ap₂, subst}
use native.Mathlib.Omega.{arith}
use native.Mathlib.Nat.{not-suc-le-zero}
use native.Mathlib.Decide.{ℕ_discrete}
use lib.ListN.{length, take, drop, get_or}
use Rattle.words.specs.Tests.{◌and◌, ◌≤?◌}
use Rattle.words.specs.Words.{pick}
use Rattle.words.proofs.TestLaws.{and_right, and_both, yes≤, yes<, yes=}
use Rattle.torus.proofs.WalkLaws.{distance_least}
use Rattle.torus.proofs.VerticalLaws.{vertical_is}
use Rattle.sheet.specs.declared.circuits.Region.{Region}
use Rattle.sheet.specs.Sheet.{columns, rows, is_long, memory_words, circuits, schedules, nodes, circuit_at, entries_of, entry_count, entry_at}
use Rattle.sheet.specs.Slots.{source_of, destination_of}
use Rattle.sheet.specs.Rules.{entry_route, route_hops, route_vertical}
use Rattle.sheet.specs.Inner.Passed.{CircuitSmall}
use Rattle.sheet.specs.Flight.{vertical_of}
use Rattle.sheet.proofs.PassedLaws.{entry_small}
use Rattle.sheet.proofs.VerdictLaws.{passed, routed}
use Rattle.network.specs.View.{View, Landing, nothing, landed as landing}
use Rattle.network.specs.Registers.{reg, left_row, to_go_row, row_count}
use Rattle.std.specs.Prelude.{Result, Option}
use Rattle.std.specs.declared.option.Option.TheVariants.{None, Some}
use Rattle.std.specs.declared.result.Result.TheVariants.{Ok, Err}
use Rattle.session.specs.declared.Landed.{Landed}
use Rattle.session.specs.Answers.{found_of, landed_of, left_answer, fetch_answer, period_answer, landed_answer}
use Rattle.soundness.specs.Sound.{kind_travels}
use Rattle.session.proofs.NumberLaws.{not_holds}
use Rattle.session.specs.Calls.{Lent, Call, cycle, is_load, number, after, after_all, is_busy, memory_number, place_number, left_number, landed_number, fetched, words_left, period_number_in, last_landing}
use Rattle.words.proofs.NumberLaws.{zero_then, zero_unless}
use Rattle.soundness.proofs.SheetLaws.{SheetBounds, sheet_bounds, circuit_bounds}
use Rattle.isolation.specs.Sessions.{LoadsRefused, Session, after_load, standing, cycle_done, events_before}
use Rattle.isolation.specs.Calendar.{Calendar, calendar_at_load, next_calendar, calendar_after, calendar_at, cycles_done}
use Rattle.isolation.specs.Reckoning.{Item, none, item, Reckoned, hops_of, flight_cycles, reckoned_landing, last_reckoned, leaves_in, cycle_on, at_load, reckon}
use Rattle.isolation.specs.Demand.{in_region, item_within, reckoned_at, is_item, reckoned_busy, CycleAt, answer_at_destination, circuit_landing, AsReckoned}
use Rattle.isolation.proofs.Routes.Apart.{entry_way, entry_hops, entry_vertical}
use Rattle.isolation.proofs.Reckoning.Dates.{Dated, next_cycles, calendar_append, after_all_at, point_opened, point_at, never_refused}
use Rattle.isolation.proofs.Reckoning.Landed.{landing_kept, landing_opened}
use Rattle.isolation.proofs.Reckoning.StartAnswers.{fits_in, state_zero, start_17, start_0, StartsBy}
use Rattle.isolation.proofs.Reckoning.Busy.{point_wires, busy_agrees}
use Rattle.isolation.proofs.Reckoning.SenderFollowed.{sends_load, leaves_no, leaving_before}
use Rattle.isolation.proofs.Reckoning.Regions.{in_high, in_region_when, item_in}
use Rattle.isolation.proofs.Reckoning.Stream.{is_cycle, a_cycle, seen, Fine, fine_parts, fine_opened, machine_at, session_passes, zero_at, session_trajectory}
use Rattle.isolation.proofs.Reckoning.Points.{events_cycle, reckon_last}
use Rattle.isolation.proofs.Reckoning.ReckonedWords.{word_at, seen_memory, At, points}

-- the numbers of the asking calls on a session's words
module _ (z : List ℕ) (w : Lent) (f : Fine z w) where
  left_zero : (circuit : ℕ) → circuit < circuits z → left_number w.state circuit ≡ 0
  unfolding left_number
  left_zero circuit l = zero_then (state_zero z w f) (zero_unless 15 (yes< (omega (arith, ap circuits f.sheet_is))))

  pub landed_zero : (node : ℕ) → node < nodes z → landed_number w.state node ≡ 0
  unfolding landed_number
  landed_zero node l = zero_then (state_zero z w f) (zero_unless 15 (yes< (omega (arith, ap nodes f.sheet_is))))

  pub place_zero : (node address : ℕ) → node < nodes z → address < memory_words z → place_number w.state w.memory node address ≡ 0
  unfolding place_number memory_number
  place_zero node address n l =
      zero_then
      (zero_then (state_zero z w f)
      (zero_unless 14 (yes= (f.whole ∙ ap (λ (y : List ℕ). nodes y * memory_words y) (sym f.sheet_is)))))
      (zero_unless 15
      (and_both (yes< (omega (arith, ap nodes f.sheet_is))) (yes< (omega (arith, ap memory_words f.sheet_is)))))

  -- what fetch answers
  fetch_is : (node address : ℕ) → node < nodes z → address < memory_words z
      → fetch_answer w node address ≡ Ok (word_at z w.memory node address)
  unfolding fetched
  fetch_is node address n l =
      ap (λ (k : ℕ). found_of k (fetched w.state w.memory node address)) (place_zero node address n l)
      ∙ ap (found_of 0) (seen_memory z w f node address)

-- the answer of what landed, from the machine's landing
landed_is : (z : List ℕ) (w : Lent) (f : Fine z w) (node : ℕ) → node < nodes z → landed_answer w node ≡ landed_of 0 ((seen w).landing node)
unfolding last_landing
landed_is z w f node n = ap (λ (j : ℕ). landed_of j (last_landing w.state node)) (landed_zero z w f node n)

-- as far as it falls into a region
answered_in : (r : Region) (x : Landing) → item_within r (landed_of 0 x) ≡ item_in r x
answered_in r nothing = refl
answered_in r (landing kind address new) = refl

-- and back: what falls into a region is what landed
abbrev landed_item : Item → Result (Option Landed) ℕ
landed_item none = Ok None
landed_item (item kind address w) = Ok (Some (record { kind = kind; address = address; word = w }))

landed_back : (r : Region) (x : Result (Option Landed) ℕ) (kind address w : ℕ) → item_within r x ≡ item kind address w
    → x ≡ landed_item (item kind address w)
landed_back r (Ok None) kind address w e = absurd (false≢true (ap is_item e))
landed_back r (Err n) kind address w e = absurd (false≢true (ap is_item e))
landed_back r (Ok (Some x)) kind address w e = go (in_region r x.address) e
  where
    go : (b : Bool) → pick b (item x.kind x.address x.word) none ≡ item kind address w → Ok (Some x) ≡ landed_item (item kind address w)
    go true q = ap landed_item q
    go false q = absurd (false≢true (ap is_item q))

-- every load of a session's calls is refused where it stands
pub refused_at : (calls : List Call) (w : Lent) → LoadsRefused calls w → (k : ℕ) → k < length calls
    → is_load (get_or calls k cycle) ≡ true → number (get_or calls k cycle) (after_all (take k calls) w) ≡ 0 → ⊥
refused_at [] w h k l = absurd (not-suc-le-zero l)
refused_at (x ∷ calls) w h zero l = h.0
refused_at (x ∷ calls) w h (suc k) l = refused_at calls (after x w) h.1 k (omega arith)

-- what holds of every session, whatever its sheet
module _ (l : Session) where
  pub period_number_is : (k : ℕ) → k ≤ length l.calls → period_answer (standing l k) ≡ Ok (calendar_at l k).number
  unfolding period_number_in
  period_number_is k p =
      let a = point_at l k in
      ap (λ (n : ℕ). found_of n (period_number_in (standing l k).state)) (state_zero l.sheet (standing l k) a.fine)
      ∙ ap (found_of 0) (sym a.dated.number_is)

  pub landed_answered : (k node : ℕ) → k ≤ length l.calls → node < nodes l.sheet → landed_number (standing l k).state node ≡ 0
  landed_answered k node p inside = landed_zero l.sheet (standing l k) (point_at l k).fine node inside

  pub landed_at_load : (node : ℕ) → node < nodes l.sheet → landed_answer (after_load l) node ≡ Ok None
  landed_at_load node inside =
      landed_is l.sheet (after_load l) (fine_opened l) node inside ∙ ap (landed_of 0) (landing_opened l node inside)

  pub landed_kept : (k node : ℕ) → k < length l.calls → node < nodes l.sheet → (CycleAt l k → ⊥)
      → landed_answer (standing l (suc k)) node ≡ landed_answer (standing l k) node
  landed_kept k node p inside c = go (is_cycle (get_or l.calls k cycle)) refl
    where
      f : Fine l.sheet (standing l k)
      f = (point_at l k).fine

      go : (b : Bool) → is_cycle (get_or l.calls k cycle) ≡ b → landed_answer (standing l (suc k)) node ≡ landed_answer (standing l k) node
      go true e = let same = a_cycle _ e in absurd (c (p, same, never_refused l k p same))
      go false e =
          landed_is l.sheet (standing l (suc k)) (point_at l (suc k)).fine node inside
          ∙ ap (landed_of 0)
          (ap (λ (w : Lent). (seen w).landing node) (after_all_at l.calls k (after_load l) p)
          ∙ landing_kept l.sheet (standing l k) f node inside (get_or l.calls k cycle)
          (refused_at l.calls (after_load l) l.loads_refused k p) e)
          ∙ sym (landed_is l.sheet (standing l k) f node inside)

  -- the reckoned calendar is the session's own: cycle within the period, period number, schedule in force, pending order
  pub calendar_is : (k : ℕ) → Dated (calendar_at l k) (seen (standing l k))
  calendar_is k = (point_at l k).dated

module _ (l : Session) (circuit : ℕ) (inside : circuit < circuits l.sheet) where
  abbrev z : List ℕ
  z = l.sheet

  abbrev S : ℕ → View
  S = machine_at l

  bounds : SheetBounds z
  bounds = sheet_bounds z (session_passes l)

  small : CircuitSmall (nodes z) (memory_words z) (circuit_at z circuit)
  small = circuit_bounds z bounds circuit inside

  clear : (row : ℕ) → row < row_count → reg (after_load l).state row circuit ≡ 0
  clear row r = zero_at l row circuit r (omega (arith, bounds.few_circuits))

  opened_at : At z circuit S l.calls (after_load l) calendar_at_load (at_load z circuit l.lent.memory)
  unfolding ◌≤?◌
  opened_at = record {
    point = point_opened l;
    left_then = λ t p. absurd (not-suc-le-zero p);
    now = record {
      sending =
          sends_load z circuit l.lent.memory ((seen (after_load l)).sender circuit) (clear left_row (omega arith)) (clear to_go_row (omega arith));
      reads = λ address i. refl;
      receives = λ address i. refl;
    };
    last = ap (item_in (circuit_at z circuit).receive) (landing_opened l (destination_of z circuit) small.destination_inside);
  }

  -- every point of the session
  pub at_point : (k : ℕ) → At z circuit S (drop k l.calls) (standing l k) (calendar_at l k) (reckoned_at l circuit k)
  at_point k = points z (session_passes l) circuit inside S (session_trajectory l) k l.calls (after_load l) _ _ opened_at

  fine_at : (k : ℕ) → Fine z (standing l k)
  fine_at k = (at_point k).point.fine

  left_answer_is : (w : Lent) → Fine z w → left_answer w circuit ≡ Ok ((seen w).sender circuit).left
  unfolding words_left
  left_answer_is w f = ap (λ (k : ℕ). found_of k (words_left w.state circuit)) (left_zero z w f circuit inside)

  -- a route of the circuit has as many side outputs as hops are reckoned: by number 9 no more, and no way has fewer
  side_outputs : (j i : ℕ) → j < schedules z → i < entry_count (entries_of z j) → (entry_at (entries_of z j) i).circuit ≡ circuit
      → route_hops (entry_route z (entry_at (entries_of z j) i)) ≡ hops_of z circuit
  unfolding entry_hops
  side_outputs j i jl il own =
      let w = entry_way z (passed z (session_passes l)).rule9_kept j jl i il in
      let same : hops_of z (entry_at (entries_of z j) i).circuit ≡ hops_of z circuit = ap (hops_of z) own in
      omega (arith, w.short, distance_least (columns z) (rows z) (is_long z) _ _ _ _ _ _ w.leading, same)

  -- and as many of them over long links
  long_links : (j i : ℕ) → j < schedules z → i < entry_count (entries_of z j) → (entry_at (entries_of z j) i).circuit ≡ circuit
      → route_vertical (entry_route z (entry_at (entries_of z j) i)) ≡ vertical_of z circuit
  unfolding entry_vertical vertical_of
  long_links j i jl il own =
      let w = entry_way z (passed z (session_passes l)).rule9_kept j jl i il in
      let from = (entry_small z (routed z (session_passes l)).ranged j jl i il).source_inside in
      vertical_is (columns z) (rows z) (is_long z) _ _ from _ _ _ _ w.leading w.short ∙ ap (vertical_of z) own

  -- what landed last in the receive region
  landings : (k : ℕ) → circuit_landing l circuit k ≡ last_reckoned z circuit (reckoned_at l circuit k) (cycles_done l k)
  landings k =
      ap (item_within (circuit_at z circuit).receive) (landed_is z (standing l k) (fine_at k) (destination_of z circuit) small.destination_inside)
      ∙ answered_in (circuit_at z circuit).receive ((seen (standing l k)).landing (destination_of z circuit))
      ∙ (at_point k).last

  -- calendar and reckoning directly after a cycle
  events_next : (k : ℕ) → CycleAt l k → events_before l (suc k) ≡ events_before l k ++ (cycle_done ∷ [])
  events_next k c = events_cycle l.calls (after_load l) k c.0 c.1 c.2

  calendar_after_is : (k : ℕ) → CycleAt l k → calendar_at l (suc k) ≡ next_calendar z (calendar_at l k)
  calendar_after_is k c = ap (calendar_after z) (events_next k c) ∙ calendar_append z (events_before l k) (cycle_done ∷ []) calendar_at_load

  reckoned_after : (k : ℕ) → CycleAt l k → reckoned_at l circuit (suc k) ≡ cycle_on z circuit (calendar_at l k) (reckoned_at l circuit k)
  reckoned_after k c =
      ap (reckon z circuit l.lent.memory) (events_next k c)
      ∙ reckon_last z circuit (events_before l k) cycle_done calendar_at_load (at_load z circuit l.lent.memory)

  -- what left in cycle t is reckoned to have landed after a cycle so much later
  lands_reckoned : (k : Calendar) (r : Reckoned) (t : ℕ) → k.cycles ≡ t + flight_cycles z circuit
      → last_reckoned z circuit (cycle_on z circuit k r) (k.cycles + 1) ≡ r.sent.leaving t
  unfolding reckoned_landing
  lands_reckoned k r t e =
      let n : ℕ = k.cycles in
      let last : n + 1 - 1 ≡ n = omega arith in
      let back : n - flight_cycles z circuit ≡ t = omega (arith, e) in
      let earlier : t < n = omega (arith, e) in
      rw (yes≤ {a = 1} {b = n + 1} (omega arith))
      (ap (λ (m : ℕ). pick (flight_cycles z circuit ≤? m) ((cycle_on z circuit k r).sent.leaving (m - flight_cycles z circuit)) none) last
      ∙ ap (λ (b : Bool). pick b ((cycle_on z circuit k r).sent.leaving (n - flight_cycles z circuit)) none)
      (yes≤ {a = flight_cycles z circuit} {b = n} (omega (arith, e)))
      ∙ ap (cycle_on z circuit k r).sent.leaving back ∙ leaving_before z circuit k r t earlier)

  lands : (k t kind address w : ℕ) → CycleAt l k → cycles_done l k ≡ t + flight_cycles z circuit
      → (reckoned_at l circuit k).sent.leaving t ≡ item kind address w → answer_at_destination l circuit (suc k) ≡ Ok (Some (record { kind = kind; address = address; word = w }))
  lands k t kind address w c e left =
      let counted : cycles_done l (suc k) ≡ cycles_done l k + 1 =
      ap (λ (d : Calendar). d.cycles) (calendar_after_is k c) ∙ next_cycles z (calendar_at l k) in
      landed_back (circuit_at z circuit).receive (answer_at_destination l circuit (suc k)) kind address w
      (landings (suc k)
      ∙ ap₂ (λ (r : Reckoned) (n : ℕ). last_reckoned z circuit r n) (reckoned_after k c) counted
      ∙ lands_reckoned (calendar_at l k) (reckoned_at l circuit k) t e ∙ left)

  -- the circuit is busy by the words where it is by the reckoning
  pub busy_at : (k : ℕ) → is_busy (standing l k).state circuit ≡ reckoned_busy z circuit (reckoned_at l circuit k) (cycles_done l k)
  busy_at k =
      let a = at_point k in
      busy_agrees z (session_passes l) circuit inside S (session_trajectory l) (cycles_done l k) (standing l k) (fine_at k)
      (point_wires z S (drop k l.calls) (standing l k) (calendar_at l k) a.point) (reckoned_at l circuit k) a.now.sending a.left_then

  -- so starts on it are answered
  pub starts_by : StartsBy l circuit
  starts_by = record {
    refused_17 = λ k read_address write_address count kind.
        start_17 z (standing l k) (fine_at k) circuit read_address write_address count kind inside
        ∙ ap (λ (b : Bool). kind_travels kind and fits_in (circuit_at z circuit) read_address write_address count kind and b) (busy_at k);
    taken = λ k read_address write_address count kind.
        start_0 z (standing l k) (fine_at k) circuit read_address write_address count kind inside
        ∙ ap (λ (b : Bool). kind_travels kind and fits_in (circuit_at z circuit) read_address write_address count kind and not b) (busy_at k);
  }

  -- the session's answers are what is reckoned
  pub as_reckoned : AsReckoned l circuit
  as_reckoned = record {
    side_outputs = side_outputs;
    long_links = long_links;
    words_left = λ k p.
        let a = at_point k in
        left_answer_is (standing l k) (fine_at k) ∙ ap (found_of 0) (sym a.now.sending.left_is);
    lands = lands;
    landings = λ k p. landings k;
    busy = λ k read_address write_address count kind p e.
        and_right _ _ (and_right _ _ (sym (starts_by.refused_17 k read_address write_address count kind) ∙ yes= e));
    free = λ k read_address write_address count kind p e.
        not_holds _ (and_right _ _ (and_right _ _ (sym (starts_by.taken k read_address write_address count kind) ∙ yes= e)));
    read_region = λ k address p i.
        fetch_is z (standing l k) (fine_at k) (source_of z circuit) address small.source_inside
        (omega (arith, in_high (circuit_at z circuit).read address i, small.read_ends))
        ∙ ap (found_of 0) (sym ((at_point k).now.reads address i));
    receive_region = λ k address p i.
        fetch_is z (standing l k) (fine_at k) (destination_of z circuit) address small.destination_inside
        (omega (arith, in_high (circuit_at z circuit).receive address i, small.receive_ends))
        ∙ ap (found_of 0) (sym ((at_point k).now.receives address i));
  }

  -- a word that is reckoned to leave is read in the read region
  pub reading : (k : ℕ) → leaves_in (reckoned_at l circuit k) (cycles_done l k) ≡ true
      → in_region (circuit_at z circuit).read ((reckoned_at l circuit k).transfer.read_address + (reckoned_at l circuit k).sent.gone) ≡ true
  reading k e = go (ℕ_discrete ((seen (standing l k)).sender circuit).to_go 0)
    where
      a : At z circuit S (drop k l.calls) (standing l k) (calendar_at l k) (reckoned_at l circuit k)
      a = at_point k

      go : Dec (((seen (standing l k)).sender circuit).to_go ≡ 0)
          → in_region (circuit_at z circuit).read ((reckoned_at l circuit k).transfer.read_address + (reckoned_at l circuit k).sent.gone) ≡ true
      go (yes over) =
          absurd
          (false≢true
          (sym (leaves_no (cycles_done l k) (reckoned_at l circuit k) ((seen (standing l k)).sender circuit) a.now.sending over) ∙ e))
      go (no ne) =
          let t = (fine_parts z (standing l k) (fine_at k)).transfers circuit inside in
          let some : 0 < ((seen (standing l k)).sender circuit).left = omega (arith, ne, t.to_go_at) in
          let lies = t.reads some in
          subst (λ (address : ℕ). in_region (circuit_at z circuit).read address ≡ true) (sym (a.now.sending.read_at some))
          (in_region_when (circuit_at z circuit).read ((seen (standing l k)).sender circuit).read_address lies.low (omega (arith, lies.high)))

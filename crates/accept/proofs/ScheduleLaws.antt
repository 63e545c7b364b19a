-- The entries of a schedule, placed one behind the other in a free table: with just those before it in the table, an entry whose places are free meets
-- none of them.
-- Assumes nothing.
use Prim.Native.Nat.{ℕ, ◌+◌, ◌-◌, ◌*◌, ◌/◌, ◌%◌, ◌^◌, ◌<◌, ◌≤◌}
use mathlib.Core.Bool.{Bool, true, not}
use mathlib.Core.List.{List}
use mathlib.Core.Path.{◌≡◌, refl, sym, ◌∙◌, ap, subst}
use native.Mathlib.Omega.{arith}
use native.Mathlib.Decide.{dec_lt}
use native.Mathlib.Nat.{mul-le-mul, zero-div}
use lib.ListN.{length, set, replicate, length-set, length-replicate, get_or-eq_default}
use Rattle.words.specs.Tests.{all, between, ◌and◌, ◌or◌, ◌<?◌, ◌=?◌}
use Rattle.words.specs.Words.{word}
use Rattle.words.proofs.TestLaws.{yes=, no=, yes≤, is≤, yes<, is<, and_both, and_left, and_right, or_yes, or_skip}
use Rattle.words.proofs.WordLaws.{fill_more}
use Rattle.words.proofs.AllLaws.{all_none, all_more, all_of, all_same}
use Rattle.torus.specs.Inner.Paths.{wires_per_node}
use Rattle.torus.specs.Inner.Delays.{last_delay}
use Rattle.sheet.specs.declared.entries.Entry.{Entry}
use Rattle.sheet.specs.Sheet.{columns, rows, circuits, schedules, nodes, period, entries_of, entry_count, entry_at}
use Rattle.sheet.specs.Wires.{meet}
use Rattle.sheet.specs.Rules.{each_entry, precedes, entry_fits, entry_precedes, entry_route, entry_leads, entry_ends, entry_occupied, rule4, rule5, rule6, rule7_at, rule7, rule8_at, rule8, rule9, rule10, rule11_at, rule11, verdict}
use Rattle.sheet.specs.Inner.Passed.{Framed}
use Rattle.sheet.proofs.PassedLaws.{head_kept, nodes_few, entries_length, entries_few, circuit_small, in_grid}
use Rattle.sheet.proofs.VerdictLaws.{verdict_none}
use Rattle.sheet.proofs.TimeLaws.{ends_in_time}
use Rattle.occupancy.specs.Inner.Occupancy.{bit_at, taken}
use Rattle.occupancy.proofs.TakeLaws.{none_taken}
use Rattle.routes.specs.Inner.Joined.{Joined, circuit_span}
use Rattle.routes.proofs.RouteRules.{span_most, ending}
use Rattle.clash.specs.Inner.Table.{entry_places, Free}
use Rattle.clash.proofs.ShareLaws.{share, HoldsPlaces, holds_none, holds_more, free_where}
use Rattle.clash.proofs.WireLaws.{Fitting, meet_places}
use Rattle.clash.proofs.EntryLaws.{entry_fitting}
use Rattle.accept.specs.Inner.Working.{Neighbours, ends_word, Ends}
use Rattle.accept.specs.Inner.Placing.{row_words, row_places, Placeable, PlacedFree, Schedulable, ScheduleKept, KeptAll}
use Rattle.accept.proofs.WalkLaws.{span_in}

-- the order of two entries by one number each
abbrev pub key_of : Entry → ℕ
key_of e = e.offset * 64 + e.circuit

key_precedes : (a b : Entry) → a.circuit < 64 → b.circuit < 64 → key_of a < key_of b → entry_precedes a b ≡ true
unfolding entry_precedes precedes
key_precedes a b h l k = go (dec_lt a.offset b.offset)
  where
    go : Dec (a.offset < b.offset) → (a.offset <? b.offset or a.offset =? b.offset and a.circuit <? b.circuit) ≡ true
    go (yes s) = sym (or_yes _ (yes< s))
    go (no s) =
        let same : a.offset ≡ b.offset = omega arith in
        let less : a.circuit < b.circuit = omega arith in
        sym (or_skip _ (sym (and_both (yes= same) (yes< less))))

-- an entry whose numbers are in their ranges
pub record Numbers (z : List ℕ) (P : ℕ) (e : Entry) : Type 0 where
  pub offset_low : e.offset < P
  pub size_low : 2 ≤ e.size
  pub size_high : e.size ≤ 16
  pub circuit_inside : e.circuit < circuits z
  pub joined : Joined z e

module _ (z : List ℕ) (f : Framed z) (r : rule4 z ≡ true) (P : ℕ) (e : Entry) (t : entry_fits (circuits z) P e ≡ true) where
  pub numbers : Numbers z P e
  unfolding entry_fits between
  numbers =
      let t₁ = and_right _ _ t in
      let t₂ = and_right _ _ t₁ in
      let inside = is< _ _ (and_left _ _ t₂) in
      let small = circuit_small z r e.circuit inside in
      record {
        offset_low = is< _ _ (and_left _ _ t);
        size_low = is≤ _ _ (and_left _ _ (and_left _ _ t₁));
        size_high = is≤ _ _ (and_right _ _ (and_left _ _ t₁));
        circuit_inside = inside;
        joined = record {
          source_inside = in_grid z f.headed _ small.source_inside;
          destination_inside = in_grid z f.headed _ small.destination_inside;
          circuit_inside = inside;
          circuits_high = f.headed.circuits_high;
        };
      }

-- the entries of schedule j
module _ (room : ℕ) (near z ends : List ℕ) (j : ℕ) (s : Schedulable room near z ends j) (low : 9 ≤ period z j) (high : period z j ≤ 1024) where
  abbrev P : ℕ
  P = period z j

  abbrev stride : ℕ
  stride = row_words P

  abbrev at : ℕ → Entry
  at i = entry_at (entries_of z j) i

  abbrev places_at : ℕ → List ℕ
  places_at i = entry_places (row_places stride) z (at i)

  abbrev meet_at : ℕ → ℕ → Bool
  meet_at i k = meet (entry_occupied z (at i)) (entry_occupied z (at k))

  -- the first i entries keep the rules, just their places are taken, and their keys are below a number
  pub record Accepting (i least : ℕ) (table : List ℕ) : Type 0 where
    pub room_is : length table ≡ room
    pub fit : (k : ℕ) → k < i → entry_fits (circuits z) P (at k) ≡ true
    pub ordered : (k : ℕ) → k + 1 < i → entry_precedes (at k) (at (k + 1)) ≡ true
    pub below : (k : ℕ) → k < i → key_of (at k) < least
    pub lead : (k : ℕ) → k < i → entry_leads z (at k) ≡ true
    pub end : (k : ℕ) → k < i → entry_ends z P (at k) ≡ true
    pub fitting : (k : ℕ) → k < i → Fitting (row_places stride) (entry_occupied z (at k))
    pub holds : HoldsPlaces places_at i table
    pub apart : all i (λ k. all k (λ m. not (meet_at k m))) ≡ true
    pub small : least ≤ 65536

  none : {A : Type 0} (k : ℕ) → k < 0 → A
  none k h = absurd (let z : ⊥ = omega arith in z)

  pub accepting_start : (table : List ℕ) → length table ≡ room → Free table → Accepting 0 0 table
  accepting_start table l f = record {
    room_is = l;
    fit = λ k h. none k h;
    ordered = λ k h. none (k + 1) h;
    below = λ k h. none k h;
    lead = λ k h. none k h;
    end = λ k h. none k h;
    fitting = λ k h. none k h;
    holds = holds_none places_at table f;
    apart = sym (all_none _);
    small = omega arith;
  }

  module _ (i least : ℕ) (table : List ℕ) (g : Accepting i least table) (e : Entry) (q : e ≡ at i) (t : entry_fits (circuits z) P e ≡ true) where
    own : Numbers z P e
    own = numbers z s.framed s.circuits_fit P e t

    pub key_small : key_of e < 65536
    key_small = omega (arith, own.offset_low, high, own.circuit_inside, s.framed.headed.circuits_high)

    pub ends_fits : e.circuit < length ends
    ends_fits = omega (arith, own.circuit_inside, s.framed.headed.circuits_high, s.ends_are.long)

    module _ (both : ℕ) (b : both ≡ word ends e.circuit) where
      ends_is : both ≡ ends_word z e.circuit
      ends_is = b ∙ s.ends_are.each e.circuit own.circuit_inside

      span_is : both / 65536 ≡ circuit_span z e.circuit
      span_is = span_in z e.circuit both own.joined.source_inside own.joined.destination_inside ends_is

      pub sum_small : e.offset + e.size + both / 65536 ≤ 1100
      sum_small =
          omega (arith, span_is, span_most z e.circuit own.joined.source_inside own.joined.destination_inside, own.offset_low, high, own.size_high)

      pub sizes : 1 ≤ e.offset + e.size
      sizes = omega (arith, own.size_low)

      pub placeable_next : (n : ℕ) → n ≡ P / 32 + 2 → Placeable (length table) near z both n e
      placeable_next n m = record {
        joined = own.joined;
        offset_small = omega (arith, own.offset_low, high);
        size_low = own.size_low;
        size_high = own.size_high;
        in_row = omega (arith, m, own.offset_low);
        stride_small = omega (arith, m, high);
        ends_are = ends_is;
        neighbours = s.neighbours;
        holds_wires = subst (λ (x : ℕ). nodes z * wires_per_node * x ≤ length table) (sym m) (omega (arith, s.holds_wires, g.room_is));
      }

      -- the entry is in order, in time and placed
      module _ (k : least ≤ key_of e) (l : e.offset + e.size - 1 + both / 65536 ≤ P + 2) (after : List ℕ) (n : ℕ) (m : n ≡ P / 32 + 2)
          (h : PlacedFree table after z n e) where
        placed : PlacedFree table after z stride (at i)
        placed = subst (λ (x : Entry). PlacedFree table after z stride x) q (subst (λ (x : ℕ). PlacedFree table after z x e) m h)

        end_next : entry_ends z P e ≡ true
        end_next =
            sym (ending z e own.joined (both / 65536) span_is h.leads_there P)
            ∙ yes≤ l

        in_time : e.offset + last_delay (entry_route z e) + e.size ≤ row_places stride
        in_time = omega (arith, ends_in_time z P e (omega (arith, own.size_low)) end_next)

        fitting_next : Fitting (row_places stride) (entry_occupied z e)
        fitting_next = entry_fitting (nodes z * wires_per_node * row_places stride + 1) z e (row_places stride) (record {
          source_inside = own.joined.source_inside;
          leads_there = h.leads_there;
          in_time = in_time;
          size_low = omega (arith, own.size_low);
          size_high = own.size_high;
          stride_small = omega (arith, high);
          holds_wires = omega arith;
        })

        upto : {A : ℕ → Type 0} → ((x : ℕ) → x < i → A x) → A i → (x : ℕ) → x < i + 1 → A x
        upto {A} old new x c = go (dec_lt x i)
          where
            go : Dec (x < i) → A x
            go (yes y) = old x y
            go (no y) = subst A (let same : i ≡ x = omega arith in same) new

        all_fitting : (x : ℕ) → x < i + 1 → Fitting (row_places stride) (entry_occupied z (at x))
        all_fitting =
            upto {A = λ x. Fitting (row_places stride) (entry_occupied z (at x))} g.fitting
            (subst (λ (y : Entry). Fitting (row_places stride) (entry_occupied z y)) q fitting_next)

        order_next : (x : ℕ) → x + 1 < i + 1 → entry_precedes (at x) (at (x + 1)) ≡ true
        order_next x c = go (dec_lt (x + 1) i)
          where
            go : Dec (x + 1 < i) → entry_precedes (at x) (at (x + 1)) ≡ true
            go (yes y) = g.ordered x y
            go (no y) =
                let last : x + 1 ≡ i = omega arith in
                let before = numbers z s.framed s.circuits_fit P (at x) (g.fit x (omega arith)) in
                subst (λ (y : Entry). entry_precedes (at x) y ≡ true) (q ∙ ap at (sym last))
                (key_precedes (at x) e
                (omega (arith, before.circuit_inside, s.framed.headed.circuits_high))
                (omega (arith, own.circuit_inside, s.framed.headed.circuits_high))
                (omega (arith, g.below x (omega arith), k)))

        share_is : (x : ℕ) → x < i → not (share (places_at i) (places_at x)) ≡ not (meet_at i x)
        unfolding entry_places
        share_is x c = ap not (sym (meet_places (row_places stride) _ _ (all_fitting i (omega arith)) (all_fitting x (omega arith))))

        apart_next : all i (λ x. not (meet_at i x)) ≡ true
        apart_next =
            sym (all_same i _ _ share_is)
            ∙ sym (free_where places_at i table g.holds (places_at i))
            ∙ ap not placed.free

        pub accepting_more : Accepting (i + 1) (key_of e + 1) after
        accepting_more = record {
          room_is = placed.now_taken.same_length ∙ g.room_is;
          fit = upto {A = λ x. entry_fits (circuits z) P (at x) ≡ true} g.fit (subst (λ (y : Entry). entry_fits (circuits z) P y ≡ true) q t);
          ordered = order_next;
          below =
              upto {A = λ x. key_of (at x) < key_of e + 1} (λ x c. omega (arith, g.below x c, k))
              (subst (λ (y : Entry). key_of y < key_of e + 1) q (omega arith));
          lead = upto {A = λ x. entry_leads z (at x) ≡ true} g.lead placed.leads_there;
          end = upto {A = λ x. entry_ends z P (at x) ≡ true} g.end (subst (λ (y : Entry). entry_ends z P y ≡ true) q end_next);
          fitting = all_fitting;
          holds = holds_more places_at i table after g.holds placed.now_taken;
          apart = all_more _ i g.apart apart_next;
          small = omega (arith, key_small);
        }

  -- an entry more is four words more
  pub counted : (words least : ℕ) (table : List ℕ) → Accepting (words / 4 + 1) least table → Accepting ((words + 4) / 4) least table
  counted words least table g = subst (λ (i : ℕ). Accepting i least table) (omega arith) g

  -- the words of the entries are four an entry
  pub entries_whole : (entries : List ℕ) → entries ≡ entries_of z j → (length entries % 4 ≡ 0) × (length entries ≤ 1024)
  entries_whole entries q =
      let long = entries_length z s.framed j s.here in
      let few = entries_few z s.framed j s.here in
      let same : length entries ≡ length (entries_of z j) = ap (λ (l : List ℕ). length l) q in
      (omega (arith, same, long), omega (arith, same, few, long))

  pub accepting_done : (i least : ℕ) (table : List ℕ) → Accepting i least table → i ≡ entry_count (entries_of z j) → ScheduleKept z j
  unfolding rule7_at rule8_at rule11_at each_entry between
  accepting_done i least table g n = record {
    fits = and_both (and_both (yes≤ low) (yes≤ high)) (every (λ e. entry_fits (circuits z) P e) g.fit);
    ascends = all_of _ _ (λ k h. g.ordered k (omega (arith, n)));
    leads = every (entry_leads z) g.lead;
    ends = every (entry_ends z P) g.end;
    apart = subst (λ (x : ℕ). all x (λ k. all k (λ m. not (meet_at k m))) ≡ true) n g.apart;
  }
    where
      every : (test : Entry → Bool) → ((k : ℕ) → k < i → test (at k) ≡ true) → all (entry_count (entries_of z j)) (λ k. test (at k)) ≡ true
      every test h = all_of _ _ (λ k l. h k (omega (arith, n)))

-- the test of an entry's numbers, from the circuits and the period that were read
pub fits_read : (z : List ℕ) (j count P : ℕ) (e : Entry) {w : Bool} → count ≡ circuits z → P ≡ period z j → w ≡ entry_fits count P e → w ≡ true
    → entry_fits (circuits z) (period z j) e ≡ true
fits_read z j count P e c p w y =
    ap (λ (n : ℕ). entry_fits n (period z j) e) (sym c) ∙ ap (λ (n : ℕ). entry_fits count n e) (sym p) ∙ sym w ∙ y

-- the first k words of a table are cleared
pub record Clearing (before table : List ℕ) (k : ℕ) : Type 0 where
  pub same_length : length table ≡ length before
  pub zeros : (x : ℕ) → x < k → word table x ≡ 0

pub clearing_start : (table : List ℕ) → Clearing table table 0
clearing_start table = record { same_length = refl; zeros = λ x h. absurd (let z : ⊥ = omega arith in z) }

pub clearing_more : (before table : List ℕ) (k : ℕ) → Clearing before table k → k < length table → Clearing before (set table k 0) (k + 1)
clearing_more before table k g h = record {
  same_length = length-set table k 0 ∙ g.same_length;
  zeros = fill_more table k 0 (λ x. 0) h g.zeros refl;
}

pub clearing_done : (before table : List ℕ) (k : ℕ) → Clearing before table k → length table ≤ k
    → (length table ≡ length before) × ((x : ℕ) → word table x ≡ 0)
clearing_done before table k g h = (g.same_length, λ x. go x (dec_lt x k))
  where
    go : (x : ℕ) → Dec (x < k) → word table x ≡ 0
    go x (yes l) = g.zeros x l
    go x (no l) = get_or-eq_default table 0 (omega arith)

-- a table of words 0 is free
pub free_zeros : (table : List ℕ) → ((x : ℕ) → word table x ≡ 0) → Free table
unfolding taken bit_at
free_zeros table h = record {
  none = λ x.
      ap (λ (w : ℕ). w / 2 ^ (x % 32) % 2 =? 1) (h (x / 32))
      ∙ ap (λ (w : ℕ). w % 2 =? 1) (zero-div (2 ^ (x % 32)))
      ∙ no= (λ e. omega arith);
}

-- the first j schedules are kept, and one more
pub kept_start : (z : List ℕ) → KeptAll z 0
kept_start z = record { each = λ j h. absurd (let z : ⊥ = omega arith in z) }

pub kept_more : (z : List ℕ) (n : ℕ) → KeptAll z n → ScheduleKept z n → KeptAll z (n + 1)
kept_more z n g s = record { each = λ j h. go j h (dec_lt j n) }
  where
    go : (j : ℕ) → j < n + 1 → Dec (j < n) → ScheduleKept z j
    go j h (yes l) = g.each j l
    go j h (no l) = subst (ScheduleKept z) (let same : n ≡ j = omega arith in same) s

-- the rules 7 to 11 of all schedules, behind those before
pub all_kept : (z : List ℕ) → Framed z → (rule4 z ≡ true) × (rule5 z ≡ true) × (rule6 z ≡ true) → KeptAll z (schedules z) → verdict z ≡ 0
unfolding rule7 rule8 rule9 rule10 rule11
all_kept z f c g =
    let head = head_kept z f.headed in
    verdict_none z (record {
      rule1_kept = head.0;
      rule2_kept = head.1;
      rule3_kept = f.divided;
      rule4_kept = c.0;
      rule5_kept = c.1;
      rule6_kept = c.2;
      rule7_kept = all_of _ _ (λ j h. (g.each j h).fits);
      rule8_kept = all_of _ _ (λ j h. (g.each j h).ascends);
      rule9_kept = all_of _ _ (λ j h. (g.each j h).leads);
      rule10_kept = all_of _ _ (λ j h. (g.each j h).ends);
      rule11_kept = all_of _ _ (λ j h. (g.each j h).apart);
    })

-- the words of a wire in a shorter period are no more
pub row_shorter : (P Q : ℕ) → P ≤ Q → row_words P ≤ Q / 32 + 2
row_shorter P Q h = omega arith

-- a table that has room for the longest period has room for each
pub room_each : (z : List ℕ) (wires longest room : ℕ) → wires ≡ nodes z * wires_per_node → ((j : ℕ) → j < schedules z → period z j ≤ longest)
    → wires * (longest / 32 + 2) ≤ room → (j : ℕ) → j < schedules z → nodes z * wires_per_node * row_words (period z j) ≤ room
room_each z wires longest room w all fits j h =
    omega (
      arith,
      mul-le-mul {n₁ = nodes z * wires_per_node} {m₁ = row_words (period z j)} {n₂ = wires} {m₂ = longest / 32 + 2} (omega (arith, w))
          (row_shorter (period z j) longest (all j h)),
    )

-- the largest table has room for any
pub room_largest : (z : List ℕ) → Framed z → (j : ℕ) → period z j ≤ 1024 → nodes z * wires_per_node * row_words (period z j) ≤ 3264
room_largest z f j h =
    mul-le-mul {n₁ = nodes z * wires_per_node} {m₁ = row_words (period z j)} {n₂ = 96} {m₂ = 34} (omega (arith, nodes_few z f.headed)) (omega arith)

-- and a table of 64 words serves a grid of few wires
pub few_wires : (z : List ℕ) → Framed z → ((j : ℕ) → j < schedules z → nodes z * wires_per_node * row_words (period z j) ≤ 64) → nodes z * wires_per_node ≤ 32
few_wires z f all =
    let first = all 0 f.headed.schedules_low in
    let twice = mul-le-mul {n₁ = nodes z * wires_per_node} {m₁ = 2} {n₂ = nodes z * wires_per_node} {m₂ = row_words (period z 0)} (omega arith) (omega arith) in
    omega (arith, first, twice)

-- a table of n zeros
pub zeros_long : (n m : ℕ) → m ≤ n → m ≤ length {A = ℕ} (replicate n 0)
zeros_long n m h = omega (arith, length-replicate {A = ℕ} n 0)

pub zeros_free : (n : ℕ) → Free (replicate n 0)
zeros_free n = record { none = λ x. none_taken n x }

-- a period that was read and is in its range
pub period_in : (z : List ℕ) (j P : ℕ) {w : Bool} → P ≡ period z j → w ≡ between 9 1024 P → w ≡ true → (9 ≤ period z j) × (period z j ≤ 1024)
unfolding between
period_in z j P p e y =
    let both = sym e ∙ y in
    let low = is≤ 9 P (and_left _ _ both) in
    let high = is≤ P 1024 (and_right _ _ both) in
    (omega (arith, low, p), omega (arith, high, p))

-- what the tables are worked out of, from the columns and rows that were read
module _ (z : List ℕ) (f : Framed z) (cols count : ℕ) (c : cols ≡ columns z) (r : count ≡ rows z) where
  pub grid_read : (room : ℕ) → nodes z * wires_per_node ≤ room → cols * count * wires_per_node ≤ room
  grid_read room h =
      omega (arith, h, ap (λ (n : ℕ). n * count * wires_per_node) c, ap (λ (n : ℕ). columns z * n * wires_per_node) r)

  pub schedulable : (room : ℕ) (near ends : List ℕ) → rule4 z ≡ true → Neighbours cols count near → Ends z ends
      → ((j : ℕ) → j < schedules z → nodes z * wires_per_node * row_words (period z j) ≤ room)
      → (j : ℕ) → j < schedules z → Schedulable room near z ends j
  schedulable room near ends t n e l j h = record {
    framed = f;
    circuits_fit = t;
    here = h;
    neighbours = subst (λ (x : ℕ). Neighbours x (rows z) near) c (subst (λ (x : ℕ). Neighbours cols x near) r n);
    ends_are = e;
    holds_wires = l j h;
  }

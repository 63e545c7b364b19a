-- What the rules that a sheet keeps settle, in numbers.
-- Assumes nothing.
use Prim.Native.Nat.{ℕ, ◌*◌, ◌<◌, ◌≤◌}
use mathlib.Core.Bool.{true}
use mathlib.Core.List.{List}
use mathlib.Core.Path.{◌≡◌, sym, subst, ◌∙◌, ap, ap₂}
use native.Mathlib.Omega.{arith}
use native.Mathlib.Nat.{mul-le-mul}
use lib.ListN.{length, length-take, length-drop}
use Rattle.words.specs.Tests.{between}
use Rattle.words.proofs.TestLaws.{and_left, and_right, and_both, yes≤, is≤, is<}
use Rattle.words.proofs.AllLaws.{all_at}
use Rattle.torus.specs.Inner.Grid.{InGrid}
use Rattle.sheet.specs.Sheet.{columns, rows, memory_words, circuits, schedules, nodes, circuit_at}
use Rattle.sheet.specs.Sheet.{stated_entries, schedule_place, period, entries_of, entry_count, entry_at}
use Rattle.sheet.specs.Rules.{rule1, rule2, rule3, region_fits, circuit_fits, rule4, each_entry, entry_fits, rule7_at, rule7}
use Rattle.sheet.specs.Inner.Passed.{Headed, Framed, Placed, Ranged, CircuitSmall, EntrySmall}
use Rattle.sheet.proofs.FrameLaws.{rule3_placed}

-- rules 1 and 2: the head's numbers are in their ranges
pub headed : (z : List ℕ) → rule1 z ≡ true → rule2 z ≡ true → Headed z
unfolding rule1 rule2 between
headed z h r =
    let r₁ = and_right _ _ r in
    let r₂ = and_right _ _ r₁ in
    let r₃ = and_right _ _ r₂ in
    let r₄ = and_right _ _ r₃ in
    record {
      five = is≤ _ _ h;
      columns_low = is≤ _ _ (and_left _ _ (and_left _ _ r));
      columns_high = is≤ _ _ (and_right _ _ (and_left _ _ r));
      rows_low = is≤ _ _ (and_left _ _ (and_left _ _ r₁));
      rows_high = is≤ _ _ (and_right _ _ (and_left _ _ r₁));
      memory_low = is≤ _ _ (and_left _ _ (and_left _ _ r₂));
      memory_high = is≤ _ _ (and_right _ _ (and_left _ _ r₂));
      circuits_high = is≤ _ _ (and_right _ _ (and_left _ _ r₃));
      schedules_low = is≤ _ _ (and_left _ _ r₄);
      schedules_high = is≤ _ _ (and_right _ _ r₄);
    }

-- and where they are, the rules are kept
pub head_kept : (z : List ℕ) → Headed z → (rule1 z ≡ true) × (rule2 z ≡ true)
unfolding rule1 rule2 between
head_kept z h = (
  yes≤ h.five,
  and_both (and_both (yes≤ h.columns_low) (yes≤ h.columns_high))
      (and_both (and_both (yes≤ h.rows_low) (yes≤ h.rows_high))
      (and_both (and_both (yes≤ h.memory_low) (yes≤ h.memory_high))
      (and_both (and_both (yes≤ (omega arith)) (yes≤ h.circuits_high))
      (and_both (yes≤ h.schedules_low) (yes≤ h.schedules_high))))),
)

-- the nodes, from the columns and the rows as they were read
pub nodes_are : {a b : ℕ} {z y : List ℕ} → a ≡ columns z → b ≡ rows z → z ≡ y → a * b ≡ nodes y
nodes_are e f g = ap₂ ◌*◌ e f ∙ ap nodes g

-- a grid has at most sixteen nodes
pub nodes_few : (z : List ℕ) → Headed z → nodes z ≤ 16
nodes_few z h = mul-le-mul {n₁ = columns z} {m₁ = rows z} {n₂ = 4} {m₂ = 4} h.columns_high h.rows_high

-- and few memory words in all
pub memory_few : (z : List ℕ) → Headed z → nodes z * memory_words z ≤ 262144
memory_few z h = mul-le-mul {n₁ = nodes z} {m₁ = memory_words z} {n₂ = 16} {m₂ = 16384} (nodes_few z h) h.memory_high

-- rule 3: the circuits lie within the sheet, since the first schedule begins behind them
pub framed : (z : List ℕ) → Headed z → rule3 z ≡ true → Framed z
unfolding schedule_place
framed z h r =
    let p = rule3_placed z r 0 h.schedules_low in
    record { headed = h; circuits_end = omega arith; divided = r }

-- rule 3: each schedule lies within the sheet
pub placed : (z : List ℕ) → Framed z → (j : ℕ) → j < schedules z → Placed z (schedule_place z j)
placed z f = rule3_placed z f.divided

-- the same of the place that was worked out
pub placed_at : (z : List ℕ) → Framed z → (j at : ℕ) → at ≡ schedule_place z j → j < schedules z → Placed z at
placed_at z f j at e h = subst (Placed z) (sym e) (placed z f j h)

-- a schedule's entries have four words for each stated entry
pub entries_length : (z : List ℕ) → Framed z → (j : ℕ) → j < schedules z
    → length (entries_of z j) ≡ 4 * stated_entries z (schedule_place z j)
unfolding entries_of
entries_length z f j h =
    let p = placed z f j h in
    simp (length-take, length-drop) (omega arith)

-- a schedule has few entries
pub entries_few : (z : List ℕ) → Framed z → (j : ℕ) → j < schedules z → entry_count (entries_of z j) ≤ 256
entries_few z f j h =
    let p = placed z f j h in
    omega (arith, entries_length z f j h)

-- rule 4 at one circuit: its nodes are in the grid, and its regions end within the memory
pub circuit_small : (z : List ℕ) → rule4 z ≡ true → (k : ℕ) → k < circuits z
    → CircuitSmall (nodes z) (memory_words z) (circuit_at z k)
unfolding rule4 circuit_fits region_fits
circuit_small z r k h =
    let h₀ = all_at _ (circuits z) r k h in
    let h₁ = and_right _ _ h₀ in
    let h₂ = and_right _ _ h₁ in
    let h₃ = and_right _ _ h₂ in
    record {
      source_inside = is< _ _ (and_left _ _ h₀);
      destination_inside = is< _ _ (and_left _ _ h₁);
      read_ends = is≤ _ _ (and_right _ _ (and_left _ _ h₃));
      receive_ends = is≤ _ _ (and_right _ _ (and_right _ _ h₃));
    }

-- rule 7 at one schedule: its period is in its range
pub period_range : (z : List ℕ) → Ranged z → (j : ℕ) → j < schedules z → (9 ≤ period z j) × (period z j ≤ 1024)
unfolding rule7 rule7_at between
period_range z g j h =
    let r = and_left _ _ (all_at _ (schedules z) g.entries_fit j h) in
    (is≤ _ _ (and_left _ _ r), is≤ _ _ (and_right _ _ r))

-- a node of the grid, as the torus wants it
pub in_grid : (z : List ℕ) → Headed z → (node : ℕ) → node < nodes z → InGrid (columns z) (rows z) node
in_grid z h node l =
    record {
      cols_low = h.columns_low;
      cols_high = h.columns_high;
      rows_low = h.rows_low;
      rows_high = h.rows_high;
      inside = l;
    }

-- rules 4 and 7 at one entry: its numbers are in their ranges, and its circuit joins nodes of the grid
pub entry_small : (z : List ℕ) → Ranged z → (j : ℕ) → j < schedules z → (i : ℕ) → i < entry_count (entries_of z j)
    → EntrySmall z j (entry_at (entries_of z j) i)
unfolding rule7 rule7_at each_entry entry_fits between
entry_small z g j h i l =
    let e = entry_at (entries_of z j) i in
    let r = and_right _ _ (all_at _ (schedules z) g.entries_fit j h) in
    let f = all_at _ (entry_count (entries_of z j)) r i l in
    let f₁ = and_right _ _ f in
    let f₂ = and_right _ _ f₁ in
    let inside = is< _ _ (and_left _ _ f₂) in
    let c = circuit_small z g.circuits_fit e.circuit inside in
    record {
      offset_low = is< _ _ (and_left _ _ f);
      size_low = is≤ _ _ (and_left _ _ (and_left _ _ f₁));
      size_high = is≤ _ _ (and_right _ _ (and_left _ _ f₁));
      circuit_inside = inside;
      route_high = is≤ _ _ (and_right _ _ f₂);
      source_inside = in_grid z g.framed.headed _ c.source_inside;
      destination_inside = in_grid z g.framed.headed _ c.destination_inside;
    }

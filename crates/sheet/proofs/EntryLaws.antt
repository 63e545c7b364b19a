-- The tests of the rules 7 and 8 at one entry or one schedule, from the facts in numbers and the parts that were read.
-- Assumes nothing.
use Prim.Native.Nat.{ℕ, ◌+◌, ◌-◌, ◌<◌}
use mathlib.Core.Bool.{Bool, true, false}
use mathlib.Core.List.{List}
use mathlib.Core.Path.{◌≡◌, refl, sym, ◌∙◌, ap}
use Rattle.words.specs.Tests.{all, between, ◌≤?◌}
use Rattle.words.proofs.TestLaws.{and_no, and_on, yes<}
use Rattle.sheet.specs.declared.entries.Entry.{Entry}
use Rattle.sheet.specs.Sheet.{circuits, period, entries_of, entry_count, entry_at}
use Rattle.sheet.specs.Rules.{each_entry, entry_fits, rule7_at, entry_precedes, rule8_at}
use Rattle.sheet.proofs.FrameLaws.{range_read}

-- all but the route is in its range, and the route decides
pub entry_rest : (count P : ℕ) (e : Entry) → e.offset < P → between 2 16 e.size ≡ true → e.circuit < count
    → (e.route ≤? 65535) ≡ entry_fits count P e
unfolding entry_fits
entry_rest count P e a b c = and_on (yes< a) (and_on b (and_on (yes< c) refl))

-- rule 7 at one schedule, in terms of the period and the entries that were read
module _ (z : List ℕ) (j P : ℕ) (p : P ≡ period z j) where
  -- the period is out of its range
  pub schedule_no : {w : Bool} → w ≡ between 9 1024 P → w ≡ false → false ≡ rule7_at z j
  unfolding rule7_at
  schedule_no e f = and_no _ (range_read 9 1024 p e f)

  -- the period is in its range, and the entries decide
  pub schedule_rest : (entries : List ℕ) (count : ℕ) {w v : Bool} → w ≡ between 9 1024 P → w ≡ true
      → entries ≡ entries_of z j → count ≡ circuits z
      → v ≡ all (entry_count entries) (λ i. entry_fits count P (entry_at entries i)) → v ≡ rule7_at z j
  unfolding rule7_at each_entry
  schedule_rest entries count e f q r g =
      and_on (range_read 9 1024 p e f) (g ∙ parts)
    where
      parts : all (entry_count entries) (λ i. entry_fits count P (entry_at entries i))
          ≡ all (entry_count (entries_of z j)) (λ i. entry_fits (circuits z) (period z j) (entry_at (entries_of z j) i))
      parts =
          ap (λ (l : List ℕ). all (entry_count l) (λ i. entry_fits count P (entry_at l i))) q
          ∙ ap (λ (n : ℕ). all (entry_count (entries_of z j)) (λ i. entry_fits n P (entry_at (entries_of z j) i))) r
          ∙ ap (λ (n : ℕ). all (entry_count (entries_of z j)) (λ i. entry_fits (circuits z) n (entry_at (entries_of z j) i))) p

-- rule 8 at one schedule, in terms of the entries that were read
pub schedule_ascends : (z : List ℕ) (j : ℕ) (entries : List ℕ) {v : Bool} → entries ≡ entries_of z j
    → v ≡ all (entry_count entries - 1) (λ i. entry_precedes (entry_at entries i) (entry_at entries (i + 1))) → rule8_at z j ≡ v
unfolding rule8_at
schedule_ascends z j entries q e =
    sym (e ∙ ap (λ (l : List ℕ). all (entry_count l - 1) (λ i. entry_precedes (entry_at l i) (entry_at l (i + 1)))) q)

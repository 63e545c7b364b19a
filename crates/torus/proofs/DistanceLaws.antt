-- The distance of two nodes is the shorter way round in columns plus the shorter way round in rows: a test that antt computes at every
-- pair of nodes of every grid. And the shorter way round as the code has it, which is arithmetic on a ring of any size.
-- Assumes nothing.
use Prim.Native.Nat.{ℕ, ◌+◌, ◌-◌, ◌*◌, ◌%◌, ◌<◌, ◌≤◌, min}
use mathlib.Core.Bool.{Bool, true, false}
use mathlib.Core.Path.{◌≡◌, refl, sym, ap, ap₂, subst, ◌∙◌}
use native.Mathlib.Omega.{arith}
use native.Mathlib.Nat.{le_of_suc-le-suc, mul_comm, mod-lt, mod_self, mod-eq_of_lt, add-mod_right, div-lt_iff_lt-mul, min_comm}
use lib.Dec.{T, eqb, ltb, eqb→eq, ltb→lt}
use Rattle.words.proofs.Below.{every, every_at}
use Rattle.words.specs.Words.{least_from}
use Rattle.words.specs.Tests.{◌=?◌, ◌<?◌, ◌or◌, any}
use Rattle.words.proofs.TestLaws.{is<, not<}
use Rattle.torus.specs.Torus.{row_of, column_of, neighbour_of, walks, distance_of, shorter_way, round_distance, DistanceFormula}
use Rattle.torus.specs.Inner.Grid.{InGrid}
use Rattle.torus.proofs.NeighbourLaws.{every_node, at_node}

-- the test passes at every pair of nodes of every grid
abbrev every_pair : (ℕ → ℕ → ℕ → ℕ → Bool) → Bool
every_pair test = every_node (λ c r from. every (c * r) (test c r from))

-- so it passes at each of them
pub at_pair : (test : ℕ → ℕ → ℕ → ℕ → Bool) → T (every_pair test)
    → (cols rows from to : ℕ) → InGrid cols rows from → InGrid cols rows to → T (test cols rows from to)
at_pair test t cols rows from to g h =
    every_at (cols * rows) (test cols rows from)
    (at_node (λ c r n. every (c * r) (test c r n)) t cols rows from g) to h.inside

-- the distance of two nodes of a grid by the formula
pub distance_formula : DistanceFormula
unfolding distance_of round_distance shorter_way walks neighbour_of least_from ◌=?◌ ◌or◌ any
distance_formula cols rows from to g h =
    eqb→eq _ _ (at_pair (λ c r n m. eqb (distance_of c r n m) (round_distance c r n m)) tt cols rows from to g h)

-- it is at most 4
pub distance_most : (cols rows from to : ℕ) → InGrid cols rows from → InGrid cols rows to → distance_of cols rows from to ≤ 4
unfolding round_distance shorter_way
distance_most cols rows from to g h =
    subst (λ d. d ≤ 4) (sym (distance_formula cols rows from to g h))
    (le_of_suc-le-suc (ltb→lt _ 5 (at_pair (λ c r n m. ltb (round_distance c r n m) 5) tt cols rows from to g h)))

-- and its vertical part at most 2
pub vertical_most : (cols rows from to : ℕ) → InGrid cols rows from → InGrid cols rows to → shorter_way rows (row_of cols from) (row_of cols to) ≤ 2
unfolding shorter_way
vertical_most cols rows from to g h =
    le_of_suc-le-suc (ltb→lt _ 3 (at_pair (λ c r n m. ltb (shorter_way r (row_of c n) (row_of c m)) 3) tt cols rows from to g h))

-- the column and the row of a node are places of their rings
pub column_inside : {cols rows node place : ℕ} → InGrid cols rows node → place ≡ column_of cols node → place < cols
column_inside {cols} {rows} {node} g e = subst (λ k. k < cols) (sym e) (mod-lt node (omega (arith, g.cols_low)))

pub row_inside : {cols rows node place : ℕ} → InGrid cols rows node → place ≡ row_of cols node → place < rows
row_inside {cols} {rows} {node} g e =
    subst (λ k. k < rows) (sym e)
    ((div-lt_iff_lt-mul {k = cols} {x = node} {y = rows} (omega (arith, g.cols_low))).1
    (subst (λ k. node < k) (mul_comm cols rows) g.inside))

-- the way on to a later place is the difference of the places; to an earlier one it is the rest of the ring
pub way_ahead : (n a b : ℕ) → b < n → a ≤ b → b - a ≡ (b + n - a) % n
way_ahead n a b h l =
    sym (mod-eq_of_lt (omega arith)) ∙ sym (add-mod_right (b - a) n) ∙ ap (λ (k : ℕ). k % n) (omega arith)

pub way_round : (n a b : ℕ) → a < n → b < a → n - a + b ≡ (b + n - a) % n
way_round n a b h l = sym (mod-eq_of_lt (omega arith)) ∙ ap (λ (k : ℕ). k % n) (omega arith)

-- no way is the shorter between a place and itself
pub shorter_none : (n place : ℕ) → shorter_way n place place ≡ 0
unfolding shorter_way
shorter_none n place =
    let whole : place + n - place ≡ n = omega arith in
    rw (whole, mod_self n) refl

-- of the places' difference and the rest of the ring, the less is the shorter way
pub shorter_is : (n a b way : ℕ) → a < n → b < n → way ≡ (a - b) + (b - a) → min way (n - way) ≡ shorter_way n a b
unfolding shorter_way
shorter_is n a b way ha hb e = go (a <? b) refl (b <? a) refl
  where
    min_zero : (k : ℕ) → min 0 k ≡ 0
    min_zero k = omega arith

    go : (x : Bool) → (a <? b) ≡ x → (y : Bool) → (b <? a) ≡ y → min way (n - way) ≡ min ((b + n - a) % n) ((a + n - b) % n)
    go true p y q =
        let l = is< a b p in
        ap₂ min (let d : way ≡ b - a = omega arith in d ∙ way_ahead n a b hb (omega arith))
        (let d : n - way ≡ n - b + a = omega arith in d ∙ way_round n b a hb l)
    go false p true q =
        let l = is< b a q in
        min_comm way (n - way)
        ∙ ap₂ min (let d : n - way ≡ n - a + b = omega arith in d ∙ way_round n a b ha l)
        (let d : way ≡ a - b = omega arith in d ∙ way_ahead n b a ha (omega arith))
    go false p false q =
        let d : a ≡ b = omega (arith, not< a b p, not< b a q) in
        let none : way ≡ 0 = omega arith in
        ap (λ k. min k (n - way)) none ∙ min_zero (n - way) ∙ sym (shorter_none n b) ∙ ap (λ k. min ((b + n - k) % n) ((k + n - b) % n)) (sym d)

-- the shorter ways between the columns and between the rows together are the distance
pub ways_together : {cols rows from to a b c d in_columns in_rows : ℕ} → InGrid cols rows from → InGrid cols rows to
    → a ≡ column_of cols from → b ≡ column_of cols to → c ≡ row_of cols from → d ≡ row_of cols to
    → in_columns ≡ shorter_way cols a b → in_rows ≡ shorter_way rows c d → in_columns + in_rows ≡ distance_of cols rows from to
unfolding round_distance
ways_together {cols} {rows} {from} {to} g h ea eb ec ed x y =
    ap₂ (λ (m n : ℕ). m + n) (x ∙ ap₂ (shorter_way cols) ea eb) (y ∙ ap₂ (shorter_way rows) ec ed)
    ∙ sym (distance_formula cols rows from to g h)

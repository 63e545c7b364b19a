-- The neighbours of a node, as the code computes them: a test that antt computes at every node of every grid. And bounds of a grid.
-- Assumes nothing.
use Prim.Native.Nat.{ℕ, zero, suc, ◌+◌, ◌-◌, ◌*◌, ◌%◌, ◌≤◌, ◌<◌}
use mathlib.Core.Bool.{Bool}
use mathlib.Core.Path.{◌≡◌, refl, subst, sym, ap, ◌∙◌}
use native.Mathlib.Omega.{arith}
use native.Mathlib.Nat.{mul-le-mul, le_refl, mod-le}
use lib.Dec.{T, eqb, ltb, eqb→eq, ltb→lt}
use Rattle.words.specs.Words.{pick}
use Rattle.words.proofs.Below.{every, every_at}
use Rattle.torus.specs.Torus.{neighbour_of, opposite_of}
use Rattle.torus.specs.Inner.Grid.{InGrid}

-- the test passes at every node of every grid
abbrev pub every_node : (ℕ → ℕ → ℕ → Bool) → Bool
every_node test = every 3 (λ c. every 3 (λ r. every ((c + 2) * (r + 2)) (test (c + 2) (r + 2))))

-- so it passes at each of them
pub at_node : (test : ℕ → ℕ → ℕ → Bool) → T (every_node test)
    → (cols rows node : ℕ) → InGrid cols rows node → T (test cols rows node)
at_node test t cols rows node g =
    let cols-back : cols - 2 + 2 ≡ cols = omega arith in
    let rows_back : rows - 2 + 2 ≡ rows = omega arith in
    let in-cols = every_at 3 (λ c. every 3 (λ r. every ((c + 2) * (r + 2)) (test (c + 2) (r + 2)))) t (cols - 2) (omega arith) in
    let in_rows =
    every_at 3 (λ r. every (cols * (r + 2)) (test cols (r + 2)))
    (subst (λ n. T (every 3 (λ r. every (n * (r + 2)) (test n (r + 2))))) cols-back in-cols) (rows - 2) (omega arith) in
    every_at (cols * rows) (test cols rows) (subst (λ n. T (every (cols * n) (test cols n))) rows_back in_rows) node g.inside

-- bounds of a grid of 2 to 4 columns and rows, and of a node of it
pub record Bounds (cols rows node : ℕ) : Type 0 where
  pub grid_high : cols * rows ≤ 16
  pub two_rows : cols * 2 ≤ cols * rows
  pub remainder_high : node % cols ≤ node

-- each node of a grid has them
pub bounds : {cols rows node : ℕ} → InGrid cols rows node → Bounds cols rows node
bounds {cols} {rows} {node} g = record {
  grid_high = mul-le-mul g.cols_high g.rows_high;
  two_rows = mul-le-mul (le_refl cols) g.rows_low;
  remainder_high = mod-le node cols;
}

-- the node by each side, as the code has it, where its test has a value
abbrev pub north_by : Bool → ℕ → ℕ → ℕ → ℕ
north_by first cols rows node = pick first (node + cols * rows - cols) (node - cols)

abbrev pub east_by : Bool → ℕ → ℕ → ℕ → ℕ
east_by last cols rows node = pick last (node + 1 - cols) (node + 1)

abbrev pub south_by : Bool → ℕ → ℕ → ℕ → ℕ
south_by within cols rows node = pick within (node + cols) (node + cols - cols * rows)

abbrev pub west_by : Bool → ℕ → ℕ → ℕ → ℕ
west_by first cols rows node = pick first (node + cols - 1) (node - 1)

-- every side from 3 on is west
pub west_too : (cols rows node side : ℕ) → (side ≡ 0 → ⊥) → (side ≡ 1 → ⊥) → (side ≡ 2 → ⊥)
    → neighbour_of cols rows node 3 ≡ neighbour_of cols rows node side
unfolding neighbour_of
west_too cols rows node zero a b c = absurd (a refl)
west_too cols rows node (suc zero) a b c = absurd (b refl)
west_too cols rows node (suc (suc zero)) a b c = absurd (c refl)
west_too cols rows node (suc (suc (suc side))) a b c = refl

all_inside : (side : ℕ) → T (every_node (λ c r n. ltb (neighbour_of c r n side) (c * r)))
unfolding neighbour_of
all_inside zero = tt
all_inside (suc zero) = tt
all_inside (suc (suc zero)) = tt
all_inside (suc (suc (suc side))) = tt

module _ {cols rows node : ℕ} (g : InGrid cols rows node) where
  -- the node one row up is the code's
  pub north_is : {b : Bool} → ltb node cols ≡ b → north_by b cols rows node ≡ neighbour_of cols rows node 0
  unfolding neighbour_of
  north_is e =
      sym
      (eqb→eq _ _ (at_node (λ c r n. eqb (neighbour_of c r n 0) (north_by (ltb n c) c r n)) tt cols rows node g)
      ∙ ap (λ t. north_by t cols rows node) e)

  -- the node one column on is the code's
  pub east_is : {b : Bool} → eqb (node % cols) (cols - 1) ≡ b → east_by b cols rows node ≡ neighbour_of cols rows node 1
  unfolding neighbour_of
  east_is e =
      sym
      (eqb→eq _ _ (at_node (λ c r n. eqb (neighbour_of c r n 1) (east_by (eqb (n % c) (c - 1)) c r n)) tt cols rows node g)
      ∙ ap (λ t. east_by t cols rows node) e)

  -- the node one row down is the code's
  pub south_is : {b : Bool} → ltb (node + cols) (cols * rows) ≡ b → south_by b cols rows node ≡ neighbour_of cols rows node 2
  unfolding neighbour_of
  south_is e =
      sym
      (eqb→eq _ _ (at_node (λ c r n. eqb (neighbour_of c r n 2) (south_by (ltb (n + c) (c * r)) c r n)) tt cols rows node g)
      ∙ ap (λ t. south_by t cols rows node) e)

  -- the node one column back is the code's
  pub west_is : {b : Bool} → eqb (node % cols) 0 ≡ b → west_by b cols rows node ≡ neighbour_of cols rows node 3
  unfolding neighbour_of
  west_is e =
      sym
      (eqb→eq _ _ (at_node (λ c r n. eqb (neighbour_of c r n 3) (west_by (eqb (n % c) 0) c r n)) tt cols rows node g)
      ∙ ap (λ t. west_by t cols rows node) e)

  -- a neighbour is a node of the grid
  pub neighbour_inside : (side : ℕ) → neighbour_of cols rows node side < cols * rows
  neighbour_inside side =
      ltb→lt _ _ (at_node (λ c r n. ltb (neighbour_of c r n side) (c * r)) (all_inside side) cols rows node g)

-- the opposite of a side is a side, and the opposite of that is the first
pub opposite_side : (side : ℕ) → opposite_of side < 4
opposite_side side = omega arith

pub opposite_back : (side : ℕ) → side < 4 → opposite_of (opposite_of side) ≡ side
opposite_back side l = omega arith

all_back : (side : ℕ) → side < 4 → T (every_node (λ c r n. eqb (neighbour_of c r (neighbour_of c r n side) (opposite_of side)) n))
unfolding neighbour_of
all_back zero l = tt
all_back (suc zero) l = tt
all_back (suc (suc zero)) l = tt
all_back (suc (suc (suc zero))) l = tt
all_back (suc (suc (suc (suc side)))) l = absurd (omega arith)

-- a step by a side and a step by its opposite lead back
pub neighbour_back : {cols rows node : ℕ} → InGrid cols rows node → (side : ℕ) → side < 4
    → neighbour_of cols rows (neighbour_of cols rows node side) (opposite_of side) ≡ node
neighbour_back {cols} {rows} {node} g side l =
    eqb→eq _ _
    (at_node (λ c r n. eqb (neighbour_of c r (neighbour_of c r n side) (opposite_of side)) n) (all_back side l) cols rows node g)

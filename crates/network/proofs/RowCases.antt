-- A statement about every row, from one for each row of the list: a row is found by its number, and all are listed.
-- Assumes nothing.
use Prim.Native.Nat.{ℕ, ◌+◌, ◌≤◌, ◌<◌}
use mathlib.Core.Bool.{Bool, true, false, false≢true}
use mathlib.Core.List.{List, [], ◌∷◌}
use mathlib.Core.Path.{◌≡◌, refl, sym, subst, ◌∙◌}
use native.Mathlib.Omega.{arith}
use native.Mathlib.Decide.{ℕ_discrete}
use Rattle.words.specs.Tests.{all, ◌and◌, ◌or◌, ◌=?◌}
use Rattle.words.proofs.TestLaws.{is=, or_cases}
use Rattle.words.proofs.AllLaws.{all_at}
use Rattle.network.specs.Registers.{row_count, clock_row, clock_words, link_mark, link_word, head_mark, head_word, choice_row, latch_row, out_mark}
use Rattle.network.specs.Registers.{out_word, receive_mark, receive_kind, receive_address, landing_mark, landing_kind, landing_address, landing_word}
use Rattle.network.specs.Registers.{left_row, read_row, write_row, kind_row, to_go_row, extra_mark, extra_word}
use Rattle.network.specs.Inner.Machine.{Row, register_row, row_in, next_rows, five_a_node, one_a_node, one_a_circuit}

infixr 20 ◌also◌
infixr 20 ◌besides◌
-- a statement about each row of a list
pub data Each (P : Row → Type 0) : List Row → Type 0 where
  that_is_all : Each P []
  onward : {x : Row} {rows : List Row} → P x → Each P rows → Each P (x ∷ rows)

pub ◌also◌ : {P : Row → Type 0} {x : Row} {rows : List Row} → P x → Each P rows → Each P (x ∷ rows)
p also ps = onward p ps

unfoldable listed : List Row → ℕ → Bool
listed [] row = false
listed (x ∷ rows) row = x.number =? row or listed rows row

found : (P : Row → Type 0) (b : Bool) (x y : Row) → (b ≡ true → P x) → (b ≡ false → P y) → P (elim b [ true ↦ x | false ↦ y ])
found P true x y this other = this refl
found P false x y this other = other refl

-- the row that is found has the number that was looked for
pub found_number : (rows : List Row) (row : ℕ) → (row_in rows row).number ≡ row
unfolding row_in
found_number [] row = refl
found_number (x ∷ rows) row =
    found (λ y. y.number ≡ row) (x.number =? row) x (row_in rows row) (is= _ _) (λ e. found_number rows row)

each_found : (P : Row → Type 0) (rows : List Row) → Each P rows → (row : ℕ) → listed rows row ≡ true → P (row_in rows row)
unfolding row_in listed
each_found P [] that_is_all row e = absurd (false≢true e)
each_found P (x ∷ rows) (onward p ps) row e =
    found P (x.number =? row) x (row_in rows row) (λ h. p) (λ h.
    each_found P rows ps row (or_cases _ _ e (λ this. absurd (false≢true (sym h ∙ this))) (λ other. other)))

all_listed : (s m : List ℕ) → all row_count (listed (next_rows s m)) ≡ true
unfolding all listed next_rows ◌=?◌ ◌and◌ ◌or◌
all_listed s m = refl

pub by_row : (s m : List ℕ) (P : Row → Type 0) → Each P (next_rows s m) → (row : ℕ) → row < row_count → P (row_in (next_rows s m) row)
by_row s m P each row l = each_found P (next_rows s m) each row (all_at (listed (next_rows s m)) row_count (all_listed s m) row l)

-- how many registers of a row the sheet has
pub record Extent (s : List ℕ) (x : Row) : Type 0 where
  pub clock : x.number ≡ clock_row → x.extent ≡ clock_words
  pub router : link_mark ≤ x.number → x.number ≤ out_word → x.extent ≡ five_a_node s
  pub node : receive_mark ≤ x.number → x.number ≤ landing_word → x.extent ≡ one_a_node s
  pub circuit : left_row ≤ x.number → x.number ≤ to_go_row → x.extent ≡ one_a_circuit s
  pub extra : extra_mark ≤ x.number → x.number ≤ extra_word → x.extent ≡ five_a_node s

-- a row of the clock, of the routers, of the nodes, of the circuits and of the extra registers
module _ {s : List ℕ} (row : ℕ) {next : ℕ → ℕ} where
  of_clock : row ≡ clock_row → Extent s (register_row row clock_words next)
  of_clock e = record {
    clock = λ c. refl;
    router = λ c d. absurd (omega arith);
    node = λ c d. absurd (omega arith);
    circuit = λ c d. absurd (omega arith);
    extra = λ c d. absurd (omega arith);
  }

  of_router : link_mark ≤ row → row ≤ out_word → Extent s (register_row row (five_a_node s) next)
  of_router a b = record {
    clock = λ c. absurd (omega arith);
    router = λ c d. refl;
    node = λ c d. absurd (omega arith);
    circuit = λ c d. absurd (omega arith);
    extra = λ c d. absurd (omega arith);
  }

  of_node : receive_mark ≤ row → row ≤ landing_word → Extent s (register_row row (one_a_node s) next)
  of_node a b = record {
    clock = λ c. absurd (omega arith);
    router = λ c d. absurd (omega arith);
    node = λ c d. refl;
    circuit = λ c d. absurd (omega arith);
    extra = λ c d. absurd (omega arith);
  }

  of_circuit : left_row ≤ row → row ≤ to_go_row → Extent s (register_row row (one_a_circuit s) next)
  of_circuit a b = record {
    clock = λ c. absurd (omega arith);
    router = λ c d. absurd (omega arith);
    node = λ c d. absurd (omega arith);
    circuit = λ c d. refl;
    extra = λ c d. absurd (omega arith);
  }

  of_extra : extra_mark ≤ row → row ≤ extra_word → Extent s (register_row row (five_a_node s) next)
  of_extra a b = record {
    clock = λ c. absurd (omega arith);
    router = λ c d. absurd (omega arith);
    node = λ c d. absurd (omega arith);
    circuit = λ c d. absurd (omega arith);
    extra = λ c d. refl;
  }

each_extent : (s m : List ℕ) → Each (Extent s) (next_rows s m)
unfolding next_rows
each_extent s m =
    of_clock clock_row refl
    also of_router link_mark (omega arith) (omega arith)
    also of_router link_word (omega arith) (omega arith)
    also of_router head_mark (omega arith) (omega arith)
    also of_router head_word (omega arith) (omega arith)
    also of_router choice_row (omega arith) (omega arith)
    also of_router latch_row (omega arith) (omega arith)
    also of_router out_mark (omega arith) (omega arith)
    also of_router out_word (omega arith) (omega arith)
    also of_node receive_mark (omega arith) (omega arith)
    also of_node receive_kind (omega arith) (omega arith)
    also of_node receive_address (omega arith) (omega arith)
    also of_node landing_mark (omega arith) (omega arith)
    also of_node landing_kind (omega arith) (omega arith)
    also of_node landing_address (omega arith) (omega arith)
    also of_node landing_word (omega arith) (omega arith)
    also of_circuit left_row (omega arith) (omega arith)
    also of_circuit read_row (omega arith) (omega arith)
    also of_circuit write_row (omega arith) (omega arith)
    also of_circuit kind_row (omega arith) (omega arith)
    also of_circuit to_go_row (omega arith) (omega arith)
    also of_extra extra_mark (omega arith) (omega arith)
    also of_extra extra_word (omega arith) (omega arith)
    also that_is_all

module _ (s m : List ℕ) (row : ℕ) (l : row < row_count) where
  extents : Extent s (row_in (next_rows s m) row)
  extents = by_row s m (Extent s) (each_extent s m) row l

  same : (row_in (next_rows s m) row).number ≡ row
  same = found_number (next_rows s m) row

  pub clock_extent : row ≡ clock_row → (row_in (next_rows s m) row).extent ≡ clock_words
  clock_extent e = extents.clock (same ∙ e)

  pub router_extent : link_mark ≤ row → row ≤ out_word → (row_in (next_rows s m) row).extent ≡ five_a_node s
  router_extent a b = extents.router (omega (arith, same)) (omega (arith, same))

  pub node_extent : receive_mark ≤ row → row ≤ landing_word → (row_in (next_rows s m) row).extent ≡ one_a_node s
  node_extent a b = extents.node (omega (arith, same)) (omega (arith, same))

  pub circuit_extent : left_row ≤ row → row ≤ to_go_row → (row_in (next_rows s m) row).extent ≡ one_a_circuit s
  circuit_extent a b = extents.circuit (omega (arith, same)) (omega (arith, same))

  pub extra_extent : extra_mark ≤ row → row ≤ extra_word → (row_in (next_rows s m) row).extent ≡ five_a_node s
  extra_extent a b = extents.extra (omega (arith, same)) (omega (arith, same))

-- a statement about each row from one to another
pub record Rows (P : ℕ → Type 0) (low high : ℕ) : Type 0 where
  pub each : (row : ℕ) → low ≤ row → row ≤ high → P row

pub in_rows : (P : ℕ → Type 0) (low high : ℕ) → Rows P low high → (row : ℕ) → low ≤ row → row ≤ high → P row
in_rows P low high all = all.each

pub ◌besides◌ : {P : ℕ → Type 0} {low high : ℕ} → P low → Rows P (low + 1) high → Rows P low high
◌besides◌ {P = P} {low = low} {high = high} p ps = record { each = λ row a b. go row a b (ℕ_discrete low row) }
  where
    go : (row : ℕ) → low ≤ row → row ≤ high → Dec (low ≡ row) → P row
    go row a b (yes e) = subst P e p
    go row a b (no ne) = ps.each row (omega (arith, ne)) b

pub no_more : {P : ℕ → Type 0} {high : ℕ} → Rows P (high + 1) high
no_more = record { each = λ row a b. absurd (omega arith) }

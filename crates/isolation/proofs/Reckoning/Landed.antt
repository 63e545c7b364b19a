-- What landed at a node stays answered until the next cycle, and nothing has landed directly after the load.
-- Assumes nothing.
use Prim.Native.Nat.{ℕ, ◌≤◌, ◌<◌}
use mathlib.Core.Bool.{Bool, true, false, false≢true}
use mathlib.Core.List.{List}
use mathlib.Core.Path.{◌≡◌, refl, sym, ◌∙◌, ap}
use native.Mathlib.Omega.{arith}
use native.Mathlib.Decide.{ℕ_discrete}
use Rattle.sheet.specs.Sheet.{circuits, nodes}
use Rattle.network.specs.View.{nothing}
use Rattle.network.specs.Registers.{reg, landing_mark, landing_kind, landing_address, landing_word, row_words}
use Rattle.network.specs.Seen.{seen_landing}
use Rattle.session.specs.Calls.{Lent, Call, load, start, start_all, store, order, cycle, is_load, number, does, after, ask}
use Rattle.session.proofs.NumberLaws.{start_passed}
use Rattle.soundness.proofs.SheetLaws.{sheet_bounds}
use Rattle.session.proofs.RegisterLaws.{started_other, ordered_other}
use Rattle.isolation.specs.Sessions.{Session, after_load}
use Rattle.session.proofs.WritingLaws.{after_done, after_refused}
use Rattle.isolation.proofs.Reckoning.Stream.{is_cycle, seen, Fine, fine_bounds, list_has, session_passes, zero_at}

-- words with the same landing registers
landing_same : (w w' : Lent) (node : ℕ) → ((row : ℕ) → 12 ≤ row → row ≤ 15 → reg w'.state row node ≡ reg w.state row node)
    → (seen w').landing node ≡ (seen w).landing node
landing_same w w' node h =
    rw (
      h landing_mark (omega arith) (omega arith),
      h landing_kind (omega arith) (omega arith),
      h landing_address (omega arith) (omega arith),
      h landing_word (omega arith) (omega arith),
    ) refl

module _ (z : List ℕ) (w : Lent) (f : Fine z w) (node : ℕ) (inside : node < nodes z) where
  few : node < row_words
  few = omega (arith, (fine_bounds z w f).few_nodes)

  start_kept : (circuit read_address write_address count kind : ℕ) → number (start circuit read_address write_address count kind) w ≡ 0
      → (seen (does (start circuit read_address write_address count kind) w)).landing node ≡ (seen w).landing node
  start_kept circuit read_address write_address count kind e =
      let p = start_passed w.state circuit read_address write_address count kind e in
      let small : circuit < row_words = omega (arith, p.circuit_inside, (fine_bounds z w f).few_circuits, ap circuits f.sheet_is) in
      landing_same w (does (start circuit read_address write_address count kind) w) node
      (λ row low high. started_other w.state circuit read_address write_address count kind small row node few (λ a b q. omega arith))

module _ (z : List ℕ) (w : Lent) (f : Fine z w) (node : ℕ) (inside : node < nodes z) where
  -- any call but a cycle, carried out
  does_kept : (x : Call) → is_load x ≡ false → is_cycle x ≡ false → number x w ≡ 0 → (seen (does x w)).landing node ≡ (seen w).landing node
  does_kept (load y) n c e = absurd (false≢true (sym n))
  does_kept (start circuit read_address write_address count kind) n c e = start_kept z w f node inside circuit read_address write_address count kind e
  does_kept (start_all ts answer_words) n c e =
      list_has z (λ (u : Lent). (seen u).landing node ≡ (seen w).landing node)
      (λ t u g e p. start_kept z u g node inside t.circuit t.read t.write t.count t.kind e ∙ p) ts w f refl
  does_kept (store at address new) n c e = refl
  does_kept (ask question) n c e = refl
  does_kept (order schedule period) n c e =
      landing_same w (does (order schedule period) w) node
      (λ row low high. ordered_other w.state schedule period row node (few z w f node inside) (λ q a b. omega arith))
  does_kept cycle n c e = absurd (false≢true (sym c))

  -- a call of a session that is no cycle
  pub landing_kept : (x : Call) → (is_load x ≡ true → number x w ≡ 0 → ⊥) → is_cycle x ≡ false
      → (seen (after x w)).landing node ≡ (seen w).landing node
  landing_kept x r c = go (ℕ_discrete (number x w) 0) (is_load x) refl
    where
      go : Dec (number x w ≡ 0) → (b : Bool) → is_load x ≡ b → (seen (after x w)).landing node ≡ (seen w).landing node
      go (yes e) true q = absurd (r q e)
      go (yes e) false q = ap (λ (y : Lent). (seen y).landing node) (after_done x w e) ∙ does_kept x q c e
      go (no ne) b q = ap (λ (y : Lent). (seen y).landing node) (after_refused x w ne)

-- directly after the load
pub landing_opened : (l : Session) (node : ℕ) → node < nodes l.sheet → (seen (after_load l)).landing node ≡ nothing
landing_opened l node inside =
    let s : List ℕ = (after_load l).state in
    ap (λ (mark : ℕ). seen_landing mark (reg s landing_kind node) (reg s landing_address node) (reg s landing_word node))
    (zero_at l landing_mark node (omega arith)
    (omega (arith, (sheet_bounds l.sheet (session_passes l)).few_nodes)))

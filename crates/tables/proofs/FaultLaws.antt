-- The faults of a cycle, looked for one kind after the other.
-- Assumes nothing.
use Prim.Native.Nat.{ℕ}
use mathlib.Core.Bool.{Bool, true, false, not}
use mathlib.Core.Path.{◌≡◌, refl, sym, ◌∙◌, ap, ap₂}
use mathlib.Core.List.{List}
use Rattle.words.specs.Tests.{any, ◌or◌}
use Rattle.words.proofs.AllLaws.{any_same, any_or}
use Rattle.words.proofs.NumberLaws.{unless_no, unless_yes}
use Rattle.words.specs.Numbers.{unless}
use Rattle.network.specs.OneMachine.{cycle_fault}
use native.Mathlib.Omega.{arith}
use Rattle.sheet.specs.Sheet.{circuits, nodes}
use Rattle.network.specs.Registers.{sheet_in}
use Rattle.network.specs.Inner.Machine.{collides_in, unheld_in, unchosen_in, headless_in, crowds_in, strays_in, reopens_in, faulty_in}

true_or : (a : Bool) → (true or a) ≡ true
unfolding ◌or◌
true_or a = refl

false_or : (a : Bool) → (false or a) ≡ a
unfolding ◌or◌
false_or a = refl

first_true : (a b : Bool) → ((true or a) or b) ≡ true
unfolding ◌or◌
first_true a b = refl

first_false : (a b : Bool) → ((false or a) or b) ≡ (a or b)
unfolding ◌or◌
first_false a b = refl

last_first : (a b c : Bool) → ((a or b) or c) ≡ ((a or c) or b)
unfolding ◌or◌
last_first true b c = refl
last_first false true true = refl
last_first false true false = refl
last_first false false true = refl
last_first false false false = refl

second_first : (a b c d : Bool) → (a or ((b or c) or d)) ≡ ((a or c) or (b or d))
unfolding ◌or◌
second_first true b c d = refl
second_first false true true d = refl
second_first false true false d = refl
second_first false false c d = refl

module _ (s : List ℕ) where
  abbrev pub collided : Bool
  collided = any (nodes (sheet_in s)) (λ node. any 5 (collides_in s node))

  abbrev pub unchosen : Bool
  unchosen = any (nodes (sheet_in s)) (λ node. any 5 (unchosen_in s node))

  -- what the crossbar finds
  abbrev pub crossed : Bool
  crossed = collided or unchosen

  abbrev pub unheld : Bool
  unheld = any (nodes (sheet_in s)) (λ node. any 5 (unheld_in s node))

  abbrev pub crowded : Bool
  crowded = any (nodes (sheet_in s)) (crowds_in s)

  abbrev pub strayed : Bool
  strayed = any (nodes (sheet_in s)) (strays_in s)

  abbrev pub reopened : Bool
  reopened = any (circuits (sheet_in s)) (reopens_in s)

  -- a payload word has no header: both halves
  headless_are : any (nodes (sheet_in s)) (λ node. any 5 (headless_in s node)) ≡ (unheld or unchosen)
  unfolding headless_in
  headless_are =
      any_same (nodes (sheet_in s)) _ _ (λ node _. sym (any_or 5 (unheld_in s node) (unchosen_in s node)))
      ∙ sym (any_or (nodes (sheet_in s)) (λ node. any 5 (unheld_in s node)) (λ node. any 5 (unchosen_in s node)))

  faults_are : faulty_in s ≡ ((crossed or (unheld or (crowded or strayed))) or reopened)
  unfolding faulty_in
  faults_are =
      ap (λ (b : Bool). b or reopened)
      (sym (any_or (nodes (sheet_in s)) (λ node. any 5 (collides_in s node)) (λ node. any 5 (headless_in s node) or crowds_in s node or strays_in s node))
      ∙ ap (λ (b : Bool). collided or b)
      (sym (any_or (nodes (sheet_in s)) (λ node. any 5 (headless_in s node)) (λ node. crowds_in s node or strays_in s node))
      ∙ ap₂ ◌or◌ headless_are (sym (any_or (nodes (sheet_in s)) (crowds_in s) (strays_in s))))
      ∙ second_first collided unheld unchosen (crowded or strayed))

  -- a fault of the kind that is looked for, or none of the kinds so far
  pub fault_crossed : crossed ≡ true → true ≡ faulty_in s
  fault_crossed h = sym (faults_are ∙ ap (λ (b : Bool). (b or (unheld or (crowded or strayed))) or reopened) h ∙ first_true _ _)

  module _ (c : crossed ≡ false) where
    past_crossed : faulty_in s ≡ ((unheld or (crowded or strayed)) or reopened)
    past_crossed = faults_are ∙ ap (λ (b : Bool). (b or (unheld or (crowded or strayed))) or reopened) c ∙ first_false _ _

    pub fault_unheld : unheld ≡ true → true ≡ faulty_in s
    fault_unheld h = sym (past_crossed ∙ ap (λ (b : Bool). (b or (crowded or strayed)) or reopened) h ∙ first_true _ _)

    module _ (d : unheld ≡ false) where
      past_unheld : faulty_in s ≡ ((crowded or reopened) or strayed)
      past_unheld =
          past_crossed ∙ ap (λ (b : Bool). (b or (crowded or strayed)) or reopened) d ∙ first_false _ _ ∙ last_first crowded strayed reopened

      fault_wires : (crowded or reopened) ≡ true → true ≡ faulty_in s
      fault_wires h = sym (past_unheld ∙ ap (λ (b : Bool). b or strayed) h ∙ true_or strayed)

      -- by the sources' number: a refusal is the cycle's
      pub wires_refused : (n : ℕ) → (n ≡ 0 → ⊥) → n ≡ unless 20 (not (crowded or reopened)) → n ≡ cycle_fault s
      unfolding cycle_fault
      wires_refused n ne e = go (crowded or reopened) refl
        where
          go : (b : Bool) → (crowded or reopened) ≡ b → n ≡ unless 20 (not (faulty_in s))
          go true h = e ∙ ap (λ (b : Bool). unless 20 (not b)) (h ∙ fault_wires h)
          go false h = absurd (ne (e ∙ sym (unless_yes 20 (ap not h))))

      wires_passed : 0 ≡ unless 20 (not (crowded or reopened)) → (crowded or reopened) ≡ false
      wires_passed e = go (crowded or reopened) refl
        where
          go : (b : Bool) → (crowded or reopened) ≡ b → (crowded or reopened) ≡ false
          go true h = let z : ◌≡◌ {A = ℕ} 0 20 = e ∙ sym (unless_no 20 (ap not h)) in absurd (omega (arith, z))
          go false h = h

      -- and where they have none, a stray word decides
      pub fault_last : 0 ≡ unless 20 (not (crowded or reopened)) → (r : Bool) → r ≡ strayed → r ≡ faulty_in s
      fault_last h r e = e ∙ sym (past_unheld ∙ ap (λ (b : Bool). b or strayed) (wires_passed h) ∙ false_or strayed)

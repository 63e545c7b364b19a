-- A payload word without a latch, and the loop that counts such words over the inputs of all nodes.
-- Assumes nothing.
use Prim.Native.Nat.{ℕ, ◌+◌, ◌*◌, ◌<◌, ◌≤◌}
use mathlib.Core.Bool.{Bool, true, false}
use mathlib.Core.List.{List}
use mathlib.Core.Path.{◌≡◌, sym, ◌∙◌, ap, ap₂}
use native.Mathlib.Omega.{arith}
use lib.ListN.{length}
use Rattle.words.specs.Tests.{any, ◌and◌, ◌or◌, ◌≤?◌, ◌=?◌}
use Rattle.words.specs.Words.{pick}
use Rattle.words.proofs.AllLaws.{any_start, any_more, any_by_row}
use Rattle.words.proofs.TestLaws.{yes≤, no≤}
use Rattle.sheet.specs.Sheet.{nodes}
use Rattle.network.specs.Registers.{reg, sheet_in, moving_words, link_mark, latch_row}
use Rattle.network.specs.Inner.Machine.{unheld_in}
use Rattle.routers.proofs.PlaceLaws.{some_sum, no_nodes}

-- the loop over the inputs of all nodes, by place
abbrev unheld_at : List ℕ → ℕ → Bool
unheld_at s k = 2 ≤? reg s link_mark k and reg s latch_row k =? 0

pub record Counting (s : List ℕ) (k faults : ℕ) : Type 0 where
  pub few : faults ≤ k
  pub found : (1 ≤? faults) ≡ any k (unheld_at s)

pub counting_start : (s : List ℕ) → Counting s 0 0
counting_start s =
    let none : 0 < 1 = omega arith in
    record { few = omega arith; found = no≤ none ∙ sym (any_start (unheld_at s)) }

one_pick : (b : Bool) → (pick b 1 0 ≤ 1) × ((1 ≤? pick b 1 0) ≡ b)
one_pick true =
    let one : 1 ≤ 1 = omega arith in
    (one, yes≤ one)
one_pick false =
    let none : 0 < 1 = omega arith in
    (omega arith, no≤ none)

pub one_more : (mark latch : ℕ) {r : ℕ} → r ≡ pick (2 ≤? mark and latch =? 0) 1 0 → r ≤ 1
one_more mark latch e = omega (arith, e, (one_pick (2 ≤? mark and latch =? 0)).0)

pub counting_more : (s : List ℕ) (k faults : ℕ) → Counting s k faults → (mark latch r : ℕ)
    → mark ≡ reg s link_mark k
    → latch ≡ reg s latch_row k
    → r ≡ pick (2 ≤? mark and latch =? 0) 1 0
    → Counting s (k + 1) (faults + r)
counting_more s k faults i mark latch r e f g =
    let test = 2 ≤? mark and latch =? 0 in
    let same : test ≡ unheld_at s k = ap₂ (λ (a b : ℕ). 2 ≤? a and b =? 0) e f in
    record {
      few = omega (arith, i.few, one_more mark latch g);
      found =
          some_sum faults r
          ∙ ap₂ ◌or◌ i.found (ap (λ n. 1 ≤? n) g ∙ (one_pick test).1 ∙ same)
          ∙ sym (any_more (unheld_at s) k);
    }

module _ (s : List ℕ) (count : ℕ) (e : count ≡ nodes (sheet_in s) * 5) where
  unheld_by_place : any count (unheld_at s) ≡ any (nodes (sheet_in s)) (λ node. any 5 (unheld_in s node))
  unfolding unheld_in
  unheld_by_place = ap (λ n. any n (unheld_at s)) e ∙ any_by_row (unheld_at s) (nodes (sheet_in s)) 5

  pub counting_done : (k faults : ℕ) → Counting s k faults → k ≡ count
      → (1 ≤? faults) ≡ any (nodes (sheet_in s)) (λ node. any 5 (unheld_in s node))
  counting_done k faults i same =
      i.found ∙ ap (λ n. any n (unheld_at s)) same ∙ unheld_by_place

  pub unheld_short : length s < moving_words → false ≡ any (nodes (sheet_in s)) (λ node. any 5 (unheld_in s node))
  unheld_short h = sym (any_start _) ∙ ap (λ n. any n (λ node. any 5 (unheld_in s node))) (sym (no_nodes s h))

-- An address of a region, and a mark beside a word, from what was read and tested.
-- Assumes nothing.
use Prim.Native.Nat.{ℕ, ◌+◌, ◌<◌, ◌≤◌}
use mathlib.Core.Bool.{Bool, false}
use mathlib.Core.Path.{◌≡◌, sym, ◌∙◌, ap₂}
use Rattle.words.specs.Tests.{◌and◌, ◌≤?◌, ◌<?◌, ◌=?◌}
use Rattle.words.proofs.TestLaws.{and_no, and_on, yes≤, no≤, yes=, no=}
use Rattle.sheet.specs.declared.circuits.Region.{Region}
use Rattle.network.specs.Inbound.{in_region}

-- an address before the region, and one from its beginning on, for which its end decides
module _ (r : Region) (address : ℕ) where
  pub before_region : address < r.offset → (r.offset ≤? address) ≡ in_region r address
  before_region l = no≤ l ∙ and_no _ (no≤ l)

  pub ends_region : {at end : ℕ} → r.offset ≤ address → at ≡ address → end ≡ r.offset + r.size → (at <? end) ≡ in_region r address
  ends_region l q e = and_on (yes≤ l) (ap₂ (λ x y. x <? y) q e)

-- the mark of a register is not 1, or it is and the rest decides
module _ {mark register : ℕ} (e : mark ≡ register) where
  pub mark_other : (rest : Bool) → (mark ≡ 1 → ⊥) → false ≡ (register =? 1 and rest)
  mark_other rest ne = and_no rest (no= (λ q. ne (e ∙ q)))

  -- the test itself is what is answered
  pub mark_fails : (rest : Bool) → (mark ≡ 1 → ⊥) → (mark =? 1) ≡ (register =? 1 and rest)
  mark_fails rest ne = no= ne ∙ mark_other rest ne

  pub mark_one : {v rest : Bool} → mark ≡ 1 → v ≡ rest → v ≡ (register =? 1 and rest)
  mark_one q h = and_on (yes= (sym e ∙ q)) h

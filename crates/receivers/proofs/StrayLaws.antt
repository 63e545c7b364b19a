-- Stray words: a node's test from the registers that were read, and the search over the nodes.
-- Assumes nothing.
use Rattle.std.proofs.Common.{◌≡◌, ℕ, ◌<◌, ◌≤◌, Bool, true, false, List, sym, refl, ap, ◌∙◌, ap₂, arith}
use mathlib.Core.Bool.{false≢true}
use native.Mathlib.Decide.{ℕ_discrete, dec_lt}
use Rattle.words.specs.Tests.{any, ◌≤?◌, ◌=?◌}
use Rattle.words.proofs.TestLaws.{and_no, and_on, or_yes, or_on, yes≤, no≤, yes=, no=}
use Rattle.words.proofs.AllLaws.{any_at, any_none}
use Rattle.sheet.specs.Sheet.{nodes}
use Rattle.occupancy.specs.Inner.Occupancy.{bit_at, NextTaken}
use Rattle.occupancy.specs.Inner.Places.{Passed}
use Rattle.occupancy.specs.declared.TakenPlaces.{TakenPlaces}
use Rattle.occupancy.proofs.WalkLaws.{On, Gave, Ended, still_on, next_place, none_left}
use Rattle.network.specs.Registers.{reg, sheet_in, room, receive_mark, receive_address}
use Rattle.network.specs.Inner.Machine.{memory_mark, strays_in}
use Rattle.receivers.specs.Inner.Required.{Counted}

-- one node
module _ (s : List ℕ) (node mark : ℕ) (e : mark ≡ memory_mark s node) where
  -- no payload word is there
  pub stray_none : mark < 2 → false ≡ strays_in s node
  unfolding strays_in
  stray_none l = and_no _ (no≤ (let h : memory_mark s node < 2 = omega arith in h))

  module _ (l : 2 ≤ mark) where
    payload : (2 ≤? memory_mark s node) ≡ true
    payload = yes≤ (let h : 2 ≤ memory_mark s node = omega arith in h)

    -- no packet is arriving
    pub stray_idle : (unit : ℕ) → unit ≡ reg s receive_mark node → unit ≡ 0 → (unit =? 0) ≡ strays_in s node
    unfolding strays_in
    stray_idle unit p z = yes= z ∙ and_on payload (or_yes _ (yes= (sym p ∙ z)))

    -- one is, and its address decides
    pub stray_past : (unit address size : ℕ) → unit ≡ reg s receive_mark node → (unit ≡ 0 → ⊥)
        → address ≡ reg s receive_address node → size ≡ room s → (size ≤? address) ≡ strays_in s node
    unfolding strays_in
    stray_past unit address size p ne a r = and_on payload (or_on (no= (λ z. ne (p ∙ z))) (ap₂ ◌≤?◌ r a))

-- the search: no node that the walk has left behind has a stray word
pub record StrayFree (s : List ℕ) (count outs : ℕ) (walk : TakenPlaces) : Type 0 where
  pub on : On outs count walk
  pub clean : (k : ℕ) → k < walk.from → k < count → strays_in s k ≡ false

module _ (s : List ℕ) (count size outs : ℕ) (g : Counted s count size) (none : (k : ℕ) → k < count → bit_at outs k ≡ 0 → memory_mark s k ≡ 0) where
  -- the nodes that are passed have nothing on their memory output
  passed_clean : (from next : ℕ) → NextTaken outs from next → (k : ℕ) → from ≤ k → k < next → k < count → strays_in s k ≡ false
  passed_clean from next t k a b l = sym (stray_none s k 0 (sym (none k l (t.passed k a b))) (omega arith))

  module _ (walk : TakenPlaces) (p : StrayFree s count outs walk) (after : TakenPlaces) where
    -- the walk gives a node
    module _ (node : ℕ) (t : Gave walk node after) where
      next : Passed outs walk.from count node after.from
      next = next_place outs count walk p.on after node t

      module _ (stray : Bool) (e : stray ≡ strays_in s node) where
        pub pass_more : stray ≡ false → StrayFree s count outs after
        pass_more f = record { on = still_on outs count walk p.on after node t; clean = λ k a h. go k a h (dec_lt k walk.from) (ℕ_discrete k node) }
          where
            go : (k : ℕ) → k < after.from → k < count → Dec (k < walk.from) → Dec (k ≡ node) → strays_in s k ≡ false
            go k a h (yes b) q = p.clean k b h
            go k a h (no nb) (yes q) = ap (strays_in s) q ∙ sym e ∙ f
            go k a h (no nb) (no nq) = passed_clean walk.from node next.next k (omega (arith, nb)) (omega (arith, nq, next.onward)) h

        pub pass_found : stray ≡ true → true ≡ any (nodes (sheet_in s)) (strays_in s)
        pass_found t = sym (any_at (nodes (sheet_in s)) (strays_in s) node (omega (arith, g.all_nodes, next.below)) (sym e ∙ t))

    -- or none is left
    pub pass_over : Ended walk after → false ≡ any (nodes (sheet_in s)) (strays_in s)
    pass_over t = sym (any_none (nodes (sheet_in s)) (strays_in s) (λ k h. go k (omega (arith, g.all_nodes)) (dec_lt k walk.from)))
      where
        go : (k : ℕ) → k < count → Dec (k < walk.from) → strays_in s k ≡ false
        go k h (yes b) = p.clean k b h
        go k h (no nb) = passed_clean walk.from count (none_left outs count walk p.on after t) k (omega (arith, nb)) h h

-- where no node has a stray word, none of them has one
pub none_strays : (s : List ℕ) (n : ℕ) → any n (strays_in s) ≡ false → (node : ℕ) → node < n → strays_in s node ≡ false
none_strays s n e node l = go (strays_in s node) refl
  where
    go : (b : Bool) → strays_in s node ≡ b → b ≡ false
    go true q = absurd (false≢true (sym e ∙ any_at n (strays_in s) node l q))
    go false q = refl

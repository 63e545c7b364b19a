-- Wires in cycles: which of them a packet occupies, and that two lists with one of them in common meet.
-- Assumes nothing.
use Prim.Native.Nat.{ℕ, zero, suc, ◌+◌, ◌<◌}
use mathlib.Core.Bool.{true, false≢true}
use mathlib.Core.List.{List, [], ◌∷◌, ◌++◌}
use mathlib.Core.Path.{◌≡◌, refl, sym, ◌∙◌, ap, ap₂}
use native.Mathlib.Omega.{arith}
use lib.ListN.{length}
use Rattle.words.specs.Tests.{◌=?◌}
use Rattle.words.proofs.TestLaws.{and_left, and_right, and_both, or_yes, or_skip, or_cases, yes=, is=}
use Rattle.torus.specs.Route.{Wire, source, side, memory, Use}
use Rattle.torus.specs.Inner.Delays.{delay_at}
use Rattle.sheet.specs.Wires.{WireCycle, same_wire, same, during, occupied, member, meet}
use Rattle.isolation.proofs.Routes.Way.{wire_at}

-- one wire of two is the same as the other
same_is : (a b : Wire) → same_wire a b ≡ true → a ≡ b
unfolding same_wire
same_is (source a) (source b) e = ap source (is= a b e)
same_is (source a) (side b t) e = absurd (false≢true e)
same_is (source a) (memory b) e = absurd (false≢true e)
same_is (side a s) (source b) e = absurd (false≢true e)
same_is (side a s) (side b t) e = ap₂ side (is= a b (and_left _ _ e)) (is= s t (and_right (a =? b) (s =? t) e))
same_is (side a s) (memory b) e = absurd (false≢true e)
same_is (memory a) (source b) e = absurd (false≢true e)
same_is (memory a) (side b t) e = absurd (false≢true e)
same_is (memory a) (memory b) e = ap memory (is= a b e)

same_self : (a : Wire) → same_wire a a ≡ true
unfolding same_wire
same_self (source a) = yes= refl
same_self (side a s) = and_both (yes= refl) (yes= refl)
same_self (memory a) = yes= refl

-- a wire in a cycle, by its two parts
abbrev pub wire_in : Wire → ℕ → WireCycle
wire_in wire cycle = record { wire = wire; cycle = cycle }

module _ (wire : Wire) (cycle : ℕ) where
  abbrev here : WireCycle
  here = wire_in wire cycle

  member_front : (xs ys : List WireCycle) → member here xs ≡ true → member here (xs ++ ys) ≡ true
  unfolding member
  member_front [] ys e = absurd (false≢true e)
  member_front (x ∷ xs) ys e =
      or_cases (same here x) (member here xs) e (λ h. sym (or_yes _ h))
      (λ h. sym (or_skip (same here x) (sym (member_front xs ys h))))

  member_back : (xs ys : List WireCycle) → member here ys ≡ true → member here (xs ++ ys) ≡ true
  unfolding member
  member_back [] ys e = e
  member_back (x ∷ xs) ys e = sym (or_skip (same here x) (sym (member_back xs ys e)))

  -- a wire that is occupied for n cycles is so in each of them
  member_during : (n from a : ℕ) → a < n → from + a ≡ cycle → member here (during n wire from) ≡ true
  unfolding member during same
  member_during zero from a l e = absurd (omega arith)
  member_during (suc n) from zero l e =
      sym (or_yes _ (and_both (same_self wire) (yes= (let z : cycle ≡ from = omega arith in z))))
  member_during (suc n) from (suc a) l e =
      sym (or_skip (same here (wire_in wire from)) (sym (member_during n (from + 1) a (omega arith) (omega arith))))

  -- two lists with one wire in one cycle meet
  pub meet_yes : (xs ys : List WireCycle) → member here xs ≡ true → member here ys ≡ true → meet xs ys ≡ true
  unfolding meet member same
  meet_yes [] ys e f = absurd (false≢true e)
  meet_yes (x ∷ xs) ys e f =
      or_cases (same here x) (member here xs) e
      (λ h.
      let w : wire ≡ x.wire = same_is wire x.wire (and_left _ _ h) in
      let c : cycle ≡ x.cycle = is= cycle x.cycle (and_right (same_wire wire x.wire) (cycle =? x.cycle) h) in
      sym (or_yes _ (ap₂ (λ (v : Wire) (t : ℕ). member (wire_in v t) ys) (sym w) (sym c) ∙ f)))
      (λ h. sym (or_skip (member x ys) (sym (meet_yes xs ys h f))))

-- a packet occupies the wire of each of its uses, for each of its words
pub occupied_at : (uses : List Use) (size from x a cycle : ℕ) → x < length uses → a < size → from + delay_at uses x + a ≡ cycle
    → member (wire_in (wire_at uses x) cycle) (occupied uses size from) ≡ true
unfolding occupied wire_at delay_at
occupied_at [] size from x a cycle l h e = absurd (omega arith)
occupied_at (u ∷ uses) size from zero a cycle l h e =
    member_front u.wire cycle (during size u.wire (from + u.delay)) (occupied uses size from)
    (member_during u.wire cycle size (from + u.delay) a h e)
occupied_at (u ∷ uses) size from (suc x) a cycle l h e =
    member_back (wire_at uses x) cycle (during size u.wire (from + u.delay)) (occupied uses size from)
    (occupied_at uses size from x a cycle (omega arith) h e)

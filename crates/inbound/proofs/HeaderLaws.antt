-- A header at a place of the routers' rows that comes into a region, from what was read and tested.
-- Assumes nothing.
use Prim.Native.Nat.{ℕ, ◌+◌, ◌-◌, ◌/◌, ◌%◌, ◌<◌, ◌≤◌}
use mathlib.Core.Bool.{Bool, true, false}
use mathlib.Core.List.{List}
use mathlib.Core.Path.{◌≡◌, refl, sym, ◌∙◌, ap}
use native.Mathlib.Omega.{arith}
use Rattle.std.specs.Prelude.{Option, None, Some}
use Rattle.std.specs.Option.{option_eq}
use Rattle.std.proofs.Common.{nat_eq}
use Rattle.inbound.specs.Inner.Bound.{one_more}
use Rattle.words.specs.Tests.{◌and◌, ◌or◌, ◌≤?◌, ◌=?◌}
use native.Mathlib.Decide.{dec_le, ℕ_discrete}
use borrow.Author.Tests.{eq-eqb, ne_eqb}
use Rattle.words.proofs.TestLaws.{and_no, and_on, and_skip, or_yes, or_on, or_assoc, yes≤, no≤, yes=, no=}
use Rattle.packet.specs.Header.{address_of, shifted_word}
use Rattle.sheet.specs.declared.circuits.Region.{Region}
use Rattle.network.specs.View.{ports}
use Rattle.network.specs.Cycle.{output_for, has_extra}
use Rattle.network.specs.Registers.{reg, sheet_in, link_mark, link_word, head_mark, head_word, choice_row, out_mark, out_word, extra_mark, extra_word}
use Rattle.network.specs.Inbound.{in_region, bound_for, furthest, comes_into, link_inbound, head_inbound, out_inbound, extra_inbound, header_inbound}
use Rattle.inbound.proofs.RegionLaws.{mark_one}

-- the second test holds, and the first decides
and_first : (a : Bool) {b : Bool} → b ≡ true → a ≡ a and b
unfolding ◌and◌
and_first true e = sym e
and_first false e = refl

-- the header's address is none of the region, or it is and the node to which it comes decides
module _ (z : List ℕ) (r : Region) (node output w : ℕ) {address : ℕ} (e : address ≡ address_of w) {held : Bool}
    (h : held ≡ in_region r address) where
  pub comes_elsewhere : held ≡ false → held ≡ comes_into z r node output w
  unfolding comes_into
  comes_elsewhere n = n ∙ and_skip _ (sym n ∙ h ∙ ap (in_region r) e)

  pub comes_by : {there : Bool} → held ≡ true → there ≡ (bound_for furthest z node output w =? r.node + 1) → there ≡ comes_into z r node output w
  unfolding comes_into
  comes_by y b = b ∙ and_first (bound_for furthest z node output w =? r.node + 1) (sym (ap (in_region r) e) ∙ sym h ∙ y)

module _ (s : List ℕ) (r : Region) (k : ℕ) where
  -- the link register has a header
  pub link_by : {mark word output passed : ℕ} {z : List ℕ} {v : Bool} → mark ≡ reg s link_mark k → mark ≡ 1 → z ≡ sheet_in s
      → word ≡ reg s link_word k → output ≡ output_for (k % 5) word → passed ≡ shifted_word word
      → v ≡ comes_into z r (k / 5) output passed → v ≡ link_inbound s r k
  unfolding link_inbound
  link_by e q z w o p h = mark_one e q (cc)

  -- the head register, where none of the five outputs is chosen, and where one of them is
  pub head_unchosen : {choice : ℕ} → choice ≡ reg s choice_row k → (1 ≤ choice → 5 < choice) → false ≡ head_inbound s r k
  unfolding head_inbound
  head_unchosen {choice} c beyond = and_skip _ (go _ (dec_le 1 choice))
    where
      go : (rest : Bool) → Dec (1 ≤ choice) → false ≡ (1 ≤? reg s choice_row k and reg s choice_row k ≤? ports and rest)
      go rest (no n) = and_no _ (no≤ (omega (arith, c, n)))
      go rest (yes p) = and_skip _ (and_no _ (no≤ (omega (arith, c, beyond p))))

  pub head_by : {mark choice output word : ℕ} {z : List ℕ} {v : Bool} → mark ≡ reg s head_mark k → mark ≡ 1 → z ≡ sheet_in s
      → choice ≡ reg s choice_row k → 1 ≤ choice → choice ≤ 5 → output ≡ choice - 1 → word ≡ reg s head_word k
      → v ≡ comes_into z r (k / 5) output word → v ≡ head_inbound s r k
  unfolding head_inbound
  head_by e q z c low high o w h = mark_one e q (and_on (yes≤ (omega arith)) (and_on (yes≤ (omega arith)) (cc)))

  -- the out register has a header
  pub out_by : {mark word : ℕ} {z : List ℕ} {v : Bool} → mark ≡ reg s out_mark k → mark ≡ 1 → z ≡ sheet_in s → word ≡ reg s out_word k
      → v ≡ comes_into z r (k / 5) (k % 5) word → v ≡ out_inbound s r k
  unfolding out_inbound
  out_by e q z w h = mark_one e q (cc)

  -- the output's link has no extra register, or it has one with a header
  module _ {z : List ℕ} (own : z ≡ sheet_in s) {long : Bool} (e : long ≡ has_extra z (k % 5)) where
    has_here : long ≡ has_extra (sheet_in s) (k % 5)
    has_here = e ∙ ap (λ (y : List ℕ). has_extra y (k % 5)) own

    pub extra_none : long ≡ false → long ≡ extra_inbound s r k
    unfolding extra_inbound
    extra_none n = n ∙ and_skip _ (and_no _ (sym has_here ∙ n))

    pub extra_by : {mark word : ℕ} {v : Bool} → mark ≡ reg s extra_mark k → mark ≡ 1 → long ≡ true → word ≡ reg s extra_word k
        → v ≡ comes_into z r (k / 5) (k % 5) word → v ≡ extra_inbound s r k
    unfolding extra_inbound
    extra_by m q y w h = mark_one m q (and_on (sym has_here ∙ y) (cc))

  -- the four tests one after the other
  pub header_four : {two three v : Bool} → two ≡ link_inbound s r k or head_inbound s r k → three ≡ two or out_inbound s r k
      → v ≡ three or extra_inbound s r k → v ≡ header_inbound s r k
  unfolding header_inbound
  header_four {two} {three} e f h =
      h ∙ ap (λ t. t or extra_inbound s r k) (f ∙ ap (λ t. t or out_inbound s r k) e)
      ∙ sym (or_assoc (link_inbound s r k or head_inbound s r k) (out_inbound s r k) (extra_inbound s r k))
      ∙ sym (or_assoc (link_inbound s r k) (head_inbound s r k) (out_inbound s r k or extra_inbound s r k))

-- a node that may be none is the one asked for
pub stands_at : (found : Option ℕ) {bound : ℕ} (node : ℕ) {b : Bool} → one_more found ≡ bound → b ≡ option_eq nat_eq found (Some node) → b ≡ (bound =? node + 1)
stands_at None {bound} node e h = h ∙ sym (no= (λ q. omega (arith, e, q)))
stands_at (Some n) {bound} node e h = h ∙ go (ℕ_discrete n node)
  where
    go : Dec (n ≡ node) → nat_eq n node ≡ (bound =? node + 1)
    go (yes p) = eq-eqb n node p ∙ sym (yes= (omega (arith, e, p)))
    go (no p) = ne_eqb n node p ∙ sym (no= (λ q. p (omega (arith, e, q))))

-- a test that is answered, where it holds and the rest is not asked, and where the rest decides
pub or_holds : {a v test : Bool} (rest : Bool) → v ≡ a → a ≡ test → a ≡ true → v ≡ test or rest
or_holds rest v e t = v ∙ t ∙ or_yes rest (sym e ∙ t)

pub or_rest : {a b v test rest : Bool} → v ≡ b → a ≡ test → a ≡ false → b ≡ rest → v ≡ test or rest
or_rest v e f h = or_on (sym e ∙ f) (v ∙ h)

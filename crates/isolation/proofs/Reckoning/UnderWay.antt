-- Words under way, by what is reckoned to have left: a word that left and is still to land makes it so, and nothing else does.
-- Assumes nothing.
use Prim.Native.Nat.{ℕ, ◌+◌, ◌≤◌, ◌<◌}
use mathlib.Core.Bool.{Bool, true, false, false≢true}
use mathlib.Core.List.{List}
use mathlib.Core.Path.{◌≡◌, refl, sym, ◌∙◌, ap}
use native.Mathlib.Omega.{arith}
use Rattle.words.proofs.TestLaws.{and_left, and_right, and_both, is≤, yes≤}
use Rattle.words.proofs.AllLaws.{any_at, any_none}
use Rattle.isolation.specs.Reckoning.{Reckoned, flight_cycles}
use Rattle.isolation.specs.Demand.{is_item, under_way}

-- a test that cannot hold, and one that cannot fail
pub never : (b : Bool) → (b ≡ true → ⊥) → b ≡ false
never true h = absurd (h refl)
never false h = refl

pub always : (b : Bool) → (b ≡ false → ⊥) → b ≡ true
always true h = refl
always false h = absurd (h refl)

-- a word that left in a cycle before and has not landed
pub under_way_at : (z : List ℕ) (circuit : ℕ) (r : Reckoned) (cycles t : ℕ) → t < cycles → is_item (r.sent.leaving t) ≡ true
    → cycles ≤ t + flight_cycles z circuit → under_way z circuit r cycles ≡ true
unfolding under_way
under_way_at z circuit r cycles t l e late = any_at cycles _ t l (and_both e (yes≤ (omega (arith, late))))

-- no such word
pub under_way_none : (z : List ℕ) (circuit : ℕ) (r : Reckoned) (cycles : ℕ)
    → ((t : ℕ) → t < cycles → is_item (r.sent.leaving t) ≡ true → cycles ≤ t + flight_cycles z circuit → ⊥)
    → under_way z circuit r cycles ≡ false
unfolding under_way
under_way_none z circuit r cycles none =
    any_none cycles _ (λ t l. never _ (λ h. none t l (and_left _ _ h) (let late = is≤ _ _ (and_right _ _ h) in omega (arith, late))))

-- where the same words left, and fly as long, words are under way in both or in neither
less : (z z' : List ℕ) (c d : ℕ) (r q : Reckoned) (n n' : ℕ) → flight_cycles z c ≡ flight_cycles z' d → n ≡ n'
    → ((t : ℕ) → r.sent.leaving t ≡ q.sent.leaving t) → under_way z' d q n' ≡ false → under_way z c r n ≡ false
less z z' c d r q n n' flight same left e =
    under_way_none z c r n (λ t l i late.
    false≢true (sym e ∙ under_way_at z' d q n' t (omega arith) (sym (ap is_item (left t)) ∙ i) (omega arith)))

pub under_way_same : (z z' : List ℕ) (c d : ℕ) (r q : Reckoned) (n n' : ℕ) → flight_cycles z c ≡ flight_cycles z' d → n ≡ n'
    → ((t : ℕ) → r.sent.leaving t ≡ q.sent.leaving t) → under_way z c r n ≡ under_way z' d q n'
under_way_same z z' c d r q n n' flight same left = go (under_way z' d q n') refl
  where
    go : (b : Bool) → under_way z' d q n' ≡ b → under_way z c r n ≡ b
    go false e = less z z' c d r q n n' flight same left e
    go true e = always _ (λ f. false≢true (sym (less z' z d c q r n' n (sym flight) (sym same) (λ t. sym (left t)) f) ∙ e))

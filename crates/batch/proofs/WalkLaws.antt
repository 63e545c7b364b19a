-- For walks by hand: three `ensures`, each a fact of its own; and a `&mut [u32]` that is lent for a call, and comes back.
-- Assumes nothing.
use mathlib.Core.Path.{◌≡◌}
use Prim.Native.Nat.{ℕ}
use mathlib.Core.List.{List, [], ◌∷◌}
use mir.Syntax.{Lifetime, erased}
use mir.Val.{Val}
use base.Fml.{Lft, Fml}
use denote.Ref.{MutBor}
use denote.Slice.{MutSlice, mut_slice_vals}
use denote.Builtin.{u32}
use borrow.Table.Owned as O
use seplogic.Ra.Ura.{Ura}
use base.Logic.{SProp, ent, sep, emp, via, comm∗, mono∗, mono_l, emp∗}
use types.Logic.{Logic, sem}
use contract.Monad.{fact, fact_i}
use types.Kit.{Item, prop, Step, step, ‵, ◌$◌, ◌∵◌, !, qed, move, drop, fsplit, fjoin, feq_i, done}

module _ {M : Type 1} (𝓤 : Ura M) where
  both : (P Q : SProp 𝓤) → ent 𝓤 (emp 𝓤) P → ent 𝓤 (emp 𝓤) Q → ent 𝓤 (emp 𝓤) (sep 𝓤 P Q)
  both P Q p q = via 𝓤 (sep 𝓤 (emp 𝓤) (emp 𝓤)) (emp∗ 𝓤 (emp 𝓤)) (mono∗ 𝓤 p q)

  beside : (P Q : SProp 𝓤) → ent 𝓤 (emp 𝓤) Q → ent 𝓤 P (sep 𝓤 P Q)
  beside P Q q = via 𝓤 (sep 𝓤 (emp 𝓤) P) (emp∗ 𝓤 P) (via 𝓤 (sep 𝓤 Q P) (mono_l 𝓤 P q) (comm∗ 𝓤 Q P))

  three_said : (P : SProp 𝓤) {a b c : Type 0} → a → b → c → ent 𝓤 P (sep 𝓤 P (sep 𝓤 (fact 𝓤 a) (sep 𝓤 (fact 𝓤 b) (fact 𝓤 c))))
  three_said P {a} {b} {c} x y z =
      beside P (sep 𝓤 (fact 𝓤 a) (sep 𝓤 (fact 𝓤 b) (fact 𝓤 c)))
      (both (fact 𝓤 a) (sep 𝓤 (fact 𝓤 b) (fact 𝓤 c)) (fact_i 𝓤 a (emp 𝓤) x)
      (both (fact 𝓤 b) (fact 𝓤 c) (fact_i 𝓤 b (emp 𝓤) y) (fact_i 𝓤 c (emp 𝓤) z)))

-- the three clauses are shown, and what stands beside them is left
pub says_three : {M : Type 1} {𝓤 : Ura M} {𝓛 : Logic 𝓤} {K : Type 0} {Γ : List (Item 𝓤)} → K
    → {a b c : Type 0} {P : SProp 𝓤} → a → b → c → Step K 𝓛 Γ (prop P) Γ (prop (sep 𝓤 P (sep 𝓤 (fact 𝓤 a) (sep 𝓤 (fact 𝓤 b) (fact 𝓤 c)))))
says_three {𝓤 = 𝓤} t {P = P} x y z = step (λ s. record { prf = via 𝓤 P s.prf (three_said 𝓤 P x y z) })

-- what a `&κ mut [u32]` owns beside its machine value
abbrev pub Held : Lft → MutBor (List ℕ) → Fml
Held κ x = (O.MutSlice erased κ u32).own_val x

module _ {M : Type 1} {𝓤 : Ura M} (𝓛 : Logic 𝓤) (ℓ : Lifetime) (κ : Lft) (x : MutBor (List ℕ)) (vs : List Val) where
  -- that, and its machine value
  pub held_own : vs ≡ mut_slice_vals x → ent 𝓤 (sem 𝓛 (Held κ x)) (sem 𝓛 ((MutSlice ℓ κ u32).own_val x vs))
  held_own e =
      qed 𝓛 (‵ (Held κ x) ∷ []) ∵ fsplit ! $ feq_i ! (List Val) vs (mut_slice_vals x) e $ move ! (0 ∷ 1 ∷ []) $ fjoin ! $ fjoin ! $ done !

  pub own_held : ent 𝓤 (sem 𝓛 ((MutSlice ℓ κ u32).own_val x vs)) (sem 𝓛 (Held κ x))
  own_held = qed 𝓛 (‵ ((MutSlice ℓ κ u32).own_val x vs) ∷ []) ∵ fsplit ! $ fsplit ! $ drop ! $ fjoin ! $ done !

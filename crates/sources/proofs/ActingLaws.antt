-- The mask of the circuits that act: how it is gathered, circuit by circuit, and that beside it every circuit rests.
-- Assumes nothing.
use Prim.Native.Nat.{ℕ, ◌+◌, ◌<◌}
use mathlib.Core.Bool.{false}
use mathlib.Core.List.{List}
use mathlib.Core.Path.{◌≡◌, refl, sym, subst, ◌∙◌, ap}
use native.Mathlib.Omega.{arith}
use native.Mathlib.Decide.{ℕ_discrete}
use lib.Bits.{bit_or}
use Rattle.words.specs.Words.{word, tab}
use Rattle.words.proofs.TestLaws.{and_no_right, no≤}
use Rattle.words.proofs.WordLaws.{tab_at}
use Rattle.sheet.specs.Sheet.{circuits}
use Rattle.sheet.specs.Inner.Passed.{Framed}
use Rattle.occupancy.specs.Inner.Occupancy.{bit_at}
use Rattle.occupancy.proofs.MaskLaws.{union_free}
use Rattle.network.specs.Registers.{reg, sheet_in, to_go_row}
use Rattle.network.specs.Inner.Machine.{slot_in}
use Rattle.network.specs.Inner.Paired.{Paired}
use Rattle.sources.specs.Inner.Slots.{slot_table}
use Rattle.sources.specs.Inner.Acting.{opens_in, Acting}
use Rattle.sources.proofs.BeginLaws.{no_slot}

-- a circuit of a sheet has a place in a mask
pub circuit_few : (z : List ℕ) → Framed z → (c : ℕ) → c < circuits z → c < 64
circuit_few z f c l = omega (arith, f.headed.circuits_high)

-- a circuit whose slot does not begin opens nothing
pub none_begun : (s : List ℕ) (c : ℕ) → 0 ≡ slot_in s c → opens_in s c ≡ false
none_begun s c e =
    let short : slot_in s c < 1 = omega (arith, e) in
    and_no_right _ _ (no≤ short)

-- each circuit below n that a mask has not has the property
abbrev pub Beside : (ℕ → Type 0) → ℕ → ℕ → Type 0
Beside property mask n = (c : ℕ) → c < n → bit_at mask c ≡ 0 → property c

-- one more circuit, whose own mask is joined to it
pub beside_more : (property : ℕ → Type 0) (mask more n : ℕ) → Beside property mask n → (bit_at more n ≡ 0 → property n)
    → Beside property (bit_or mask more) (n + 1)
beside_more property mask more n g h c l free = go (ℕ_discrete c n)
  where
    go : Dec (c ≡ n) → property c
    go (yes e) = subst property (sym e) (h (subst (λ (k : ℕ). bit_at more k ≡ 0) e (union_free mask more c free).1))
    go (no ne) = g c (omega (arith, ne)) (union_free mask more c free).0

-- those amid a packet, and those that open one
module _ (s z : List ℕ) (g : Paired s z) (sending : ℕ) (resting : Beside (λ c. reg s to_go_row c ≡ 0) sending (circuits z)) where
  inside_own : (c : ℕ) → c < circuits (sheet_in s) → c < circuits z
  inside_own c l = subst (λ (x : List ℕ). c < circuits x) (sym g.own) l

  pub acting_some : (opening : ℕ) → Beside (λ c. opens_in s c ≡ false) opening (circuits z) → Acting s (bit_or sending opening)
  acting_some opening closed = record {
    none_to_go = λ c l free. resting c (inside_own c l) (union_free sending opening c free).0;
    none_opens = λ c l free. closed c (inside_own c l) (union_free sending opening c free).1;
  }

  -- where no slot begins no circuit opens a packet
  pub acting_none : (slots : List ℕ) → slots ≡ slot_table s → slots ≡ tab 64 (λ (c : ℕ). 0) → Acting s sending
  acting_none slots t zeros = record {
    none_to_go = λ c l free. resting c (inside_own c l) free;
    none_opens = λ c l free. none_begun s c (unbegun c (inside_own c l));
  }
    where
      unbegun : (c : ℕ) → c < circuits z → 0 ≡ slot_in s c
      unbegun c l =
          let empty : word slots c ≡ 0 = ap (λ (x : List ℕ). word x c) zeros
          ∙ tab_at 64 (λ (c : ℕ). 0) c (circuit_few z g.framed c l) in
          no_slot s z g slots t c l (word slots c) refl empty

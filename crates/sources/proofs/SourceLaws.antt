-- What the senders do and the marks that they send, from the registers that were read and the tests that were taken.
-- Assumes nothing.
use Prim.Native.Nat.{ℕ, ◌<◌, ◌≤◌}
use mathlib.Core.Bool.{Bool, true, false, false≢true, ◌||◌}
use mathlib.Core.List.{List}
use mathlib.Core.Path.{◌≡◌, refl, sym, ◌∙◌, ap}
use native.Mathlib.Omega.{arith}
use native.Mathlib.Decide.{ℕ_discrete}
use lib.ListN.{length, take, drop, length-take, length-drop}
use Rattle.words.specs.Tests.{◌and◌, ◌or◌, ◌≤?◌}
use Rattle.words.specs.Words.{word, pick}
use Rattle.words.proofs.TestLaws.{and_no, and_on, yes=, no=, yes≤, no≤}
use Rattle.sheet.specs.declared.circuits.Circuit.{Circuit}
use Rattle.sheet.specs.Sheet.{circuits, circuit_at}
use Rattle.sheet.specs.Slots.{source_of}
use Rattle.occupancy.specs.Inner.Occupancy.{bit_at}
use Rattle.network.specs.Cycle.{Move, rests, opens, sends}
use Rattle.network.specs.Registers.{reg, sheet_in, moving_words, left_row, to_go_row}
use Rattle.network.specs.Inner.Machine.{slot_in, move_in, mark_of, sent_mark}
use Rattle.network.specs.Inner.Paired.{Paired}
use Rattle.sources.specs.Inner.Steps.{Sending}
use Rattle.sources.specs.Inner.Acting.{opens_in, Acting}

-- what `||` and `|` of two tests compute
pub either_is : (a b : Bool) → (a || b) ≡ (a or b)
unfolding ◌or◌
either_is true b = refl
either_is false b = refl

-- a circuit opens a packet
module _ (s : List ℕ) (c : ℕ) where
  module _ (left : ℕ) (e : left ≡ reg s left_row c) where
    pub open_no : left ≡ 0 → false ≡ opens_in s c
    open_no h = and_no _ (no≤ (let l : reg s left_row c < 1 = omega arith in l))

    pub open_rest : (slot : ℕ) → slot ≡ slot_in s c → (left ≡ 0 → ⊥) → (1 ≤? slot) ≡ opens_in s c
    open_rest slot q ne = and_on (yes≤ (let l : 1 ≤ reg s left_row c = omega (arith, ne) in l)) (ap (λ (n : ℕ). 1 ≤? n) q)

-- a circuit that has no words left has none to go
pub none_to_go : (s : List ℕ) (c left : ℕ) → left ≡ reg s left_row c → Sending s c → left ≡ 0 → reg s to_go_row c ≡ 0
none_to_go s c left a g h = go (ℕ_discrete (reg s to_go_row c) 0)
  where
    go : Dec (reg s to_go_row c ≡ 0) → reg s to_go_row c ≡ 0
    go (yes e) = e
    go (no ne) =
        let some = g.some_left (omega (arith, ne)) in
        absurd (omega arith)

-- a circuit that opens no packet sends its present packet's next word, or rests
closed : (left slot going : Bool) → left and slot ≡ false → pick (slot and left) opens (pick going sends rests) ≡ pick going sends rests
unfolding ◌and◌
closed true true going h = absurd (false≢true (sym h))
closed true false going h = refl
closed false true going h = refl
closed false false going h = refl

open_moves : (left slot going : Bool) → left and slot ≡ true → pick (slot and left) opens (pick going sends rests) ≡ opens
unfolding ◌and◌
open_moves true true going h = refl
open_moves true false going h = absurd (false≢true h)
open_moves false slot going h = absurd (false≢true h)

-- the mark of a circuit, by whether it opens a packet and by the words that are to go
module _ (s : List ℕ) (c : ℕ) (o : Bool) (e : o ≡ opens_in s c) where
  pub moves_open : o ≡ true → move_in s c ≡ opens
  moves_open t = open_moves (1 ≤? reg s left_row c) (1 ≤? slot_in s c) (1 ≤? reg s to_go_row c) (sym e ∙ t)

  pub moves_on : o ≡ false → move_in s c ≡ pick (1 ≤? reg s to_go_row c) sends rests
  moves_on t = closed (1 ≤? reg s left_row c) (1 ≤? slot_in s c) (1 ≤? reg s to_go_row c) (sym e ∙ t)

  pub moves_rest : o ≡ false → reg s to_go_row c ≡ 0 → move_in s c ≡ rests
  moves_rest t h = moves_on t ∙ ap (λ (b : Bool). pick b sends rests) (no≤ (let l : reg s to_go_row c < 1 = omega arith in l))

  pub mark_opens : o ≡ true → 1 ≡ sent_mark s c
  unfolding sent_mark
  mark_opens t = ap (λ (m : Move). mark_of m (reg s to_go_row c)) (sym (moves_open t))

  module _ (t : o ≡ false) (to_go : ℕ) (q : to_go ≡ reg s to_go_row c) where
    mark_by : (b : Bool) → (1 ≤? reg s to_go_row c) ≡ b → mark_of (pick b sends rests) to_go ≡ sent_mark s c
    unfolding sent_mark
    mark_by b f =
        ap (λ (n : ℕ). mark_of (pick b sends rests) n) q
        ∙ ap (λ (m : Move). mark_of m (reg s to_go_row c)) (sym (moves_on t ∙ ap (λ (x : Bool). pick x sends rests) f))

    going : (to_go ≡ 0 → ⊥) → (1 ≤? reg s to_go_row c) ≡ true
    going ne = yes≤ (let l : 1 ≤ reg s to_go_row c = omega (arith, ne) in l)

    pub mark_rests : to_go ≡ 0 → 0 ≡ sent_mark s c
    mark_rests h = mark_by false (no≤ (let l : reg s to_go_row c < 1 = omega arith in l))

    pub mark_last : to_go ≡ 1 → 3 ≡ sent_mark s c
    mark_last h =
        ap (λ (x : Bool). pick {A = ℕ} x 3 2) (sym (yes= h))
        ∙ mark_by true (going (λ z. (let x : ⊥ = omega (arith, z) in x)))

    pub mark_more : (to_go ≡ 0 → ⊥) → (to_go ≡ 1 → ⊥) → 2 ≡ sent_mark s c
    mark_more some ne = ap (λ (x : Bool). pick {A = ℕ} x 3 2) (sym (no= ne)) ∙ mark_by true (going some)

-- a circuit beside the mask of those that act rests, and puts no mark on its wire
module _ (s : List ℕ) (acting : ℕ) (g : Acting s acting) (c : ℕ) (l : c < circuits (sheet_in s)) (free : bit_at acting c ≡ 0) where
  pub beside_rests : move_in s c ≡ rests
  beside_rests = moves_rest s c false (sym (g.none_opens c l free)) refl (g.none_to_go c l free)

  pub beside_mark : 0 ≡ sent_mark s c
  beside_mark = mark_rests s c false (sym (g.none_opens c l free)) refl (reg s to_go_row c) refl (g.none_to_go c l free)

-- a state that has a sheet is long
pub paired_long : (s z : List ℕ) → Paired s z → moving_words ≤ length s
unfolding sheet_in
paired_long s z g =
    let rest = drop moving_words s in
    let own : length z ≡ length (take (word rest 0) (drop 1 rest)) = ap length g.own in
    omega (arith, g.framed.headed.five, own, length-take (word rest 0) (drop 1 rest), length-drop 1 rest, length-drop moving_words s)

-- a circuit's source, from the circuit that was read
pub source_read : (s z : List ℕ) → Paired s z → (c : ℕ) (x : Circuit) → x ≡ circuit_at z c → x.read.node ≡ source_of (sheet_in s) c
source_read s z g c x e = ap (λ (y : Circuit). y.read.node) (e ∙ ap (λ (l : List ℕ). circuit_at l c) g.own)

-- The tests of the rules 4 to 6 at one circuit or a pair of circuits, from the facts in numbers.
-- Assumes nothing.
use Prim.Native.Nat.{ℕ, ◌+◌, ◌*◌, ◌<◌, ◌≤◌}
use mathlib.Core.Bool.{Bool, true, false}
use mathlib.Core.List.{List}
use mathlib.Core.Path.{◌≡◌, refl, sym, ◌∙◌, ap, ap₂, subst}
use native.Mathlib.Omega.{arith}
use Rattle.words.specs.Tests.{◌=?◌, ◌and◌, ◌or◌, ◌≤?◌, ◌<?◌}
use Rattle.words.specs.Words.{word}
use Rattle.words.proofs.TestLaws.{and_no, and_on, or_yes, or_on, or_skip, yes≤, no≤, yes<, no<, yes=, no=, yes≠, no≠}
use Rattle.sheet.specs.declared.circuits.Region.{Region}
use Rattle.sheet.specs.declared.circuits.Circuit.{Circuit}
use Rattle.sheet.specs.Sheet.{circuits, nodes, memory_words, circuit_at}
use Rattle.sheet.specs.Rules.{region_fits, circuit_fits, precedes, apart, receive_apart, rule4}
use Rattle.sheet.specs.Inner.Passed.{Framed, CircuitSmall}
use Rattle.sheet.proofs.PassedLaws.{circuit_small}

-- a circuit, from its six words
pub circuit_is : (z : List ℕ) (k : ℕ) {source read_offset read_size destination receive_offset receive_size : ℕ}
    → source ≡ word z (5 + 6 * k) → read_offset ≡ word z (5 + 6 * k + 2) → read_size ≡ word z (5 + 6 * k + 3)
    → destination ≡ word z (5 + 6 * k + 1) → receive_offset ≡ word z (5 + 6 * k + 4) → receive_size ≡ word z (5 + 6 * k + 5)
    → ◌≡◌ {A = Circuit}
    record {
      read = record { node = source; offset = read_offset; size = read_size };
      receive = record { node = destination; offset = receive_offset; size = receive_size };
    }
    (circuit_at z k)
unfolding circuit_at
circuit_is z k p q r t u v = cc

-- number 4 at a circuit, in terms of what was read
pub fits_read : (z : List ℕ) (k n m : ℕ) (c : Circuit) {w v : Bool} → n ≡ nodes z → m ≡ memory_words z → c ≡ circuit_at z k
    → w ≡ circuit_fits n m c → w ≡ v → circuit_fits (nodes z) (memory_words z) (circuit_at z k) ≡ v
fits_read z k n m c p q r e f = cc

-- both nodes are in the grid and differ, and the regions decide
pub circuit_rest : (count memory : ℕ) (c : Circuit) {v : Bool} → c.read.node < count → c.receive.node < count
    → (c.read.node ≡ c.receive.node → ⊥) → v ≡ region_fits memory c.read and region_fits memory c.receive
    → v ≡ circuit_fits count memory c
unfolding circuit_fits
circuit_rest count memory c a b ne r = and_on (yes< a) (and_on (yes< b) (and_on (yes≠ ne) r))

-- the first numbers are equal, and the second decide
pub ordered_second : (a b c d : ℕ) → a ≡ c → (b <? d) ≡ precedes a b c d
unfolding precedes
ordered_second a b c d e = or_on (no< (omega arith)) (and_on (yes= e) refl)

-- the first numbers descend
pub ordered_no : (a b c d : ℕ) → c < a → false ≡ precedes a b c d
unfolding precedes
ordered_no a b c d h = or_on (no< (omega arith)) (and_no _ (no= (λ e. omega (arith, e))))

-- the regions are at different nodes
pub apart_nodes : (a b : Region) → (a.node ≡ b.node → ⊥) → true ≡ apart a b
unfolding apart
apart_nodes a b ne = or_yes _ (yes≠ ne)

-- the first region ends before the second begins
pub apart_first : (a b : Region) → a.offset + a.size ≤ b.offset → true ≡ apart a b
unfolding apart
apart_first a b h = or_skip _ (or_yes _ (yes≤ h))

-- the first region does not, and the second region's end decides
pub apart_second : (a b : Region) → a.node ≡ b.node → b.offset < a.offset + a.size
    → (b.offset + b.size ≤? a.offset) ≡ apart a b
unfolding apart
apart_second a b e h = or_on (no≠ e) (or_on (no≤ h) refl)

-- one pair of circuits of rule 6, in terms of the circuits that were read
module _ (z : List ℕ) (j k : ℕ) (own : Region) (other : Circuit)
    (p : own ≡ (circuit_at z j).receive) (q : other ≡ circuit_at z k) where
  read_is : apart own other.read ≡ apart (circuit_at z j).receive (circuit_at z k).read
  read_is = ap₂ apart p (ap (λ (c : Circuit). c.read) q)

  receive_is : apart own other.receive ≡ apart (circuit_at z j).receive (circuit_at z k).receive
  receive_is = ap₂ apart p (ap (λ (c : Circuit). c.receive) q)

  -- whether it is the same circuit or the receive regions are apart, and then the read region decides
  module _ {t : Bool} (e : t ≡ (j =? k or apart own other.receive)) where
    first_is : t ≡ (j =? k or apart (circuit_at z j).receive (circuit_at z k).receive)
    first_is = e ∙ ap (λ b. j =? k or b) receive_is

    pub pair_on : {v : Bool} → t ≡ true → v ≡ apart own other.read → v ≡ receive_apart z j k
    unfolding receive_apart
    pair_on y r = and_on (sym first_is ∙ y) (r ∙ read_is)

    pub pair_no : t ≡ false → t ≡ receive_apart z j k
    unfolding receive_apart
    pair_no n = n ∙ and_no _ (sym first_is ∙ n)

-- a pair of circuits of rule 6, of which the second has no node in common with the first one's receive region
pub pair_nodes : (z : List ℕ) (j k : ℕ) (own : Region) (source destination : ℕ) → own ≡ (circuit_at z j).receive
    → source ≡ (circuit_at z k).read.node → destination ≡ (circuit_at z k).receive.node
    → (source ≡ own.node → ⊥) → (destination ≡ own.node → ⊥) → true ≡ receive_apart z j k
unfolding receive_apart
pair_nodes z j k own source destination p q r a b =
    let same = ap (λ (x : Region). x.node) p in
    and_on
    (sym (or_skip _ (apart_nodes _ _ (λ e. b (r ∙ sym e ∙ sym same)))))
    (apart_nodes _ _ (λ e. a (q ∙ sym e ∙ sym same)))

-- the regions of a circuit end so low that no sum wraps
module _ (z : List ℕ) (f : Framed z) (r : rule4 z ≡ true) (k : ℕ) (h : k < circuits z) where
  pub circuit_ends : (c : Circuit) → c ≡ circuit_at z k
      → (c.read.offset + c.read.size < 65536) × (c.receive.offset + c.receive.size < 65536)
  circuit_ends c e =
      let q = subst (CircuitSmall (nodes z) (memory_words z)) (sym e) (circuit_small z r k h) in
      (omega arith, omega arith)

  -- and so does its receive region by itself
  pub receive_ends : (t : Region) → t ≡ (circuit_at z k).receive → t.offset + t.size < 65536
  receive_ends t e = subst (λ (x : Region). x.offset + x.size < 65536) (sym e) (circuit_ends (circuit_at z k) refl).1

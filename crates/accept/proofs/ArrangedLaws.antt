-- The circuits in order, with their tables by node: what one circuit more adds, and that the numbers 5 and 6 follow.
-- Assumes nothing.
use Prim.Native.Nat.{ℕ, ◌+◌, ◌-◌, ◌<◌, ◌≤◌}
use mathlib.Core.Bool.{Bool, true}
use mathlib.Core.List.{List}
use mathlib.Core.Path.{◌≡◌, sym, ◌∙◌, ap, ap₂, subst}
use native.Mathlib.Omega.{arith}
use native.Mathlib.Decide.{dec_lt, ℕ_discrete}
use lib.ListN.{length, set, replicate, length-set, length-replicate}
use lib.Seq.{get_or-set_other, get_or-set_same}
use Rattle.words.specs.Tests.{◌or◌, ◌=?◌}
use Rattle.words.specs.Words.{word, pick}
use Rattle.words.proofs.WordLaws.{word_zeros}
use Rattle.words.proofs.AllLaws.{all_none, all_more, all_at, all_of}
use Rattle.words.proofs.TestLaws.{and_left, and_right, and_both, or_yes, or_skip, yes≤, yes<, yes=, no=, is≤, is<}
use Rattle.sheet.specs.declared.circuits.Circuit.{Circuit}
use Rattle.sheet.specs.Sheet.{circuits, nodes, memory_words, circuit_at}
use Rattle.sheet.specs.Rules.{region_fits, circuit_fits, precedes, circuit_precedes, apart, receive_apart, rule4, rule5, rule6}
use Rattle.sheet.specs.Inner.Passed.{Framed}
use Rattle.sheet.proofs.PassedLaws.{nodes_few, circuit_small}
use Rattle.sheet.proofs.CircuitLaws.{apart_nodes, apart_first}
use Rattle.accept.specs.Inner.Arranged.{start_key, end_key, Ordered, ByNode}

-- one of two lists, by a test of a word
pub pick_first : (w : ℕ) (a b : List ℕ) → w ≡ 0 → a ≡ pick (w =? 0) a b
pick_first w a b e = sym (ap (λ (t : Bool). pick t a b) (yes= e))

pub pick_second : (w : ℕ) (a b : List ℕ) → (w ≡ 0 → ⊥) → b ≡ pick (w =? 0) a b
pick_second w a b ne = sym (ap (λ (t : Bool). pick t a b) (no= ne))

-- what number 4 at a circuit says of its receive region
pub record Within (count memory : ℕ) (c : Circuit) : Type 0 where
  pub inside : c.receive.node < count
  pub has_word : 1 ≤ c.receive.size
  pub ends : c.receive.offset + c.receive.size ≤ memory

pub within_is : (count memory : ℕ) (c : Circuit) → circuit_fits count memory c ≡ true → Within count memory c
unfolding circuit_fits region_fits
within_is count memory c r =
    let r₁ = and_right _ _ r in
    let r₂ = and_right _ _ r₁ in
    let r₃ = and_right _ _ r₂ in
    let r₄ = and_right _ _ r₃ in
    record {
      inside = is< _ _ (and_left _ _ r₁);
      has_word = is≤ _ _ (and_left _ _ r₄);
      ends = is≤ _ _ (and_right _ _ r₄);
    }

-- the same, in terms of what was read
pub within_read : (count memory : ℕ) (c : Circuit) {w : Bool} → w ≡ circuit_fits count memory c → w ≡ true → Within count memory c
within_read count memory c e t = within_is count memory c (sym e ∙ t)

-- a node's list that has an end begins before it
abbrev Begun : List ℕ → List ℕ → Type 0
Begun from to = (n : ℕ) → (word to n ≡ 0 → ⊥) → word from n < word to n

-- circuit k put into the tables
module _ (z from to after-from after-to : List ℕ) (k node : ℕ) (g : ByNode z from to k) (b : Begun from to)
    (e : node ≡ (circuit_at z k).receive.node) (few : node < 16)
    (p : after-from ≡ pick (word to node =? 0) (set from node k) from) (q : after-to ≡ set to node (k + 1)) where
  to_own : word after-to node ≡ k + 1
  to_own = ap (λ (x : List ℕ). word x node) q ∙ get_or-set_same to node (k + 1) 0 (omega (arith, g.to_long))

  to_other : (n : ℕ) → (n ≡ node → ⊥) → word after-to n ≡ word to n
  to_other n ne = ap (λ (x : List ℕ). word x n) q ∙ get_or-set_other to node n (k + 1) 0 ne

  from_first : word to node ≡ 0 → after-from ≡ set from node k
  from_first h = p ∙ sym (pick_first (word to node) (set from node k) from h)

  from_second : (word to node ≡ 0 → ⊥) → after-from ≡ from
  from_second h = p ∙ sym (pick_second (word to node) (set from node k) from h)

  -- the first of a node begins its list
  from_own : word after-from node ≤ k
  from_own = go (ℕ_discrete (word to node) 0)
    where
      go : Dec (word to node ≡ 0) → word after-from node ≤ k
      go (yes h) =
          let same : word after-from node ≡ k =
          ap (λ (x : List ℕ). word x node) (from_first h) ∙ get_or-set_same from node k 0 (omega (arith, g.from_long)) in
          omega (arith, same)
      go (no h) =
          let same : word after-from node ≡ word from node = ap (λ (x : List ℕ). word x node) (from_second h) in
          omega (arith, same, b node h, g.below node)

  from_other : (n : ℕ) → (n ≡ node → ⊥) → word after-from n ≡ word from n
  from_other n ne = go (ℕ_discrete (word to node) 0)
    where
      go : Dec (word to node ≡ 0) → word after-from n ≡ word from n
      go (yes h) = ap (λ (x : List ℕ). word x n) (from_first h) ∙ get_or-set_other from node n k 0 ne
      go (no h) = ap (λ (x : List ℕ). word x n) (from_second h)

  -- a list that was begun stays
  from_kept : (word to node ≡ 0 → ⊥) → word after-from node ≡ word from node
  from_kept h = ap (λ (x : List ℕ). word x node) (from_second h)

  from_length : length after-from ≡ 16
  from_length = go (ℕ_discrete (word to node) 0)
    where
      go : Dec (word to node ≡ 0) → length after-from ≡ 16
      go (yes h) = ap length (from_first h) ∙ length-set from node k ∙ g.from_long
      go (no h) = ap length (from_second h) ∙ g.from_long

  pub begun_more : Begun after-from after-to
  begun_more n h = go (ℕ_discrete n node)
    where
      go : Dec (n ≡ node) → word after-from n < word after-to n
      go (yes same) =
          let here : word after-from node < word after-to node = omega (arith, from_own, to_own) in
          subst (λ (x : ℕ). word after-from x < word after-to x) (sym same) here
      go (no ne) = omega (arith, from_other n ne, to_other n ne, b n (λ zeros. h (to_other n ne ∙ zeros)))

  earlier : (i : ℕ) → i < k → (word after-from (circuit_at z i).receive.node ≤ i) × (i < word after-to (circuit_at z i).receive.node)
  earlier i l = go (ℕ_discrete (circuit_at z i).receive.node node)
    where
      n : ℕ
      n = (circuit_at z i).receive.node

      old : (word from n ≤ i) × (i < word to n)
      old = g.within i l

      go : Dec (n ≡ node) → (word after-from n ≤ i) × (i < word after-to n)
      go (yes same) =
          let here : word to n ≡ word to node = ap (word to) same in
          let kept : word after-from node ≡ word from node =
          from_kept (λ zeros. let e₀ : ⊥ = omega (arith, zeros, here, old.1) in e₀) in
          let before : word after-from n ≡ word after-from node = ap (word after-from) same in
          let read : word from n ≡ word from node = ap (word from) same in
          let behind : word after-to n ≡ word after-to node = ap (word after-to) same in
          (omega (arith, before, kept, read, old.0), omega (arith, behind, to_own, l))
      go (no ne) = (omega (arith, from_other n ne, old.0), omega (arith, to_other n ne, old.1))

  pub by_node_more : ByNode z after-from after-to (k + 1)
  by_node_more =
      record {
        from_long = from_length;
        to_long = ap length q ∙ length-set to node (k + 1) ∙ g.to_long;
        within = λ i l. which i l (dec_lt i k);
        below = λ n. lower n (ℕ_discrete n node);
      }
    where
      which : (i : ℕ) → i < k + 1 → Dec (i < k)
          → (word after-from (circuit_at z i).receive.node ≤ i) × (i < word after-to (circuit_at z i).receive.node)
      which i l (yes before) = earlier i before
      which i l (no late) =
          let same : k ≡ i = omega (arith, late) in
          subst
          (λ (x : ℕ). (word after-from (circuit_at z x).receive.node ≤ x) × (x < word after-to (circuit_at z x).receive.node)) same
          (subst (λ (n : ℕ). (word after-from n ≤ k) × (k < word after-to n)) e (from_own, omega (arith, to_own)))

      lower : (n : ℕ) → Dec (n ≡ node) → word after-to n ≤ k + 1
      lower n (yes same) =
          let here : word after-to n ≡ word after-to node = ap (word after-to) same in
          omega (arith, here, to_own)
      lower n (no ne) = omega (arith, to_other n ne, g.below n)

-- a table of zeros
pub zeros_long : (to : List ℕ) → to ≡ replicate 16 0 → length to ≡ 16
zeros_long to e = ap length e ∙ length-replicate {A = ℕ} 16 0

-- the loop over the circuits: the first k are in order, none ends behind `end`, and the tables hold them
pub record Arranging (z : List ℕ) (k end : ℕ) (from to : List ℕ) : Type 0 where
  pub ordered : Ordered z k
  pub ended : (i : ℕ) → i < k → end_key (circuit_at z i).receive ≤ end
  pub tables : ByNode z from to k
  pub begun : Begun from to

pub arranging_start : (z from to : List ℕ) → length from ≡ 16 → to ≡ replicate 16 0 → Arranging z 0 0 from to
arranging_start z from to f e =
    record {
      ordered = record { fit = sym (all_none _); chain = λ i j l m. absurd (let e₀ : ⊥ = omega (arith, m) in e₀) };
      ended = λ i l. absurd (let e₀ : ⊥ = omega (arith, l) in e₀);
      tables = record {
        from_long = f;
        to_long = zeros_long to e;
        within = λ i l. absurd (let e₀ : ⊥ = omega (arith, l) in e₀);
        below = λ n. omega (arith, none n);
      };
      begun = λ n ne. absurd (ne (none n));
    }
  where
    none : (n : ℕ) → word to n ≡ 0
    none n = ap (λ (x : List ℕ). word x n) e ∙ word_zeros 16 n

-- circuit k fits and begins behind the end
pub arranging_more : (z : List ℕ) (k end : ℕ) (from to after-from after-to : List ℕ) → Arranging z k end from to
    → (count memory : ℕ) → count ≡ nodes z → memory ≡ memory_words z → count ≤ 16
    → (c : Circuit) → c ≡ circuit_at z k → circuit_fits count memory c ≡ true → end ≤ start_key c.receive
    → after-from ≡ pick (word to c.receive.node =? 0) (set from c.receive.node k) from
    → after-to ≡ set to c.receive.node (k + 1)
    → Arranging z (k + 1) (end_key c.receive) after-from after-to
arranging_more z k end from to after-from after-to g count memory x y few c e fits behind p q =
    let at = c.receive.node in
    let small : at < 16 = omega (arith, (within_is count memory c fits).inside, few) in
    let node : at ≡ (circuit_at z k).receive.node = ap (λ (a : Circuit). a.receive.node) e in
    record {
      ordered = record {
        fit = all_more _ k g.ordered.fit own_fits;
        chain = λ i j l m. chained i j l m (dec_lt j k);
      };
      ended = λ i l. ending i l (dec_lt i k);
      tables = by_node_more z from to after-from after-to k at g.tables g.begun node small p q;
      begun = begun_more z from to after-from after-to k at g.tables g.begun node small p q;
    }
  where
    own_fits : circuit_fits (nodes z) (memory_words z) (circuit_at z k) ≡ true
    own_fits = cc

    begins : start_key c.receive ≡ start_key (circuit_at z k).receive
    begins = ap (λ (a : Circuit). start_key a.receive) e

    ends : end_key c.receive ≡ end_key (circuit_at z k).receive
    ends = ap (λ (a : Circuit). end_key a.receive) e

    chained : (i j : ℕ) → i < j → j < k + 1 → Dec (j < k) → end_key (circuit_at z i).receive ≤ start_key (circuit_at z j).receive
    chained i j l m (yes before) = g.ordered.chain i j l before
    chained i j l m (no late) =
        let same : k ≡ j = omega (arith, late, m) in
        let last : end_key (circuit_at z i).receive ≤ end = g.ended i (omega (arith, l, same)) in
        subst (λ (n : ℕ). end_key (circuit_at z i).receive ≤ start_key (circuit_at z n).receive) same
        (omega (arith, last, behind, begins))

    ending : (i : ℕ) → i < k + 1 → Dec (i < k) → end_key (circuit_at z i).receive ≤ end_key c.receive
    ending i l (yes before) = omega (arith, g.ended i before, behind)
    ending i l (no late) =
        let same : k ≡ i = omega (arith, late, l) in
        subst (λ (n : ℕ). end_key (circuit_at z n).receive ≤ end_key c.receive) same (omega (arith, ends))

pub arranging_done : (z : List ℕ) (k end : ℕ) (from to : List ℕ) → Arranging z k end from to → k ≡ circuits z
    → (Ordered z (circuits z)) × (ByNode z from to (circuits z))
arranging_done z k end from to g e = (subst (Ordered z) e g.ordered, subst (ByNode z from to) e g.tables)

-- circuits in order keep the number 4
pub order_four : (z : List ℕ) → Ordered z (circuits z) → rule4 z ≡ true
unfolding rule4
order_four z o = o.fit

module _ (z : List ℕ) (f : Framed z) (o : Ordered z (circuits z)) where
  own : (k : ℕ) → k < circuits z → Within (nodes z) (memory_words z) (circuit_at z k)
  own k h = within_is (nodes z) (memory_words z) (circuit_at z k) (all_at _ (circuits z) o.fit k h)

  -- and the number 5: a region has a word
  pub order_five : rule5 z ≡ true
  unfolding rule5 circuit_precedes precedes
  order_five = all_of (circuits z - 1) _ (λ k h. go k h (dec_lt (at k) (at (k + 1))))
    where
      at : ℕ → ℕ
      at k = (circuit_at z k).receive.node

      go : (k : ℕ) → k < circuits z - 1 → Dec (at k < at (k + 1))
          → circuit_precedes (circuit_at z k) (circuit_at z (k + 1)) ≡ true
      go k h (yes l) = sym (or_yes _ (yes< l))
      go k h (no g) =
          let a = own k (omega (arith, h)) in
          let b = own (k + 1) (omega (arith, h)) in
          let c = o.chain k (k + 1) (omega arith) (omega (arith, h)) in
          let m = f.headed.memory_high in
          let same : at k ≡ at (k + 1) = omega (arith, a.ends, b.ends, a.has_word, c, m, g) in
          let less : (circuit_at z k).receive.offset < (circuit_at z (k + 1)).receive.offset = omega (arith, a.has_word, c, same) in
          sym (or_skip _ (sym (and_both (yes= same) (yes< less))))

  -- two receive regions in order are apart, the one from the other and the other from the one
  apart_on : (i j : ℕ) → i < j → j < circuits z → apart (circuit_at z i).receive (circuit_at z j).receive ≡ true
  apart_on i j l h = go (ℕ_discrete (circuit_at z i).receive.node (circuit_at z j).receive.node)
    where
      go : Dec ((circuit_at z i).receive.node ≡ (circuit_at z j).receive.node)
          → apart (circuit_at z i).receive (circuit_at z j).receive ≡ true
      go (yes same) = sym (apart_first _ _ (omega (arith, same, o.chain i j l h)))
      go (no ne) = sym (apart_nodes _ _ ne)

  apart_back : (i j : ℕ) → j < i → i < circuits z → apart (circuit_at z i).receive (circuit_at z j).receive ≡ true
  unfolding apart
  apart_back i j l h = go (ℕ_discrete (circuit_at z i).receive.node (circuit_at z j).receive.node)
    where
      go : Dec ((circuit_at z i).receive.node ≡ (circuit_at z j).receive.node)
          → apart (circuit_at z i).receive (circuit_at z j).receive ≡ true
      go (yes same) = sym (or_skip _ (or_skip _ (sym (yes≤ (omega (arith, same, o.chain j i l h))))))
      go (no ne) = sym (apart_nodes _ _ ne)

  -- the number 6, once the read regions are apart from the receive regions
  pub order_six : ((i k : ℕ) → i < circuits z → k < circuits z → apart (circuit_at z i).receive (circuit_at z k).read ≡ true)
      → rule6 z ≡ true
  unfolding rule6 receive_apart
  order_six reads =
      all_of (circuits z) _
      (λ j h. all_of (circuits z) _ (λ k l. and_both (go j k h l (ℕ_discrete j k) (dec_lt j k)) (reads j k h l)))
    where
      go : (j k : ℕ) → j < circuits z → k < circuits z → Dec (j ≡ k) → Dec (j < k)
          → (j =? k or apart (circuit_at z j).receive (circuit_at z k).receive) ≡ true
      go j k h l (yes same) before = sym (or_yes _ (yes= same))
      go j k h l (no ne) (yes before) = sym (or_skip _ (sym (apart_on j k before l)))
      go j k h l (no ne) (no late) = sym (or_skip _ (sym (apart_back j k (omega (arith, ne, late)) h)))

-- the read region of circuit k is apart from the receive regions of the circuits from `first` on and below i
pub record ReadApart (z : List ℕ) (k first i : ℕ) : Type 0 where
  pub each : (j : ℕ) → first ≤ j → j < i → apart (circuit_at z j).receive (circuit_at z k).read ≡ true

pub read_start : (z : List ℕ) (k first : ℕ) → ReadApart z k first first
read_start z k first = record { each = λ j a l. absurd (let e₀ : ⊥ = omega (arith, a, l) in e₀) }

pub read_more : (z : List ℕ) (k first i : ℕ) → ReadApart z k first i
    → (own other : Circuit) → own ≡ circuit_at z k → other ≡ circuit_at z i
    → {w : Bool} → w ≡ apart other.receive own.read → w ≡ true → ReadApart z k first (i + 1)
read_more z k first i g own other p q e t = record { each = λ j a l. go j a l (dec_lt j i) }
  where
    here : apart (circuit_at z i).receive (circuit_at z k).read ≡ true
    here = sym (ap₂ (λ (x y : Circuit). apart x.receive y.read) q p) ∙ sym e ∙ t

    go : (j : ℕ) → first ≤ j → j < i + 1 → Dec (j < i) → apart (circuit_at z j).receive (circuit_at z k).read ≡ true
    go j a l (yes before) = g.each j a before
    go j a l (no late) =
        let same : i ≡ j = omega (arith, late, l) in
        subst (λ (n : ℕ). apart (circuit_at z n).receive (circuit_at z k).read ≡ true) same here

-- the read regions of the first k circuits are apart from all receive regions
pub record ReadsApart (z : List ℕ) (k : ℕ) : Type 0 where
  pub each : (i j : ℕ) → i < circuits z → j < k → apart (circuit_at z i).receive (circuit_at z j).read ≡ true

pub reads_start : (z : List ℕ) → ReadsApart z 0
reads_start z = record { each = λ i j h l. absurd (let e₀ : ⊥ = omega (arith, l) in e₀) }

-- a receive region at another node is apart; one at the same node is among those that the tables name
pub reads_more : (z from to : List ℕ) (k : ℕ) → ReadsApart z k → ByNode z from to (circuits z)
    → (c : Circuit) → c ≡ circuit_at z k
    → ((i : ℕ) → word from c.read.node ≤ i → i < word to c.read.node
    → apart (circuit_at z i).receive (circuit_at z k).read ≡ true)
    → ReadsApart z (k + 1)
reads_more z from to k g b c e tested = record { each = λ i j h l. go i j h l (dec_lt j k) }
  where
    node : (circuit_at z k).read.node ≡ c.read.node
    node = ap (λ (x : Circuit). x.read.node) (sym e)

    here : (i : ℕ) → i < circuits z → Dec ((circuit_at z i).receive.node ≡ (circuit_at z k).read.node)
        → apart (circuit_at z i).receive (circuit_at z k).read ≡ true
    here i h (yes same) =
        let in_list : (word from c.read.node ≤ i) × (i < word to c.read.node) =
        subst (λ (n : ℕ). (word from n ≤ i) × (i < word to n)) (same ∙ node) (b.within i h) in
        tested i in_list.0 in_list.1
    here i h (no ne) = sym (apart_nodes _ _ ne)

    go : (i j : ℕ) → i < circuits z → j < k + 1 → Dec (j < k) → apart (circuit_at z i).receive (circuit_at z j).read ≡ true
    go i j h l (yes before) = g.each i j h before
    go i j h l (no late) =
        let same : k ≡ j = omega (arith, late, l) in
        subst (λ (n : ℕ). apart (circuit_at z i).receive (circuit_at z n).read ≡ true) same
        (here i h (ℕ_discrete (circuit_at z i).receive.node (circuit_at z k).read.node))

pub reads_done : (z : List ℕ) (k : ℕ) → Framed z → Ordered z (circuits z) → ReadsApart z k → circuits z ≤ k → rule6 z ≡ true
reads_done z k f o g h = order_six z f o (λ i j l m. g.each i j l (omega (arith, h, m)))

-- the source of a circuit has a small number
pub source_few : (z : List ℕ) → Framed z → Ordered z (circuits z) → (k : ℕ) → k < circuits z → (c : Circuit) → c ≡ circuit_at z k
    → c.read.node < 16
source_few z f o k h c e =
    let small = circuit_small z (order_four z o) k h in
    omega (arith, ap (λ (x : Circuit). x.read.node) e, small.source_inside, nodes_few z f.headed)

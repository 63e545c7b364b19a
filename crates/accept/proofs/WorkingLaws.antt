-- The tables of the neighbours and of the circuits' ends, as they are filled, and a bound of the periods.
-- Assumes nothing.
use Prim.Native.Nat.{ℕ, zero, suc, ◌+◌, ◌*◌, ◌/◌, ◌<◌, ◌≤◌}
use mathlib.Core.Bool.{Bool, true, false}
use mathlib.Core.List.{List}
use mathlib.Core.Path.{◌≡◌, refl, sym, ◌∙◌, ap, ap₂, subst}
use native.Mathlib.Omega.{arith}
use native.Mathlib.Decide.{dec_lt}
use lib.ListN.{length, set, length-set}
use lib.Seq.{get_or-set_other, get_or-set_same}
use Rattle.words.specs.Words.{word, pick}
use Rattle.words.proofs.WordLaws.{fill_more}
use Rattle.torus.specs.Torus.{neighbour_of, distance_of, shorter_way}
use Rattle.torus.specs.Route.{router_cycles}
use Rattle.torus.specs.Inner.Grid.{InGrid}
use Rattle.torus.specs.Inner.Paths.{wires_per_node}
use Rattle.torus.proofs.NeighbourLaws.{bounds, neighbour_inside}
use Rattle.torus.proofs.DistanceLaws.{distance_most}
use Rattle.sheet.specs.Sheet.{columns, rows, is_long, circuits, circuit_at, period}
use Rattle.sheet.specs.Slots.{source_of, destination_of}
use Rattle.sheet.specs.Flight.{vertical_of}
use Rattle.sheet.specs.Rules.{rule4}
use Rattle.sheet.specs.Inner.Passed.{Framed}
use Rattle.routes.specs.Inner.Joined.{circuit_span}
use Rattle.routes.proofs.RouteRules.{way_few, nodes_inside}
use Rattle.accept.specs.Inner.Working.{Neighbours, ends_word, Ends}

-- four words put one behind the other
abbrev pub put_four : List ℕ → ℕ → ℕ → ℕ → ℕ → ℕ → List ℕ
put_four near at a b c d = set (set (set (set near at a) (at + 1) b) (at + 2) c) (at + 3) d

-- the neighbours as they were read are those of the grid
pub put_are : (near : List ℕ) (node : ℕ) {a b c d u v w x : ℕ} → a ≡ u → b ≡ v → c ≡ w → d ≡ x
    → put_four near (node * wires_per_node) (a * wires_per_node) (b * wires_per_node) (c * wires_per_node) (d * wires_per_node)
    ≡ put_four near (node * wires_per_node) (u * wires_per_node) (v * wires_per_node) (w * wires_per_node) (x * wires_per_node)
put_are near node p q r t = cc

-- they leave the list as long as it was, stand at their places, and change no other
module _ (near : List ℕ) (at a b c d : ℕ) where
  pub four_long : length (put_four near at a b c d) ≡ length near
  four_long =
      length-set (set (set (set near at a) (at + 1) b) (at + 2) c) (at + 3) d
      ∙ length-set (set (set near at a) (at + 1) b) (at + 2) c
      ∙ length-set (set near at a) (at + 1) b
      ∙ length-set near at a

  four_away : (k : ℕ) → k < at → word (put_four near at a b c d) k ≡ word near k
  four_away k h =
      get_or-set_other (set (set (set near at a) (at + 1) b) (at + 2) c) (at + 3) k d 0 (λ e. let e₀ : ⊥ = omega (arith, e) in e₀)
      ∙ get_or-set_other (set (set near at a) (at + 1) b) (at + 2) k c 0 (λ e. let e₀ : ⊥ = omega (arith, e) in e₀)
      ∙ get_or-set_other (set near at a) (at + 1) k b 0 (λ e. let e₀ : ⊥ = omega (arith, e) in e₀)
      ∙ get_or-set_other near at k a 0 (λ e. let e₀ : ⊥ = omega (arith, e) in e₀)

  module _ (h : at + 4 ≤ length near) where
    four_first : word (put_four near at a b c d) at ≡ a
    four_first =
        get_or-set_other (set (set (set near at a) (at + 1) b) (at + 2) c) (at + 3) at d 0 (λ e. let e₀ : ⊥ = omega (arith, e) in e₀)
        ∙ get_or-set_other (set (set near at a) (at + 1) b) (at + 2) at c 0 (λ e. let e₀ : ⊥ = omega (arith, e) in e₀)
        ∙ get_or-set_other (set near at a) (at + 1) at b 0 (λ e. let e₀ : ⊥ = omega (arith, e) in e₀)
        ∙ get_or-set_same near at a 0 (omega arith)

    four_second : word (put_four near at a b c d) (at + 1) ≡ b
    four_second =
        get_or-set_other (set (set (set near at a) (at + 1) b) (at + 2) c) (at + 3) (at + 1) d 0 (λ e. let e₀ : ⊥ = omega (arith, e) in e₀)
        ∙ get_or-set_other (set (set near at a) (at + 1) b) (at + 2) (at + 1) c 0 (λ e. let e₀ : ⊥ = omega (arith, e) in e₀)
        ∙ get_or-set_same (set near at a) (at + 1) b 0 (omega (arith, length-set near at a))

    four_third : word (put_four near at a b c d) (at + 2) ≡ c
    four_third =
        get_or-set_other (set (set (set near at a) (at + 1) b) (at + 2) c) (at + 3) (at + 2) d 0 (λ e. let e₀ : ⊥ = omega (arith, e) in e₀)
        ∙ get_or-set_same (set (set near at a) (at + 1) b) (at + 2) c 0
        (omega (arith, length-set near at a, length-set (set near at a) (at + 1) b))

    four_last : word (put_four near at a b c d) (at + 3) ≡ d
    four_last =
        get_or-set_same (set (set (set near at a) (at + 1) b) (at + 2) c) (at + 3) d 0
        (omega (arith, length-set near at a, length-set (set near at a) (at + 1) b, length-set (set (set near at a) (at + 1) b) (at + 2) c))

-- the neighbours of the first n nodes are put
pub record Putting (cols rows n : ℕ) (before near : List ℕ) : Type 0 where
  pub same : length near ≡ length before
  pub long : cols * rows * wires_per_node ≤ length near
  pub done : (node side : ℕ) → node < n → side < 4
      → word near (node * wires_per_node + side) ≡ neighbour_of cols rows node side * wires_per_node

pub putting_start : (cols rows : ℕ) (near : List ℕ) → cols * rows * wires_per_node ≤ length near → Putting cols rows 0 near near
putting_start cols rows near h =
    record { same = refl; long = h; done = λ node side l m. absurd (let e₀ : ⊥ = omega arith in e₀) }

pub putting_more : (cols rows n : ℕ) (before near after : List ℕ) → Putting cols rows n before near → n < cols * rows
    → after ≡ put_four near (n * wires_per_node) (neighbour_of cols rows n 0 * wires_per_node) (neighbour_of cols rows n 1 * wires_per_node)
    (neighbour_of cols rows n 2 * wires_per_node) (neighbour_of cols rows n 3 * wires_per_node)
    → Putting cols rows (n + 1) before after
putting_more cols rows n before near after g l e =
    record {
      same = ap length e ∙ four_long near at a b c d ∙ g.same;
      long = omega (arith, g.long, ap length e, four_long near at a b c d);
      done = λ node side m s. ap (λ (x : List ℕ). word x (node * wires_per_node + side)) e ∙ which node side m s (dec_lt node n);
    }
  where
    at : ℕ
    at = n * wires_per_node

    a : ℕ
    a = neighbour_of cols rows n 0 * wires_per_node

    b : ℕ
    b = neighbour_of cols rows n 1 * wires_per_node

    c : ℕ
    c = neighbour_of cols rows n 2 * wires_per_node

    d : ℕ
    d = neighbour_of cols rows n 3 * wires_per_node

    room : at + 4 ≤ length near
    room = omega (arith, g.long, l)

    own : (side : ℕ) → side < 4 → word (put_four near at a b c d) (at + side) ≡ neighbour_of cols rows n side * wires_per_node
    own zero s = ap (word (put_four near at a b c d)) (let e₀ : at + 0 ≡ at = omega arith in e₀) ∙ four_first near at a b c d room
    own (suc zero) s = four_second near at a b c d room
    own (suc (suc zero)) s = four_third near at a b c d room
    own (suc (suc (suc zero))) s = four_last near at a b c d room
    own (suc (suc (suc (suc side)))) s = absurd (let e₀ : ⊥ = omega arith in e₀)

    which : (node side : ℕ) → node < n + 1 → side < 4 → Dec (node < n)
        → word (put_four near at a b c d) (node * wires_per_node + side) ≡ neighbour_of cols rows node side * wires_per_node
    which node side m s (yes before) = four_away near at a b c d (node * wires_per_node + side) (omega arith) ∙ g.done node side before s
    which node side m s (no late) =
        let same : n ≡ node = omega (arith, late) in
        subst (λ (k : ℕ). word (put_four near at a b c d) (k * wires_per_node + side) ≡ neighbour_of cols rows k side * wires_per_node) same
        (own side s)

pub putting_done : (cols rows n : ℕ) (before near : List ℕ) → Putting cols rows n before near → cols * rows ≤ n → Neighbours cols rows near
putting_done cols rows n before near g h =
    record { long = g.long; next = λ node side l s. g.done node side (omega arith) s }

-- a neighbour's first wire has a small number
pub neighbour_few : (cols rows node side next : ℕ) → InGrid cols rows node → next ≡ neighbour_of cols rows node side → next < 16
neighbour_few cols rows node side next g e =
    let small = bounds g in
    omega (arith, e, small.grid_high, neighbour_inside g side)

-- the cycles of the hops between two nodes, and that they are few
module _ (cols count source destination : ℕ) where
  abbrev pub span_by : Bool → ℕ
  span_by long =
      router_cycles * distance_of cols count source destination + pick long (shorter_way count (source / cols) (destination / cols)) 0

  pub span_long : {long : Bool} {far down : ℕ} → long ≡ true → far ≡ distance_of cols count source destination
      → down ≡ shorter_way count (source / cols) (destination / cols) → router_cycles * far + down ≡ span_by long
  span_long {long} {far} {down} l d v =
      ap₂ (λ (a b : ℕ). router_cycles * a + b) d v
      ∙ ap (λ (b : Bool). span_by b) (sym l)

  pub span_short : {long : Bool} {far : ℕ} → long ≡ false → far ≡ distance_of cols count source destination
      → router_cycles * far ≡ span_by long
  span_short {long} {far} l d =
      let none : span_by false ≡ span_by long = ap (λ (b : Bool). span_by b) (sym l) in
      omega (arith, d, none)

  module _ (g : InGrid cols count source) (h : InGrid cols count destination) where
    pub down_few : {down : ℕ} → down ≡ shorter_way count (source / cols) (destination / cols) → down ≤ 3
    down_few v = omega (arith, way_few count _ _ _ (omega (arith, g.rows_low)) v, g.rows_high)

    pub far_few : {far : ℕ} → far ≡ distance_of cols count source destination → far ≤ 4
    far_few d = omega (arith, d, distance_most cols count source destination g h)

    pub span_few : (long : Bool) {span : ℕ} → span ≡ span_by long → span ≤ 15
    span_few true e = omega (arith, e, far_few refl, down_few refl)
    span_few false e = omega (arith, e, far_few refl)

-- the same nodes of the same grid
span_same : {cols count source destination cols₁ count₁ source₁ destination₁ : ℕ} {long long₁ : Bool} → cols ≡ cols₁ → count ≡ count₁
    → source ≡ source₁ → destination ≡ destination₁ → long ≡ long₁
    → span_by cols count source destination long ≡ span_by cols₁ count₁ source₁ destination₁ long₁
span_same x y p q l = cc

-- the ends of a circuit as they were read
module _ (z : List ℕ) (f : Framed z) (r : rule4 z ≡ true) (k : ℕ) (h : k < circuits z) (cols count source destination : ℕ)
    (x : cols ≡ columns z) (y : count ≡ rows z) (p : source ≡ word z (5 + 6 * k)) (q : destination ≡ word z (6 + 6 * k)) where
  source_is : source ≡ source_of z k
  unfolding circuit_at
  source_is = p

  destination_is : destination ≡ destination_of z k
  unfolding circuit_at
  destination_is = q ∙ ap (word z) (let e : 6 + 6 * k ≡ 5 + 6 * k + 1 = omega arith in e)

  pub ends_inside : (InGrid cols count source) × (InGrid cols count destination)
  ends_inside =
      let both = nodes_inside z f r k h (circuit_at z k) refl cols count x y in (
        subst (InGrid cols count) (sym source_is) both.0,
        subst (InGrid cols count) (sym destination_is) both.1,
      )

  -- the number made of them and their span is small
  pub ends_few : (long : Bool) (span : ℕ) → span ≡ span_by cols count source destination long
      → source * 6 + destination * 1536 + span * 65536 < 1048576
  ends_few long span s =
      let small = bounds ends_inside.0 in
      let few = span_few cols count source destination ends_inside.0 ends_inside.1 long s in
      omega (arith, small.grid_high, ends_inside.0.inside, ends_inside.1.inside, few)

  -- and it is the circuit's
  pub ends_word_is : (long : Bool) (span : ℕ) → long ≡ is_long z → span ≡ span_by cols count source destination long
      → source * 6 + destination * 1536 + span * 65536 ≡ ends_word z k
  unfolding ends_word circuit_span vertical_of
  ends_word_is long span l s =
      let same : span ≡ span_by (columns z) (rows z) (source_of z k) (destination_of z k) (is_long z) =
      s ∙ span_same x y source_is destination_is l in
      omega (arith, source_is, destination_is, same)

-- the ends and spans of the first i circuits are found
pub record Finding (z : List ℕ) (i : ℕ) (ends : List ℕ) : Type 0 where
  pub full : length ends ≡ 64
  pub done : (k : ℕ) → k < i → word ends k ≡ ends_word z k

pub finding_start : (z ends : List ℕ) → length ends ≡ 64 → Finding z 0 ends
finding_start z ends h = record { full = h; done = λ k l. absurd (let e₀ : ⊥ = omega arith in e₀) }

pub finding_more : (z : List ℕ) (i : ℕ) (ends : List ℕ) → Finding z i ends → i < 64 → (d : ℕ) → d ≡ ends_word z i
    → Finding z (i + 1) (set ends i d)
finding_more z i ends g l d e =
    record {
      full = length-set ends i d ∙ g.full;
      done = fill_more ends i d (ends_word z) (omega (arith, g.full)) g.done e;
    }

pub finding_done : (z : List ℕ) (i : ℕ) (ends : List ℕ) → Finding z i ends → circuits z ≤ i → Ends z ends
finding_done z i ends g h = record { long = g.full; each = λ k l. g.done k (omega arith) }

-- no period of the first i schedules exceeds a number
pub record Longest (z : List ℕ) (i longest : ℕ) : Type 0 where
  pub most : (j : ℕ) → j < i → period z j ≤ longest

pub longest_start : (z : List ℕ) (longest : ℕ) → Longest z 0 longest
longest_start z longest = record { most = λ j h. absurd (let e₀ : ⊥ = omega arith in e₀) }

-- nor that of one schedule more, where the number is no less than before and than that one's period
pub longest_more : (z : List ℕ) (i longest next : ℕ) → Longest z i longest → longest ≤ next → period z i ≤ next → Longest z (i + 1) next
longest_more z i longest next g a b = record { most = λ j h. which j h (dec_lt j i) }
  where
    which : (j : ℕ) → j < i + 1 → Dec (j < i) → period z j ≤ next
    which j h (yes before) = omega (arith, g.most j before)
    which j h (no late) =
        let same : i ≡ j = omega (arith, late) in
        subst (λ (k : ℕ). period z k ≤ next) same b

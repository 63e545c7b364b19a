-- A wire in a cycle, and its place in the table: two of them are the same exactly where their places are, so two packets meet exactly
-- where their places share a number.
-- Assumes nothing.
use Prim.Native.Nat.{ℕ, zero, suc, ◌+◌, ◌*◌, ◌<◌, ◌≤◌}
use mathlib.Core.Bool.{Bool}
use mathlib.Core.List.{List, [], ◌∷◌, ◌++◌, map}
use mathlib.Core.Path.{◌≡◌, refl, sym, ◌∙◌, ap, ap₂}
use native.Mathlib.Omega.{arith}
use native.Mathlib.Numerals.{one-add}
use native.Mathlib.Nat.{mul-le-mul_right, add-mul, one-mul, add_assoc, add-zero}
use native.Mathlib.Decide.{ℕ_discrete}
use lib.ListN.{length}
use Rattle.words.specs.Tests.{◌and◌, ◌or◌, ◌=?◌}
use Rattle.words.specs.Words.{word}
use Rattle.words.proofs.TestLaws.{yes=, no=, and_no, and_both, and_no_right}
use Rattle.words.proofs.WordLaws.{row_and_place}
use Rattle.torus.specs.Route.{Wire, source, side, memory, Use}
use Rattle.torus.specs.Inner.Paths.{wire_number}
use Rattle.torus.proofs.RouteLaws.{Proper, SmallUses, wires_of, delays_of}
use Rattle.sheet.specs.Wires.{WireCycle, same_wire, same, during, occupied, member, meet}
use Rattle.occupancy.specs.Inner.Occupancy.{run, listed}
use Rattle.clash.specs.Inner.Table.{place_of, places}
use Rattle.clash.proofs.ShareLaws.{share}

-- the wires have proper sides, and the cycles are below the stride
abbrev pub Fitting : ℕ → List WireCycle → Type 0
Fitting stride [] = Unit {0}
Fitting stride (x ∷ xs) = (Proper x.wire) × (x.cycle < stride) × Fitting stride xs

-- wires with proper sides have different numbers
wire_number_is : (a b : Wire) → Proper a → Proper b → same_wire a b ≡ (wire_number a =? wire_number b)
unfolding same_wire
wire_number_is (source a) (source b) p q = go (ℕ_discrete a b)
  where
    go : Dec (a ≡ b) → (a =? b) ≡ (a * 6 + 4 =? b * 6 + 4)
    go (yes e) = yes= e ∙ sym (yes= (omega arith))
    go (no ne) = no= ne ∙ sym (no= (λ e. ne (omega arith)))
wire_number_is (source a) (side b t) p q = sym (no= (λ e. let z : ⊥ = omega arith in z))
wire_number_is (source a) (memory b) p q = sym (no= (λ e. let z : ⊥ = omega arith in z))
wire_number_is (side a s) (source b) p q = sym (no= (λ e. let z : ⊥ = omega arith in z))
wire_number_is (side a s) (side b t) p q = go (ℕ_discrete a b) (ℕ_discrete s t)
  where
    go : Dec (a ≡ b) → Dec (s ≡ t) → (a =? b and s =? t) ≡ (a * 6 + s =? b * 6 + t)
    go (yes e) (yes f) = and_both (yes= e) (yes= f) ∙ sym (yes= (omega arith))
    go (yes e) (no ne) = and_no_right _ _ (no= ne) ∙ sym (no= (λ f. ne (omega arith)))
    go (no ne) d = sym (and_no _ (no= ne)) ∙ sym (no= (λ f. ne (omega arith)))
wire_number_is (side a s) (memory b) p q = sym (no= (λ e. let z : ⊥ = omega arith in z))
wire_number_is (memory a) (source b) p q = sym (no= (λ e. let z : ⊥ = omega arith in z))
wire_number_is (memory a) (side b t) p q = sym (no= (λ e. let z : ⊥ = omega arith in z))
wire_number_is (memory a) (memory b) p q = go (ℕ_discrete a b)
  where
    go : Dec (a ≡ b) → (a =? b) ≡ (a * 6 + 5 =? b * 6 + 5)
    go (yes e) = yes= e ∙ sym (yes= (omega arith))
    go (no ne) = no= ne ∙ sym (no= (λ e. ne (omega arith)))

-- the same wire in the same cycle: the same place
module _ (stride : ℕ) where
  same_place : (x y : WireCycle) → Proper x.wire → Proper y.wire → x.cycle < stride → y.cycle < stride
      → same x y ≡ (place_of stride x =? place_of stride y)
  unfolding same
  same_place x y p q hx hy =
      ap (λ (b : Bool). b and x.cycle =? y.cycle) (wire_number_is x.wire y.wire p q)
      ∙ go (ℕ_discrete (wire_number x.wire) (wire_number y.wire)) (ℕ_discrete x.cycle y.cycle)
    where
      go : Dec (wire_number x.wire ≡ wire_number y.wire) → Dec (x.cycle ≡ y.cycle)
          → (wire_number x.wire =? wire_number y.wire and x.cycle =? y.cycle) ≡ (place_of stride x =? place_of stride y)
      go (yes e) (yes f) = and_both (yes= e) (yes= f) ∙ sym (yes= (ap₂ (λ (w c : ℕ). w * stride + c) e f))
      go (yes e) (no ne) = and_no_right _ _ (no= ne) ∙ sym (no= (λ f. ne (row_and_place stride _ _ _ _ hx hy f).1))
      go (no ne) d = sym (and_no _ (no= ne)) ∙ sym (no= (λ f. ne (row_and_place stride _ _ _ _ hx hy f).0))

  member_place : (x : WireCycle) (ys : List WireCycle) → Proper x.wire → x.cycle < stride → Fitting stride ys
      → member x ys ≡ listed (place_of stride x) (map (place_of stride) ys)
  unfolding member listed
  member_place x [] p h f = refl
  member_place x (y ∷ ys) p h f =
      ap₂ ◌or◌ (same_place x y p f.0 h f.1) (member_place x ys p h f.2)

  -- two packets meet exactly where their places share a number
  pub meet_places : (xs ys : List WireCycle) → Fitting stride xs → Fitting stride ys
      → meet xs ys ≡ share (map (place_of stride) xs) (map (place_of stride) ys)
  unfolding meet share
  meet_places [] ys f g = refl
  meet_places (x ∷ xs) ys f g = ap₂ ◌or◌ (member_place x ys f.0 f.1 g) (meet_places xs ys f.2 g)

  -- the places of a wire in some cycles are a row
  pub map_append : (xs ys : List WireCycle) → map (place_of stride) (xs ++ ys) ≡ map (place_of stride) xs ++ map (place_of stride) ys
  map_append [] ys = refl
  map_append (x ∷ xs) ys = ap (λ (l : List ℕ). place_of stride x ∷ l) (map_append xs ys)

  pub row_places_is : (n : ℕ) (wire : Wire) (cycle : ℕ) → map (place_of stride) (during n wire cycle) ≡ run n (wire_number wire * stride + cycle)
  unfolding during run
  row_places_is zero wire cycle = refl
  row_places_is (suc n) wire cycle =
      ap (λ (l : List ℕ). (wire_number wire * stride + cycle) ∷ l)
      (row_places_is n wire (cycle + 1) ∙ ap (run n) (sym (add_assoc (wire_number wire * stride) cycle 1)))

  -- the places of a packet, from the wires and delays of its route
  pub packet_places : (wires delays : List ℕ) (size cycle : ℕ) (uses : List Use) (i : ℕ)
      → ((k : ℕ) → k < length uses → word wires (i + k) ≡ word (wires_of uses) k)
      → ((k : ℕ) → k < length uses → word delays (i + k) ≡ word (delays_of uses) k)
      → places wires delays stride cycle size i (length uses) ≡ map (place_of stride) (occupied uses size cycle)
  unfolding places occupied
  packet_places wires delays size cycle [] i hw hd = refl
  packet_places wires delays size cycle (u ∷ uses) i hw hd =
      let w : word wires i ≡ wire_number u.wire = ap (word wires) (sym (add-zero i)) ∙ hw 0 (omega arith) in
      let d : word delays i ≡ u.delay = ap (word delays) (sym (add-zero i)) ∙ hd 0 (omega arith) in
      ap₂ ◌++◌
      (ap₂ (λ (x y : ℕ). run size (x * stride + (cycle + y))) w d ∙ sym (row_places_is size u.wire (cycle + u.delay)))
      (packet_places wires delays size cycle uses (i + 1)
      (λ k h. ap (word wires) (add_assoc i 1 k ∙ ap (λ (n : ℕ). i + n) (one-add k)) ∙ hw (suc k) (omega arith))
      (λ k h. ap (word delays) (add_assoc i 1 k ∙ ap (λ (n : ℕ). i + n) (one-add k)) ∙ hd (suc k) (omega arith)))
      ∙ sym (map_append (during size u.wire (cycle + u.delay)) (occupied uses size cycle))

  -- a packet's cycles are below the stride where its last one is
  fitting_append : (xs ys : List WireCycle) → Fitting stride xs → Fitting stride ys → Fitting stride (xs ++ ys)
  fitting_append [] ys f g = g
  fitting_append (x ∷ xs) ys f g = (f.0, f.1, fitting_append xs ys f.2 g)

  fitting_row : (size : ℕ) (wire : Wire) (cycle : ℕ) → Proper wire → cycle + size ≤ stride → Fitting stride (during size wire cycle)
  unfolding during
  fitting_row zero wire cycle p h = tt
  fitting_row (suc n) wire cycle p h = (p, omega arith, fitting_row n wire (cycle + 1) p (omega arith))

  pub fitting_packet : (n d : ℕ) (uses : List Use) (size cycle : ℕ) → SmallUses n d uses → cycle + d + size ≤ stride
      → Fitting stride (occupied uses size cycle)
  unfolding occupied
  fitting_packet n d [] size cycle f h = tt
  fitting_packet n d (u ∷ uses) size cycle f h =
      fitting_append (during size u.wire (cycle + u.delay)) (occupied uses size cycle)
      (fitting_row size u.wire (cycle + u.delay) f.0.proper (omega (arith, f.0.soon)))
      (fitting_packet n d uses size cycle f.1 h)

  -- a row of a wire below n ends within n rows
  pub row_ends : (n wire from : ℕ) → wire < n → from ≤ stride → wire * stride + from ≤ n * stride
  row_ends n wire from h e =
      omega (arith, mul-le-mul_right {m = wire + 1} {n = n} stride (omega arith), add-mul wire 1 stride, one-mul stride)

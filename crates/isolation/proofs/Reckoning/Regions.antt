-- What lands in a circuit's regions: by number 6 only its own words land in its receive region, and none in its read region.
-- Assumes nothing.
use Prim.Native.Nat.{ℕ, ◌+◌, ◌-◌, ◌≤◌, ◌<◌}
use mathlib.Core.Bool.{Bool, true, false, false≢true}
use mathlib.Core.List.{List}
use mathlib.Core.Path.{◌≡◌, refl, sym, ◌∙◌, ap, subst}
use native.Mathlib.Omega.{arith}
use native.Mathlib.Decide.{dec_lt}
use Rattle.words.specs.Tests.{all, ◌≤?◌, ◌=?◌, ◌≠?◌}
use Rattle.words.specs.Words.{pick}
use Rattle.words.proofs.TestLaws.{and_left, and_right, and_both, or_cases, is≤, is<, is=, yes≤, yes<, no≤, no=, no≠}
use Rattle.words.proofs.AllLaws.{all_at}
use Rattle.sheet.specs.declared.circuits.Region.{Region}
use Rattle.sheet.specs.Sheet.{circuits, nodes, circuit_at}
use Rattle.sheet.specs.Slots.{source_of, destination_of}
use Rattle.sheet.specs.Flight.{flight_cycles}
use Rattle.sheet.specs.Rules.{apart, receive_apart, rule6, verdict}
use Rattle.sheet.proofs.VerdictLaws.{passed}
use Rattle.network.specs.View.{View, Landing, nothing, landed}
use Rattle.network.specs.Cycle.{tick, stored_by}
use Rattle.soundness.proofs.SoundLaws.{Lies}
use Rattle.soundness.proofs.SheetLaws.{sheet_bounds, circuit_bounds}
use Rattle.isolation.specs.Reckoning.{Item, none, item, flight_cycles, word_after}
use Rattle.isolation.specs.Demand.{in_region}
use Rattle.isolation.proofs.Routes.SheetWays.{ways_of, travel_is}
use Rattle.isolation.proofs.Flights.Trajectory.{Trajectory}
use Rattle.isolation.proofs.Flights.Deliver.{is_landed, leaving_now, Came, leaving_inside}
use Rattle.isolation.proofs.Flights.NeverFaulty.{sent_lands, landed_sent}
use Rattle.isolation.proofs.Reckoning.SenderFollowed.{item_of}

-- an address of a region
pub in_low : (r : Region) (address : ℕ) → in_region r address ≡ true → r.offset ≤ address
in_low r address e = is≤ _ _ (and_left _ _ e)

pub in_high : (r : Region) (address : ℕ) → in_region r address ≡ true → address < r.offset + r.size
in_high r address e = is< _ _ (and_right _ _ e)

pub in_region_when : (r : Region) (address : ℕ) → r.offset ≤ address → address < r.offset + r.size → in_region r address ≡ true
in_region_when r address l h = and_both (yes≤ l) (yes< h)

-- regions at one node that are apart share no address
apart_none : (a b : Region) → apart a b ≡ true → a.node ≡ b.node → (address : ℕ) → in_region a address ≡ true
    → in_region b address ≡ true → ⊥
unfolding apart
apart_none a b e same address p q =
    or_cases (a.node ≠? b.node) _ e
    (λ h. false≢true (sym (no≠ same) ∙ h))
    (λ h. or_cases (a.offset + a.size ≤? b.offset) _ h
    (λ g. omega (arith, is≤ _ _ g, in_high a address p, in_low b address q))
    (λ g. omega (arith, is≤ _ _ g, in_low a address p, in_high b address q)))

module _ (z : List ℕ) (passes : verdict z ≡ 0) where
  pair_apart : (c d : ℕ) → c < circuits z → d < circuits z → receive_apart z c d ≡ true
  unfolding rule6
  pair_apart c d l k =
      all_at (receive_apart z c) (circuits z)
      (all_at (λ j. all (circuits z) (receive_apart z j)) (circuits z) (passed z passes).rule6_kept c l) d k

  -- two receive regions at one node that share an address are one circuit's
  pub receive_once : (c d : ℕ) → c < circuits z → d < circuits z → destination_of z c ≡ destination_of z d → (address : ℕ)
      → in_region (circuit_at z c).receive address ≡ true → in_region (circuit_at z d).receive address ≡ true → c ≡ d
  unfolding receive_apart
  receive_once c d l k same address p q =
      or_cases (c =? d) (apart (circuit_at z c).receive (circuit_at z d).receive) (and_left _ _ (pair_apart c d l k))
      (λ h. is= c d h)
      (λ h. absurd (apart_none (circuit_at z c).receive (circuit_at z d).receive h same address p q))

  -- no receive region shares an address with a read region
  pub receive_read : (c d : ℕ) → c < circuits z → d < circuits z → destination_of z c ≡ source_of z d → (address : ℕ)
      → in_region (circuit_at z c).receive address ≡ true → in_region (circuit_at z d).read address ≡ true → ⊥
  unfolding receive_apart
  receive_read c d l k same address p q =
      apart_none (circuit_at z c).receive (circuit_at z d).read (and_right _ _ (pair_apart c d l k)) same address p q

-- what landed, as far as it falls into a region
abbrev pub item_in : Region → Landing → Item
item_in r nothing = none
item_in r (landed kind address word) = pick (in_region r address) (item kind address word) none

item_inside : (r : Region) (kind address word : ℕ) → in_region r address ≡ true → item_in r (landed kind address word) ≡ item kind address word
item_inside r kind address word e = rw e refl

-- a word of the region after the landing, and after what of it falls into the region
pub stored_inside : (r : Region) (x : Landing) (address w : ℕ) → in_region r address ≡ true
    → word_after (item_in r x) address w ≡ stored_by x address w
stored_inside r nothing address w e = refl
stored_inside r (landed kind at new) address w e = go (in_region r at) refl
  where
    go : (b : Bool) → in_region r at ≡ b → word_after (pick b (item kind at new) none) address w ≡ stored_by (landed kind at new) address w
    go true q = refl
    go false q =
        let ne : at ≡ address → ⊥ = λ s. false≢true (sym q ∙ ap (in_region r) s ∙ e) in
        sym (rw (no= ne) refl)

lies_inside : (r : Region) (address : ℕ) → Lies r address 1 → in_region r address ≡ true
lies_inside r address x = in_region_when r address x.low (omega (arith, x.high))

module _ (z : List ℕ) (passes : verdict z ≡ 0) (S : ℕ → View) (J : Trajectory z S) where
  -- what lands lies in the receive region of the circuit that sent it
  came_inside : (T node kind address word : ℕ) → (x : Came z (ways_of z passes) S T node (landed kind address word))
      → in_region (circuit_at z x.circuit).receive address ≡ true
  came_inside T node kind address word x =
      lies_inside _ address
      (leaving_inside z (sheet_bounds z passes) (ways_of z passes) S J x.left_in x.circuit kind address word x.circuit_inside x.what)

  came : (T node kind address word : ℕ) → node < nodes z → (tick z (S T)).landing node ≡ landed kind address word
      → Came z (ways_of z passes) S T node (landed kind address word)
  came T node kind address word n e =
      subst (Came z (ways_of z passes) S T node) e (landed_sent z passes S J T node n (ap is_landed e))

  module _ (circuit : ℕ) (inside : circuit < circuits z) where
    abbrev travel : ℕ
    travel = flight_cycles z circuit

    -- what the circuit sent its travel before cycle T
    abbrev pub sent_before : ℕ → Item
    sent_before T = pick (travel ≤? T) (item_of (leaving_now z (S (T - travel)) circuit)) none

    -- where something was sent then, it lands
    lands_sent : (T : ℕ) → travel ≤ T → (kind address word : ℕ) → leaving_now z (S (T - travel)) circuit ≡ landed kind address word
        → item_in (circuit_at z circuit).receive ((tick z (S T)).landing (destination_of z circuit)) ≡ item kind address word
    lands_sent T l kind address word e =
        let back : T - travel + travel ≡ T = omega arith in
        let there : (tick z (S T)).landing (destination_of z circuit) ≡ landed kind address word =
        ap (λ (t : ℕ). (tick z (S t)).landing (destination_of z circuit)) (sym back)
        ∙ sent_lands z passes S J (T - travel) circuit inside (ap is_landed e) ∙ e in
        let here : in_region (circuit_at z circuit).receive address ≡ true =
        lies_inside (circuit_at z circuit).receive address
        (leaving_inside z (sheet_bounds z passes) (ways_of z passes) S J (T - travel) circuit kind address word inside e) in
        ap (item_in (circuit_at z circuit).receive) there ∙ item_inside (circuit_at z circuit).receive kind address word here

    -- where something lands in its receive region, the circuit sent it then
    lands_only : (T : ℕ) (x : Landing) → (tick z (S T)).landing (destination_of z circuit) ≡ x
        → (travel ≤ T → is_landed (leaving_now z (S (T - travel)) circuit) ≡ true → ⊥)
        → item_in (circuit_at z circuit).receive x ≡ none
    lands_only T nothing e h = refl
    lands_only T (landed kind address word) e h = go (in_region (circuit_at z circuit).receive address) refl
      where
        go : (b : Bool) → in_region (circuit_at z circuit).receive address ≡ b → pick b (item kind address word) none ≡ none
        go false q = refl
        go true q =
            let n = (circuit_bounds z (sheet_bounds z passes) circuit inside).destination_inside in
            let x = came T (destination_of z circuit) kind address word n e in
            let own : x.circuit ≡ circuit =
            receive_once z passes x.circuit circuit x.circuit_inside inside x.at_node address
            (came_inside T (destination_of z circuit) kind address word x) q in
            let time : T ≡ x.left_in + travel =
            x.time ∙ ap (λ (t : ℕ). x.left_in + t) (travel_is z passes x.circuit ∙ ap (flight_cycles z) own) in
            let then : x.left_in ≡ T - travel = omega arith in
            absurd
            (h (omega arith)
            (ap (λ (t : ℕ). is_landed (leaving_now z (S t) circuit)) (sym then)
            ∙ ap (λ (c : ℕ). is_landed (leaving_now z (S x.left_in) c)) (sym own)
            ∙ ap is_landed x.what))

    -- what lands in the circuit's receive region is what it sent its travel before, or nothing
    pub lands_inside : (T : ℕ)
        → item_in (circuit_at z circuit).receive ((tick z (S T)).landing (destination_of z circuit)) ≡ sent_before T
    lands_inside T = go (dec_lt T travel) (leaving_now z (S (T - travel)) circuit) refl
      where
        go : Dec (T < travel) → (x : Landing) → leaving_now z (S (T - travel)) circuit ≡ x
            → item_in (circuit_at z circuit).receive ((tick z (S T)).landing (destination_of z circuit)) ≡ sent_before T
        go (yes l) x e = lands_only T _ refl (λ p q. omega arith) ∙ sym (rw (no≤ l) refl)
        go (no l) nothing e =
            let late : travel ≤ T = omega (arith, l) in
            lands_only T _ refl (λ p q. false≢true (sym (ap is_landed e) ∙ q)) ∙ sym (rw (yes≤ late, e) refl)
        go (no l) (landed kind address word) e =
            let late : travel ≤ T = omega (arith, l) in
            lands_sent T late kind address word e ∙ sym (rw (yes≤ late, e) refl)

    -- no landing alters a word of its read region
    pub read_kept : (T address w : ℕ) → in_region (circuit_at z circuit).read address ≡ true
        → stored_by ((tick z (S T)).landing (source_of z circuit)) address w ≡ w
    read_kept T address w p = go ((tick z (S T)).landing (source_of z circuit)) refl
      where
        go : (x : Landing) → (tick z (S T)).landing (source_of z circuit) ≡ x → stored_by x address w ≡ w
        go nothing e = refl
        go (landed kind at word) e =
            let n = (circuit_bounds z (sheet_bounds z passes) circuit inside).source_inside in
            let x = came T (source_of z circuit) kind at word n e in
            let ne : at ≡ address → ⊥ =
            λ q. receive_read z passes x.circuit circuit x.circuit_inside inside x.at_node address
            (subst (λ (a : ℕ). in_region (circuit_at z x.circuit).receive a ≡ true) q
            (came_inside T (source_of z circuit) kind at word x)) p in
            rw (no= ne) refl

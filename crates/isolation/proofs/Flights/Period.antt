-- Flights that start in periods, each as rules 10 and 11 ask, do not clash, in whichever periods they start.
-- Assumes nothing.
use Prim.Native.Nat.{ℕ, zero, suc, ◌+◌, ◌-◌, ◌≤◌, ◌<◌}
use mathlib.Core.List.{List}
use mathlib.Core.Path.{◌≡◌, sym, ap}
use native.Mathlib.Decide.{ℕ_discrete, dec_lt}
use native.Mathlib.Nat.{add-zero, add-suc}
use native.Mathlib.Omega.{arith}
use Rattle.torus.specs.Route.{router_cycles, link_cycles}
use Rattle.sheet.specs.Sheet.{is_long}
use Rattle.torus.proofs.RouteLaws.{hop_low}
use Rattle.torus.proofs.TravelLaws.{hop_is}
use Rattle.isolation.proofs.Routes.GridLaws.{link_memory}
use Rattle.isolation.proofs.Flights.Flight.{Flights, Paths, out_stage, InStage, NoClash}
use Rattle.isolation.proofs.Flights.Slotted.{Slotted}

-- a router is no further from the source than a later one
pub delay_on : (z : List ℕ) (F : Flights) → Paths z F → (f : F.Id) (k m : ℕ) → F.delay f k ≤ F.delay f (k + m)
delay_on z F P f k zero = omega (arith, ap (F.delay f) (add-zero k))
delay_on z F P f k (suc m) = omega (arith, ap (F.delay f) (add-suc k m), delay_on z F P f k m, P.next_delay f (k + m))

-- the end of a router's link is no further from the source than the last router
pub link_on : (z : List ℕ) (F : Flights) → Paths z F → (f : F.Id) (k last : ℕ) → k < F.routers f → suc last ≡ F.routers f
    → F.delay f k + link_cycles (is_long z) (F.output f k) ≤ F.delay f last
link_on z F P f k last l e = go (ℕ_discrete k last)
  where
    go : Dec (k ≡ last) → F.delay f k + link_cycles (is_long z) (F.output f k) ≤ F.delay f last
    go (yes q) =
        omega (arith, ap (F.delay f) q, link_memory (is_long z) (F.output f k) (P.last_output f k (omega arith)))
    go (no ne) =
        let there : suc k + (last - suc k) ≡ last = omega (arith, ne) in
        omega (
          arith,
          P.next_delay f k,
          hop_is (is_long z) (F.output f k),
          delay_on z F P f (suc k) (last - suc k),
          ap (F.delay f) there,
        )

module _ (z : List ℕ) (F : Flights) (P : Paths z F) (begins long : ℕ → ℕ) (S : Slotted F begins long) where
  begins_on : (p q : ℕ) → begins p ≤ begins (p + q)
  begins_on p zero = omega (arith, ap begins (add-zero p))
  begins_on p (suc q) = omega (arith, ap begins (add-suc p q), begins_on p q, S.next_period (p + q))

  -- a later period begins after an earlier one has ended
  pub begins_later : (p q : ℕ) → p < q → begins p + long p ≤ begins q
  begins_later p q l =
      let e : suc p + (q - suc p) ≡ q = omega arith in
      omega (arith, S.next_period p, rw e at (begins_on (suc p) (q - suc p)))

  -- a further router is at least a router's cycles away
  pub delay_later : (f : F.Id) (k m : ℕ) → k < m → F.delay f k + router_cycles ≤ F.delay f m
  delay_later f k m l =
      let e : suc k + (m - suc k) ≡ m = omega arith in
      omega (arith, P.next_delay f k, hop_low (is_long z) (F.output f k), rw e at (delay_on z F P f (suc k) (m - suc k)))

  -- a flight of a later period comes after
  apart : (T : ℕ) (f f' : F.Id) (k k' j j' : ℕ) → S.period f < S.period f' → InStage F T out_stage f k j
      → InStage F T out_stage f' k' j' → F.output f k ≡ F.output f' k' → ⊥
  apart T f f' k k' j j' p s s' o = go (ℕ_discrete (suc k) (F.routers f)) (ℕ_discrete (suc k') (F.routers f'))
    where
      later : begins (S.period f) + long (S.period f) ≤ begins (S.period f')
      later = begins_later (S.period f) (S.period f') p

      go : Dec (suc k ≡ F.routers f) → Dec (suc k' ≡ F.routers f') → ⊥
      go (no ne) d =
          let e : suc (F.routers f - 1) ≡ F.routers f = omega (arith, s.on_way) in
          let before = delay_later f k (F.routers f - 1) (omega (arith, ne, s.on_way)) in
          omega (arith, later, before, S.rule10 f (F.routers f - 1) e, S.starts f, S.starts f', S.fits f, s, s')
      go (yes e) (yes e') =
          let after = delay_later f' 0 k' (omega (arith, S.away f')) in
          omega (arith, later, after, S.rule10 f k e, S.starts f, S.starts f', S.fits f, s, s')
      go (yes e) (no ne') = omega (arith, o, P.last_output f k e, P.side_output f' k' (omega (arith, ne', s'.on_way)))

  -- so no two of them clash
  pub flights_apart : NoClash F
  flights_apart T f f' k k' j j' s s' n o = go (dec_lt (S.period f) (S.period f')) (dec_lt (S.period f') (S.period f))
    where
      go : Dec (S.period f < S.period f') → Dec (S.period f' < S.period f) → F.input f k ≡ F.input f' k'
      go (yes l) d = absurd (apart T f f' k k' j j' l s s' o)
      go (no a) (yes l) = absurd (apart T f' f k' k j' j l s' s (sym o))
      go (no a) (no b) =
          let same : S.period f ≡ S.period f' = omega (arith, a, b) in
          let begin : begins (S.period f) ≡ begins (S.period f') = ap begins same in
          S.rule11 f f' k k' j j' same s.on_way s'.on_way (omega (arith, S.fits f, s.in_packet))
          (omega (arith, S.fits f', s'.in_packet)) (omega (arith, begin, S.starts f, S.starts f', s.time, s'.time)) n o

-- Flights that start in periods, each as rules 10 and 11 ask.
-- Assumes nothing.
use Prim.Native.Nat.{ℕ, suc, ◌+◌, ◌≤◌, ◌<◌}
use mathlib.Core.Path.{◌≡◌}
use Rattle.torus.specs.Route.{router_cycles}
use Rattle.isolation.proofs.Flights.Flight.{Flights}

-- periods, each with its first cycle and its length, and the flights' slots in them: offset and words, as a sheet's entry has them.
-- Rule 10 speaks of the last router. Rule 11, with rule 9 for one flight's own words, speaks of one period.
pub record Slotted (F : Flights) (begins long : ℕ → ℕ) : Type 0 where
  pub next_period : (p : ℕ) → begins (suc p) ≡ begins p + long p
  pub period : F.Id → ℕ
  pub offset : F.Id → ℕ
  pub words : F.Id → ℕ
  pub starts : (f : F.Id) → F.start f ≡ begins (period f) + offset f
  pub fits : (f : F.Id) → F.size f < words f
  pub away : (f : F.Id) → 2 ≤ F.routers f
  pub rule10 : (f : F.Id) (k : ℕ) → suc k ≡ F.routers f → offset f + words f + F.delay f k ≤ long (period f) + router_cycles
  pub rule11 : (f f' : F.Id) (k k' j j' : ℕ) → period f ≡ period f' → k < F.routers f → k' < F.routers f'
      → j < words f → j' < words f' → offset f + j + F.delay f k ≡ offset f' + j' + F.delay f' k'
      → F.node f k ≡ F.node f' k' → F.output f k ≡ F.output f' k' → F.input f k ≡ F.input f' k'

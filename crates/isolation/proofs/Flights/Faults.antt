-- Routers that hold the flights' words have no fault: no two inputs ask for one output, and each payload word finds an output held, or
-- has its own.
-- Assumes nothing.
use Prim.Native.Nat.{ℕ, ◌<◌}
use mathlib.Core.Bool.{Bool, true, false}
use mathlib.Core.List.{List}
use mathlib.Core.Path.{◌≡◌, refl, sym}
use native.Mathlib.Omega.{arith}
use Rattle.words.specs.Tests.{◌and◌}
use Rattle.words.proofs.TestLaws.{no≤, and_no, and_on, or_on}
use Rattle.words.proofs.WordLaws.{count_of_one}
use Rattle.sheet.specs.Sheet.{nodes}
use Rattle.network.specs.View.{View, ports}
use Rattle.network.specs.Cycle.{asks, is_full, collides, headless}
use Rattle.isolation.proofs.Flights.Flight.{Flights, Holds, NoClash}
use Rattle.isolation.proofs.Flights.Step.{one_asks, payload_latch, payload_choice}

-- a test that fails where the one before it holds
both_not : (a b : Bool) → (a ≡ true → b ≡ false) → a and b ≡ false
both_not true b h = sym (and_on refl (sym (h refl)))
both_not false b h = sym (and_no b refl)

module _ (z : List ℕ) (F : Flights) (T : ℕ) (v : View) (h : Holds z F T v.routers) where
  -- no two inputs ask for one output
  pub none_collides : NoClash F → (node output : ℕ) → node < nodes z → collides v node output ≡ false
  unfolding collides
  none_collides clash node output n =
      let one =
      count_of_one ports (λ input. is_full (asks v.routers node output input))
      (λ input input'. one_asks z F T v.routers h clash node output input input' n) in
      no≤ (omega (arith, one))

  -- no payload word is in the link register without an output held for it, or behind the header stage without an output chosen
  pub none_headless : (node input : ℕ) → node < nodes z → input < ports → headless v node input ≡ false
  unfolding headless
  none_headless node input n i =
      sym
      (or_on (both_not _ _ (payload_latch z F T v.routers h node input n i))
      (sym (both_not _ _ (payload_choice z F T v.routers h node input n i))))

-- Wires in cycles: which wires a packet occupies, each in which cycles (document 01, "The router"). Cycles are counted from the
-- period's start and not taken modulo the period.
use Rattle.std.specs.Prelude.{ℕ, zero, suc, ◌+◌, List, [], ◌∷◌, ◌++◌, Bool, false}
use Rattle.words.specs.Tests.{◌and◌, ◌or◌, ◌=?◌}
use Rattle.torus.specs.Route.{Wire, source, side, memory, Use}

-- one wire in one cycle
pub record WireCycle : Type 0 where
  pub wire : Wire
  pub cycle : ℕ

unfoldable pub same_wire : Wire → Wire → Bool
same_wire (source a) (source b) = a =? b
same_wire (source a) (side b j) = false
same_wire (source a) (memory b) = false
same_wire (side a i) (source b) = false
same_wire (side a i) (side b j) = a =? b and i =? j
same_wire (side a i) (memory b) = false
same_wire (memory a) (source b) = false
same_wire (memory a) (side b j) = false
same_wire (memory a) (memory b) = a =? b

unfoldable pub same : WireCycle → WireCycle → Bool
same x y = same_wire x.wire y.wire and x.cycle =? y.cycle

-- a wire in so many cycles, from a cycle on
unfoldable pub during : ℕ → Wire → ℕ → List WireCycle
during zero wire cycle = []
during (suc n) wire cycle = record { wire = wire; cycle = cycle } ∷ during n wire (cycle + 1)

-- the wires that a packet of so many words occupies, which leaves its source from a cycle on: each as long, by its delay later
unfoldable pub occupied : List Use → ℕ → ℕ → List WireCycle
occupied [] size cycle = []
occupied (u ∷ uses) size cycle = during size u.wire (cycle + u.delay) ++ occupied uses size cycle

unfoldable pub member : WireCycle → List WireCycle → Bool
member x [] = false
member x (y ∷ ys) = same x y or member x ys

-- the two lists share one wire in one cycle
unfoldable pub meet : List WireCycle → List WireCycle → Bool
meet [] ys = false
meet (x ∷ xs) ys = member x ys or meet xs ys

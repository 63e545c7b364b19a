-- `inbound::Place::bound_for` meets its contract: where the header comes from here is always where it came from the start.
use Prim.Native.Nat.{◌-◌, ◌/◌}
use Rattle.network.specs.Inbound.{bound_for, furthest}
use Rattle.inbound.proofs.WalkLaws.{Walking}
use Rattle.inbound.proofs.Place.bound_for.Given as goal

abbrev pub invariant-loop : goal.invariant-loop
invariant-loop l =
    Walking (bound_for furthest l.self.z.now (l.self.k / 5) l.output l.word) l.self.z.now l.grid.cols l.grid.rows l.at l.by l.header (furthest - l.counter)

-- `clash::Packet::is_taken` meets its contract: the places from wire i on are a row and those from the next wire on.
use Prim.Native.Nat.{◌-◌}
use mathlib.Core.Path.{◌≡◌}
use Rattle.occupancy.specs.Inner.Occupancy.{any_taken}
use Rattle.clash.specs.Inner.Table.{places}
use Rattle.clash.proofs.Packet.is_taken.Given as goal

abbrev pub invariant-loop-i : goal.invariant-loop-i
invariant-loop-i l = (any_taken l.table (places l.self.wires l.self.delays l.self.stride l.self.cycle l.self.size l.i (l.self.count - l.i)) ≡ any_taken l.table (places l.self.wires l.self.delays l.self.stride l.self.cycle l.self.size 0 l.self.count))

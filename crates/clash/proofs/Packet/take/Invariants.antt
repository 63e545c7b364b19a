-- `clash::Packet::take` meets its contract: what is taken wire by wire is taken in all.
use Prim.Native.Nat.{ℕ, ◌-◌, ◌^◌, ◌<◌}
use mathlib.Core.List.{List}
use mathlib.Core.Path.{◌≡◌}
use lib.ListN.{length}
use Rattle.words.specs.Words.{word}
use Rattle.occupancy.specs.Inner.Occupancy.{Takes}
use Rattle.clash.specs.Inner.Table.{places}
use Rattle.clash.proofs.Packet.take.Given as goal

abbrev pub invariant-loop-i : goal.invariant-loop-i
invariant-loop-i l = (length l.table ≡ length l.initial.table)
    × ((x : ℕ) → word l.table x < 2 ^ 32)
    × ((after : List ℕ) → Takes l.table after (places l.self.wires l.self.delays l.self.stride l.self.cycle l.self.size l.i (l.self.count - l.i)) → Takes l.initial.table after (places l.self.wires l.self.delays l.self.stride l.self.cycle l.self.size 0 l.self.count))

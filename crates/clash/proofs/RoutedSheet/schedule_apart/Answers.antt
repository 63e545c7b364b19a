-- `clash::RoutedSheet::schedule_apart` meets its contract: each table is used only where it holds all wires in the period's cycles.
use native.Mathlib.Omega.{arith}
use Rattle.clash.proofs.RoomLaws.{places_high, roomy}
use Rattle.sheet.proofs.PassedLaws.{period_range}
use Rattle.clash.proofs.RoutedSheet.schedule_apart.Goals as goal

pub overflow_add-cycles : goal.overflow_add-cycles
overflow_add-cycles c = omega (arith, c.schedule_period-cycles.ensures, (period_range _ c.args.self.routed.ranged _ c.requires).1)

pub overflow_mul-places-2 : goal.overflow_mul-places-2
overflow_mul-places-2 c =
    let s = c.args.self.routed in
    omega (arith, places_high _ s _ c.requires _ _ c.nodes.ensures.0 c.nodes.ensures.1 c.schedule_period-cycles.ensures)

pub apart_in-requires : goal.apart_in-requires
apart_in-requires c =
    let s = c.args.self.routed in
    let count = c.nodes.ensures in
    (c.requires, roomy _ s _ c.requires _ _ count.0 count.1 c.schedule_period-cycles.ensures 33 (omega arith), omega arith)

pub apart_in-requires-in-1025-to-16384 : goal.apart_in-requires-in-1025-to-16384
apart_in-requires-in-1025-to-16384 c =
    let s = c.args.self.routed in
    let count = c.nodes.ensures in
    (c.requires, roomy _ s _ c.requires _ _ count.0 count.1 c.schedule_period-cycles.ensures 513 (omega arith), omega arith)

pub apart_in-requires-in_default : goal.apart_in-requires-in_default
apart_in-requires-in_default c =
    let s = c.args.self.routed in
    let count = c.nodes.ensures in
    let high = places_high _ s _ c.requires _ _ count.0 count.1 c.schedule_period-cycles.ensures in (
      c.requires,
      roomy _ s _ c.requires _ _ count.0 count.1 c.schedule_period-cycles.ensures 3091
          (omega (arith, high)),
      omega arith,
    )

-- The calendar of a session (document 01, "The session" and "The lists of demand 3"), reckoned from the sheet and the events alone, before
-- and without a circuit.
use Rattle.std.specs.Prelude.{ℕ, ◌+◌, ◌%◌, List, [], ◌∷◌, length}
use Rattle.words.specs.Tests.{◌=?◌}
use Rattle.words.specs.Words.{pick, least_from}
use Rattle.sheet.specs.Sheet.{period}
use Rattle.network.specs.View.{Order, no_order, pending}
use Rattle.isolation.specs.Sessions.{Session, Event, start_done, store_done, order_done, cycle_done, events_before}

-- the cycles since the load, the cycle within the period, the period number, the schedule in force, and the order not yet spent
pub record Calendar : Type 0 where
  pub cycles : ℕ
  pub cycle : ℕ
  pub number : ℕ
  pub schedule : ℕ
  pub order : Order

-- directly after the load: cycle 0, period 0, schedule 0, no order
abbrev pub calendar_at_load : Calendar
calendar_at_load = record { cycles = 0; cycle = 0; number = 0; schedule = 0; order = no_order }

-- as a period begins, an order for its number is in force and spent
abbrev pub spend_order : Order → Calendar → Calendar
spend_order no_order k = k
spend_order (pending ordered at) k =
    pick (at =? k.number) (record { cycles = k.cycles; cycle = k.cycle; number = k.number; schedule = ordered; order = no_order }) k

-- after a cycle; after the period's last the number rises by one, modulo 2^32
abbrev pub next_calendar : List ℕ → Calendar → Calendar
next_calendar z k =
    pick (k.cycle + 1 =? period z k.schedule)
    (spend_order k.order (record {
      cycles = k.cycles + 1;
      cycle = 0;
      number = (k.number + 1) % 4294967296;
      schedule = k.schedule;
      order = k.order;
    }))
    (record { cycles = k.cycles + 1; cycle = k.cycle + 1; number = k.number; schedule = k.schedule; order = k.order })

abbrev pub calendar_event : List ℕ → Event → Calendar → Calendar
calendar_event z (start_done circuit transfer) k = k
calendar_event z (store_done node address new) k = k
calendar_event z (order_done schedule number) k =
    record { cycles = k.cycles; cycle = k.cycle; number = k.number; schedule = k.schedule; order = pending schedule number }
calendar_event z cycle_done k = next_calendar z k

abbrev pub calendar_all : List ℕ → List Event → Calendar → Calendar
calendar_all z [] k = k
calendar_all z (e ∷ es) k = calendar_all z es (calendar_event z e k)

-- the calendar after some events since the load
abbrev pub calendar_after : List ℕ → List Event → Calendar
calendar_after z es = calendar_all z es calendar_at_load

-- the calendar of a session after its first k calls, and the cycles that were carried out by then
abbrev pub calendar_at : Session → ℕ → Calendar
calendar_at l k = calendar_after l.sheet (events_before l k)

abbrev pub cycles_done : Session → ℕ → ℕ
cycles_done l k = (calendar_at l k).cycles

-- the point directly after n cycles, the first at which so many are counted: directly after the load for none
abbrev pub point_after : Session → ℕ → ℕ
point_after l n = least_from (length l.calls) 0 (λ k. cycles_done l k =? n)

-- the schedule in force in cycle t; the first is cycle 0
abbrev pub schedule_in : Session → ℕ → ℕ
schedule_in l t = (calendar_at l (point_after l t)).schedule

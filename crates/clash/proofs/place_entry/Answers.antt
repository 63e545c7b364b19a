-- `clash::place_entry` meets its contract: the places of the route that was followed are the entry's, and all of them lie in the table.
use mathlib.Core.Path.{sym, ◌∙◌}
use native.Mathlib.Omega.{arith}
use Rattle.clash.proofs.EntryLaws.{entry_leads_on, entry_held, entry_places_is, entry_hops_is, hit_answer, take_answer}
use Rattle.clash.proofs.place_entry.Goals as goal

pub returns-in_default : goal.returns-in_default
returns-in_default c =
    absurd (entry_leads_on _ _ _ _ c.requires _ c.at-circuit.ensures (sym c.in_default.is ∙ c.path_from.ensures))

pub overflow_add-packet : goal.overflow_add-packet
overflow_add-packet c =
    omega (
      arith,
      entry_hops_is _ _ _ _ c.requires _ c.at-circuit.ensures _ (sym c.in-Some.is ∙ c.path_from.ensures),
    )

pub is_taken-requires : goal.is_taken-requires
is_taken-requires c =
    entry_held _ _ _ _ c.requires _ c.at-circuit.ensures _ (sym c.in-Some.is ∙ c.path_from.ensures)

pub returns-then-is_taken : goal.returns-then-is_taken
returns-then-is_taken c =
    hit_answer _ _ _ c.is_taken.ensures c.if-is_taken.true
    (entry_places_is _ _ _ _ c.requires _ c.at-circuit.ensures _ (sym c.in-Some.is ∙ c.path_from.ensures))

pub take-requires : goal.take-requires
take-requires c =
    entry_held _ _ _ _ c.requires _ c.at-circuit.ensures _ (sym c.in-Some.is ∙ c.path_from.ensures)

pub returns : goal.returns
returns c =
    take_answer _ _ _ _ c.is_taken.ensures c.if-is_taken.false c.take.ensures
    (entry_places_is _ _ _ _ c.requires _ c.at-circuit.ensures _ (sym c.in-Some.is ∙ c.path_from.ensures))

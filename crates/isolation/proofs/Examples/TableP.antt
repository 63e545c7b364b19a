-- The key's examples (a) to (m): the table's numbers are computed from the definitions, by one computation.
-- Assumes nothing.
use Prim.Native.Nat.{ℕ, zero, suc, ◌+◌, ◌-◌}
use mathlib.Core.Path.{◌≡◌, refl, sym, subst, ap₂}
use native.Mathlib.Nat.{zero-add, suc-add}
use mathlib.Core.List.{List, [], ◌∷◌, ◌++◌, map}
use lib.ListN.{set, replicate, drop}
use Rattle.words.specs.Words.{least_from, tab}
use Rattle.words.specs.Tests.{all, any, between, ◌and◌, ◌or◌, ◌≤?◌, ◌<?◌, ◌=?◌, ◌≠?◌}
use Rattle.torus.specs.Torus.{neighbour_of, walks, distance_of, is_vertical}
use Rattle.torus.specs.Route.{output_of, hop_cycles, follow, route_from, link_cycles}
use Rattle.network.specs.Registers.{reg, sheet_length, sheet_in, moving_words}
use Rattle.soundness.specs.Sound.{sheet_sound, clock_sound, order_sound, kind_travels, lies_in, transfer_sound, cell_sound, router_sound, extra_sound, node_sound, sound}
use Rattle.network.specs.Cycle.{has_extra}
use Rattle.words.specs.Numbers.{unless, ◌then◌}
use Rattle.words.proofs.TableLaws.{tab_zeros}
use Rattle.session.specs.Calls.{state_number, is_pending, ahead, order_number, loaded}
use Rattle.isolation.specs.Examples.{sheet_a, last_period, Example, table_on, TableHolds}
use Rattle.sheet.specs.Sheet.{meant, schedule_place, circuit_at, entries_of, entry_at, rows, sheet_words, is_long}
use Rattle.sheet.specs.Wires.{same_wire, same, during, occupied, member, meet}
use Rattle.sheet.specs.Rules.{rule1, rule2, schedule_fits, rule3, first_broken, verdict}
use Rattle.sheet.specs.Rules.{region_fits, circuit_fits, rule4, precedes, circuit_precedes, rule5, apart, receive_apart, rule6}
use Rattle.sheet.specs.Rules.{each_entry, entry_fits, rule7_at, rule7, entry_precedes, rule8_at, rule8}
use Rattle.sheet.specs.Rules.{entry_route, entry_leads, rule9, entry_ends, rule10, entry_occupied, rule11_at, rule11, serves, is_served, rule26}

-- the state of (m), word by word, so that it computes at once
abbrev written : List ℕ
written = 0 ∷ 4294967295 ∷ replicate (moving_words - 2) 0 ++ (17 ∷ sheet_a 0 13 [] ++ replicate (sheet_words - 17) 0)

computed : map (λ (r : Example). r.given) (table_on written) ≡ map (λ (r : Example). r.wanted) (table_on written)
unfolding order_number state_number unless ◌then◌ ahead is_pending sound sheet_sound clock_sound order_sound transfer_sound kind_travels lies_in router_sound extra_sound has_extra cell_sound node_sound
    loaded tab reg sheet_length sheet_in
    meant verdict first_broken
    rule1 rule2 schedule_fits rule3
    region_fits circuit_fits rule4 precedes circuit_precedes rule5 apart receive_apart rule6
    each_entry entry_fits rule7_at rule7 entry_precedes rule8_at rule8
    entry_route entry_leads rule9 entry_ends rule10 entry_occupied rule11_at rule11
    serves is_served rule26
    rows is_long schedule_place circuit_at entries_of entry_at
    same_wire same during occupied member meet
    neighbour_of walks distance_of output_of is_vertical link_cycles hop_cycles follow route_from
    least_from all any between ◌and◌ ◌or◌ ◌≤?◌ ◌<?◌ ◌=?◌ ◌≠?◌
computed = refl

-- a list of zeros
abbrev zeros : ℕ → List ℕ
zeros n = replicate n 0

drop_zeros : (n m : ℕ) → drop n (zeros (n + m)) ≡ zeros m
drop_zeros zero m = rw zero-add refl
drop_zeros (suc n) m = rw suc-add (drop_zeros n m)

-- the state of (m) is sheet A loaded, with its period word set
last_period_is : written ≡ last_period
unfolding loaded
last_period_is =
    sym (ap₂ (λ (a b : List ℕ). set (a ++ ((17 ∷ sheet_a 0 13 []) ++ b)) 1 4294967295) (sym (tab_zeros moving_words)) (drop_zeros (moving_words + 18) (sheet_words - 17)))

pub examples : TableHolds
examples =
    subst (λ (state : List ℕ). map (λ (r : Example). r.given) (table_on state) ≡ map (λ (r : Example). r.wanted) (table_on state)) last_period_is
    computed

-- What the witnesses of demand 3 share: loads that are refused, a load that is carried out, the sessions' events computed, and what is
-- answered as landed, or to a start, from them.
-- Assumes nothing.
use Prim.Native.Nat.{ℕ, zero, suc, ◌*◌, ◌≤◌, ◌<◌}
use mathlib.Core.Bool.{Bool, true, false, false≢true}
use mathlib.Core.List.{List, [], ◌∷◌, ◌++◌}
use mathlib.Core.Path.{◌≡◌, refl, sym, ◌∙◌, ap}
use native.Mathlib.Omega.{arith}
use native.Mathlib.Decide.{ℕ_discrete}
use native.Mathlib.Nat.{not-suc-le-zero}
use lib.ListN.{length, replicate, take, drop, get_or, length-replicate}
use Rattle.words.specs.Tests.{◌=?◌}
use Rattle.words.specs.Words.{pick}
use Rattle.words.proofs.TestLaws.{yes≤, yes=}
use Rattle.sheet.specs.Sheet.{meant, memory_words, circuits, nodes}
use Rattle.sheet.specs.Rules.{first_broken, check_rules, check_number}
use Rattle.network.specs.Registers.{state_words}
use Rattle.session.specs.Calls.{Lent, Call, load, start, start_all, store, order, cycle, number, after, load_words_number, load_number, ask}
use Rattle.words.proofs.NumberLaws.{then_zero, zero_then, zero_unless}
use Rattle.isolation.specs.Sessions.{LoadsRefused, Session, standing, Event, start_done, cycle_done, events_before}
use Rattle.isolation.specs.Calendar.{calendar_after, cycles_done, point_after}
use Rattle.isolation.specs.Reckoning.{Item, last_reckoned, reckon}
use Rattle.isolation.specs.Demand.{circuit_landing}
use Rattle.isolation.proofs.Reckoning.Points.{up_to, cycles_in, all_events, all_counted, point_inside, reached, events_of}
use Rattle.isolation.proofs.Reckoning.EventsDecided.{start_answer, start_here, decided, events_decided}
use Rattle.isolation.proofs.Reckoning.Reckons.{as_reckoned}

-- every load among some calls has a sheet that does not pass
abbrev pub bad_loads : List Call → Bool
bad_loads [] = true
bad_loads (load z ∷ calls) = pick (check_number z =? 0) false (bad_loads calls)
bad_loads (start circuit read_address write_address count kind ∷ calls) = bad_loads calls
bad_loads (start_all ts answer_words ∷ calls) = bad_loads calls
bad_loads (store node address new ∷ calls) = bad_loads calls
bad_loads (ask question ∷ calls) = bad_loads calls
bad_loads (order schedule period ∷ calls) = bad_loads calls
bad_loads (cycle ∷ calls) = bad_loads calls

load_passes : (z : List ℕ) (w : Lent) → number (load z) w ≡ 0 → check_number z ≡ 0
unfolding load_words_number
load_passes z w n = (then_zero _ _ n).0

-- so it is refused
pub bad_loads_refused : (calls : List Call) (w : Lent) → bad_loads calls ≡ true → LoadsRefused calls w
bad_loads_refused [] w e = tt
bad_loads_refused (load z ∷ calls) w e = go (check_number z =? 0) refl e (λ r. bad_loads_refused calls (after (load z) w) r)
  where
    go : (b : Bool) → (check_number z =? 0) ≡ b → pick b false (bad_loads calls) ≡ true
        → (bad_loads calls ≡ true → LoadsRefused calls (after (load z) w)) → LoadsRefused (load z ∷ calls) w
    go true q r h = absurd (false≢true r)
    go false q r h = (λ l n. false≢true (sym q ∙ yes= (load_passes z w n)), h r)
bad_loads_refused (start circuit read_address write_address count kind ∷ calls) w e =
    (λ q n. false≢true q, bad_loads_refused calls (after (start circuit read_address write_address count kind) w) e)
bad_loads_refused (start_all ts answer_words ∷ calls) w e = (λ q n. false≢true q, bad_loads_refused calls (after (start_all ts answer_words) w) e)
bad_loads_refused (store node address new ∷ calls) w e = (λ q n. false≢true q, bad_loads_refused calls (after (store node address new) w) e)
bad_loads_refused (ask question ∷ calls) w e = (λ q n. false≢true q, bad_loads_refused calls (after (ask question) w) e)
bad_loads_refused (order schedule period ∷ calls) w e = (λ q n. false≢true q, bad_loads_refused calls (after (order schedule period) w) e)
bad_loads_refused (cycle ∷ calls) w e = (λ q n. false≢true q, bad_loads_refused calls (after cycle w) e)

-- a load of words that stand for a sheet that passes, on a long state and a memory of the sheet's length, is carried out
pub load_zero : (given z s m : List ℕ) → z ≡ meant given
    → first_broken check_rules z ≡ 0 → state_words ≤ length s → length m ≡ nodes z * memory_words z → load_number given s m ≡ 0
unfolding load_words_number
load_zero given z s m same v l e =
    ap (λ (x : List ℕ). load_words_number x s m) (sym same)
    ∙ zero_then v (zero_then (zero_unless 12 (yes≤ l)) (zero_unless 14 (yes= e)))

-- a lent state of the published length, all zeros
abbrev pub zeros : List ℕ
zeros = replicate state_words 0

pub zeros_long : state_words ≤ length zeros
zeros_long = omega (arith, length-replicate {A = ℕ} state_words 0)

-- the event of a start, by its five words
abbrev pub start_event : ℕ → ℕ → ℕ → ℕ → ℕ → Event
start_event circuit read_address write_address count kind =
    start_done circuit (record { read_address = read_address; write_address = write_address; count = count; kind = kind })

-- a session's events, as they are computed
pub events_are : (l : Session) → events_of l ≡ decided l.sheet l.lent.memory (take (length l.calls) l.calls) []
events_are l = sym (all_events l) ∙ events_decided l (length l.calls) (omega arith)

-- what landed last of a circuit, after some events
abbrev pub last_landed : List ℕ → ℕ → List ℕ → List Event → Item
last_landed z circuit memory es = last_reckoned z circuit (reckon z circuit memory es) (calendar_after z es).cycles

-- the cycles carried out, from the events
pub cycles_by : (l : Session) (es : List Event) → events_of l ≡ es → cycles_done l (length l.calls) ≡ cycles_in es
cycles_by l es e = all_counted l ∙ ap cycles_in e

-- what is answered as landed after each cycle, from the events
pub landed_by : (l : Session) (circuit : ℕ) (es : List Event) → circuit < circuits l.sheet → events_of l ≡ es
    → (t : ℕ) → t < cycles_in es
    → circuit_landing l circuit (point_after l (suc t)) ≡ last_landed l.sheet circuit l.lent.memory (up_to es t ++ (cycle_done ∷ []))
landed_by l circuit es inside e t i =
    let r = reached l t (omega (arith, i, cycles_by l es e)) in
    (as_reckoned l circuit inside).landings (point_after l (suc t)) (point_inside l (suc t))
    ∙ ap (λ (k : ℕ). last_landed l.sheet circuit l.lent.memory (events_before l k)) r.point
    ∙ ap (last_landed l.sheet circuit l.lent.memory) (r.through ∙ ap (λ (r : List Event). up_to r t ++ (cycle_done ∷ [])) e)

-- what a start answers after each cycle, from the events
pub started_by_is : (l : Session) (es : List Event) → events_of l ≡ es → (t : ℕ) → t < cycles_in es
    → (circuit read_address write_address count kind : ℕ)
    → number (start circuit read_address write_address count kind) (standing l (point_after l (suc t)))
    ≡ start_answer l.sheet l.lent.memory (up_to es t ++ (cycle_done ∷ [])) circuit read_address write_address count kind
started_by_is l es e t i circuit read_address write_address count kind =
    let r = reached l t (omega (arith, i, cycles_by l es e)) in
    start_here l (point_after l (suc t)) circuit read_address write_address count kind
    ∙ ap (λ (fs : List Event). start_answer l.sheet l.lent.memory fs circuit read_address write_address count kind)
    (ap (events_before l) r.point ∙ r.through ∙ ap (λ (fs : List Event). up_to fs t ++ (cycle_done ∷ [])) e)

-- two functions with the same values below n, last first
abbrev pub table : {A : Type 0} → ℕ → (ℕ → A) → List A
table zero f = []
table (suc n) f = f n ∷ table n f

pub table_at : {A : Type 0} (n : ℕ) (f g : ℕ → A) → table n f ≡ table n g → (t : ℕ) → t < n → f t ≡ g t
table_at zero f g e t l = absurd (not-suc-le-zero l)
table_at {A} (suc n) f g e t l = go (ℕ_discrete t n) (table_at n f g (ap (λ (xs : List A). drop 1 xs) e) t)
  where
    go : Dec (t ≡ n) → (t < n → f t ≡ g t) → f t ≡ g t
    go (yes q) r = ap f q ∙ ap (λ (xs : List A). get_or xs 0 (f n)) e ∙ sym (ap g q)
    go (no q) r = r (omega (arith, q))

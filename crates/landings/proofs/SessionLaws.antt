-- An input that runs is a session of demand 3: its load, its starts, its cycles. So none of its cycles is refused.
-- Assumes nothing.
use Prim.Native.Nat.{ℕ, zero, suc, ◌+◌, ◌≤◌, ◌<◌}
use mathlib.Core.Bool.{Bool, true, false, false≢true}
use mathlib.Core.List.{List, [], ◌∷◌, ◌++◌}
use mathlib.Core.Path.{◌≡◌, refl, sym, ◌∙◌, ap}
use native.Mathlib.Omega.{arith}
use lib.ListN.{length, take, replicate, get_or, length-append, length-replicate, get_or-replicate}
use lib.Seq.{take-append-add, get_or-append-add}
use Rattle.words.specs.Tests.{◌=?◌}
use Rattle.words.specs.Words.{pick}
use Rattle.words.proofs.TestLaws.{yes=, is=}
use Rattle.network.specs.Registers.{state_words}
use Rattle.sheet.specs.Sheet.{meant}
use Rattle.session.specs.Calls.{loaded, Lent, lend, lend_state, Call, cycle, is_load, number, after, after_all}
use Rattle.session.proofs.AloneLaws.{after_alone}
use Rattle.isolation.specs.Sessions.{LoadsRefused, Session, standing}
use Rattle.isolation.proofs.DemandProved.{demand3}
use Rattle.landings.specs.Input.{sheet_of, memory_of, transfers, transfer_place, cycles_asked}
use Rattle.landings.specs.Messages.{Runs, Called, called, start_at, starts_on, calls_on, calls, message}
use Rattle.landings.specs.Lines.{cycles_on, last_line}
use Rattle.landings.specs.Output.{before_cycles}
use Rattle.landings.specs.Inner.Ended.{cycles_listed}
use Rattle.landings.proofs.CarriedLaws.{carried_all, last_none}
use Rattle.landings.proofs.CallLaws.{start_alone, load_first}
use Rattle.landings.proofs.OutputLaws.{runs_called}

-- calls one behind the other
after_all_append : (xs ys : List Call) (w : Lent) → after_all (xs ++ ys) w ≡ after_all ys (after_all xs w)
after_all_append [] ys w = refl
after_all_append (x ∷ xs) ys w = after_all_append xs ys (after x w)

-- calls among which there is no load
abbrev NoLoads : List Call → Type 0
NoLoads xs = (w : Lent) → LoadsRefused xs w

no_load_one : (x : Call) → is_load x ≡ false → NoLoads (x ∷ [])
no_load_one x n w = (λ e. absurd (false≢true (sym n ∙ e)), tt)

no_load_behind : (xs ys : List Call) (w : Lent) → LoadsRefused xs w → NoLoads ys → LoadsRefused (xs ++ ys) w
no_load_behind [] ys w a b = b w
no_load_behind (x ∷ xs) ys w a b = (a.0, no_load_behind xs ys (after x w) a.1 b)

-- some cycles
no_load_cycles : (n : ℕ) → NoLoads (replicate n cycle)
no_load_cycles zero w = tt
no_load_cycles (suc n) w = (λ e. absurd (false≢true e), no_load_cycles n (after cycle w))

cycles_later : (n : ℕ) (w : Lent) → cycles_on n (after cycle w) ≡ after cycle (cycles_on n w)
unfolding cycles_on
cycles_later zero w = refl
cycles_later (suc n) w = ap (after cycle) (cycles_later n w)

after_all_cycles : (n : ℕ) (w : Lent) → after_all (replicate n cycle) w ≡ cycles_on n w
unfolding cycles_on
after_all_cycles zero w = refl
after_all_cycles (suc n) w = after_all_cycles n (after cycle w) ∙ cycles_later n w

-- the first k starts of an input
start_call : List ℕ → ℕ → Call
start_call bytes k = start_at bytes (transfer_place bytes k)

start_calls : List ℕ → ℕ → List Call
start_calls bytes zero = []
start_calls bytes (suc k) = start_calls bytes k ++ (start_call bytes k ∷ [])

no_load_starts : (bytes : List ℕ) (k : ℕ) → NoLoads (start_calls bytes k)
unfolding start_calls start_call start_at
no_load_starts bytes zero w = tt
no_load_starts bytes (suc k) w =
    no_load_behind (start_calls bytes k) (start_call bytes k ∷ []) w (no_load_starts bytes k w) (no_load_one (start_call bytes k) refl)

after_all_starts : (bytes s m : List ℕ) (k : ℕ) → (starts_on bytes s k).refusal ≡ 0
    → after_all (start_calls bytes k) (lend s m) ≡ lend (starts_on bytes s k).state m
unfolding starts_on start_calls start_call
after_all_starts bytes s m zero e = refl
after_all_starts bytes s m (suc k) e = go ((starts_on bytes s k).refusal =? 0) refl e (after_all_starts bytes s m k)
  where
    go : (t : Bool) → ((starts_on bytes s k).refusal =? 0) ≡ t
        → (pick t (called (start_call bytes k) (lend_state (starts_on bytes s k).state)) (starts_on bytes s k)).refusal ≡ 0
        → ((starts_on bytes s k).refusal ≡ 0 → after_all (start_calls bytes k) (lend s m) ≡ lend (starts_on bytes s k).state m)
        → after_all (start_calls bytes k ++ (start_call bytes k ∷ [])) (lend s m)
        ≡ lend (pick t (called (start_call bytes k) (lend_state (starts_on bytes s k).state)) (starts_on bytes s k)).state m
    go true q h before =
        after_all_append (start_calls bytes k) (start_call bytes k ∷ []) (lend s m)
        ∙ ap (after (start_call bytes k)) (before (is= _ _ q))
        ∙ after_alone (starts_on bytes s k).state m (start_call bytes k) (start_alone bytes (transfer_place bytes k))
    go false q h before = absurd (false≢true (sym q ∙ yes= h))

-- the load, the starts and so many cycles, as a session
take_cycles : (t n : ℕ) → t ≤ n → take t (replicate n cycle) ≡ replicate t cycle
take_cycles zero n l = refl
take_cycles (suc t) zero l = absurd (let z : ⊥ = omega arith in z)
take_cycles (suc t) (suc n) l = ap {B = List Call} (λ r. cycle ∷ r) (take_cycles t n (omega arith))

module _ (bytes s m : List ℕ) (n : ℕ) (e : (calls_on bytes s m).refusal ≡ 0) where
  session_of : Session
  session_of = record {
    lent = lend s m;
    given = sheet_of bytes;
    sheet = meant (sheet_of bytes);
    sheet_is = refl;
    calls = start_calls bytes (transfers bytes) ++ replicate n cycle;
    is_carried_out = (load_first bytes s m e).0;
    loads_refused =
        no_load_behind (start_calls bytes (transfers bytes)) (replicate n cycle) (lend (loaded (meant (sheet_of bytes)) s) m)
        (no_load_starts bytes (transfers bytes) (lend (loaded (meant (sheet_of bytes)) s) m))
        (no_load_cycles n);
  }

  started_is : after_all (start_calls bytes (transfers bytes)) (lend (loaded (meant (sheet_of bytes)) s) m) ≡ lend (calls_on bytes s m).state m
  started_is =
      let same = (load_first bytes s m e).1 in
      after_all_starts bytes (loaded (meant (sheet_of bytes)) s) m (transfers bytes) (sym (ap (λ (c : Called). c.refusal) same) ∙ e)
      ∙ ap (λ (c : Called). lend c.state m) (sym same)

  module _ (t : ℕ) (l : t < n) where
    abbrev place : ℕ
    place = length (start_calls bytes (transfers bytes)) + t

    place_inside : place < length session_of.calls
    unfolding session_of
    place_inside =
        let starts = start_calls bytes (transfers bytes) in
        omega (arith, length-append starts (replicate n cycle), length-replicate n cycle)

    place_cycle : get_or session_of.calls place cycle ≡ cycle
    unfolding session_of
    place_cycle =
        get_or-append-add (start_calls bytes (transfers bytes)) (replicate n cycle) t cycle ∙ get_or-replicate n t cycle cycle l

    stands_so : standing session_of place ≡ cycles_on t (lend (calls_on bytes s m).state m)
    unfolding session_of
    stands_so =
        let starts = start_calls bytes (transfers bytes) in
        let loaded-words = lend (loaded (meant (sheet_of bytes)) s) m in
        ap (λ (x : List Call). after_all x loaded-words) (take-append-add starts (replicate n cycle) t)
        ∙ ap (λ (x : List Call). after_all (starts ++ x) loaded-words) (take_cycles t n (omega arith))
        ∙ after_all_append starts (replicate t cycle) loaded-words
        ∙ ap (after_all (replicate t cycle)) started_is
        ∙ after_all_cycles t (lend (calls_on bytes s m).state m)

    session_cycles : number cycle (cycles_on t (lend (calls_on bytes s m).state m)) ≡ 0
    session_cycles =
        ap (number cycle) (sym stands_so) ∙ demand3.cycles_carried_out session_of place place_inside place_cycle

-- no cycle of an input that runs is refused
pub cycles_carried_out : (bytes : List ℕ) → message bytes ≡ Runs → (t : ℕ) → t < cycles_asked bytes
    → number cycle (cycles_on t (before_cycles bytes)) ≡ 0
unfolding before_cycles calls
cycles_carried_out bytes e t l =
    session_cycles bytes (replicate state_words 0) (memory_of bytes) (cycles_asked bytes) (runs_called bytes e) t l

-- so all are carried out, and no refusal is printed behind their lines
pub all_carried_out : (bytes : List ℕ) → message bytes ≡ Runs
    → (cycles_listed bytes ≡ cycles_asked bytes) × (last_line (cycles_asked bytes) (before_cycles bytes) ≡ [])
all_carried_out bytes e =
    let all = carried_all (cycles_asked bytes) (before_cycles bytes) (cycles_carried_out bytes e) in
    (all, last_none (cycles_asked bytes) (before_cycles bytes) all)

-- What a list of transfers tells: those that are carried out, as starts and nothing else.
-- Assumes nothing.
use Prim.Native.Nat.{ℕ}
use mathlib.Core.Bool.{Bool, true, false}
use mathlib.Core.List.{List, [], ◌∷◌, ◌++◌, map}
use mathlib.Core.Path.{◌≡◌, refl, sym, ◌∙◌, ap}
use Rattle.words.specs.Tests.{◌=?◌}
use Rattle.words.specs.Words.{pick}
use Rattle.words.proofs.TestLaws.{is=}
use Rattle.session.specs.declared.Transfer.{Transfer as Listed}
use Rattle.session.specs.Calls.{transfer_number, started_by, started_next, started_all, carried_out, lend, as_start}
use Rattle.session.proofs.SinglesLaws.{next_is}
use Rattle.isolation.specs.Sessions.{Event, start_of, events, TellsSingles}
use Rattle.isolation.specs.Calendar.{Calendar, calendar_all}

-- what relates each state to itself by no events, and goes back over each start that is carried out by its event, relates a state to the
-- one after a list, by what the list tells
pub by_starts : (Q : List ℕ → List Event → List ℕ → Type 0)
    → ((s : List ℕ) → Q s [] s)
    → ((t : Listed) (s s' : List ℕ) (es : List Event) → transfer_number s t ≡ 0 → Q (started_by s t) es s' → Q s (start_of t ∷ es) s')
    → (ts : List Listed) (s : List ℕ) → Q s (map start_of (carried_out s ts)) (started_all s ts)
unfolding carried_out started_all started_next
by_starts Q none more [] s = none s
by_starts Q none more (t ∷ ts) s = go (by_starts Q none more ts) (transfer_number s t =? 0) refl
  where
    go : ((u : List ℕ) → Q u (map start_of (carried_out u ts)) (started_all u ts)) → (b : Bool) → (transfer_number s t =? 0) ≡ b
        → Q s (map start_of (pick b (t ∷ []) [] ++ carried_out (pick b (started_by s t) s) ts)) (started_all (pick b (started_by s t) s) ts)
    go rest true e = more t s _ _ (is= _ _ e) (rest (started_by s t))
    go rest false e = rest s

-- they leave the calendar
pub calendar_starts : (z : List ℕ) (ts : List Listed) (s : List ℕ) (k : Calendar) → calendar_all z (map start_of (carried_out s ts)) k ≡ k
calendar_starts z ts s k = by_starts (λ u es u'. calendar_all z es k ≡ k) (λ u. refl) (λ t u u' es e rest. rest) ts s

-- they are what the list's single starts tell, one after another
pub tells_singles : TellsSingles
unfolding carried_out
tells_singles [] answer_words w = refl
tells_singles (t ∷ ts) answer_words w =
    go (transfer_number w.state t =? 0)
    ∙ ap (λ (es : List Event). pick (transfer_number w.state t =? 0) (start_of t ∷ []) [] ++ es)
    (tells_singles ts answer_words (lend (started_next w.state t) w.memory) ∙ ap (events (map as_start ts)) (sym (next_is t w)))
  where
    later : List Listed
    later = carried_out (started_next w.state t) ts

    go : (b : Bool) → map start_of (pick b (t ∷ []) [] ++ later) ≡ pick b (start_of t ∷ []) [] ++ map start_of later
    go true = refl
    go false = refl

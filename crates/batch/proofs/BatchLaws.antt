-- A list of transfers, started one after another: what one more of them does to the state and to the answer words.
-- Assumes nothing.
use Prim.Native.Nat.{ℕ, zero, suc, ◌+◌, ◌≤◌, ◌<◌}
use mathlib.Core.List.{List, [], ◌∷◌, ◌++◌}
use mathlib.Core.Path.{◌≡◌, refl, sym, ◌∙◌, ap, subst}
use native.Mathlib.Omega.{arith}
use native.Mathlib.Numerals.{add-one}
use lib.ListN.{length, take, drop, set, length-set, length-append}
use lib.Seq.{drop-cons, take-suc, take-length, set_at, append_snoc}
use Rattle.words.specs.Words.{word}
use Rattle.words.proofs.TestLaws.{yes=, no=}
use Rattle.words.proofs.NumberLaws.{then_zero}
use Rattle.session.specs.declared.Transfer.{Transfer}
use Rattle.session.specs.Calls.{state_number, start_all_number, transfer_number, started_next, started_all, answers_all, start_all, Lent, lend_state, after, answers_after, as_start}
use Rattle.batch.specs.Lists.{first_of, item_at}
use Rattle.session.proofs.RegisterLaws.{started_length}
use Rattle.session.proofs.WritingLaws.{state_kept, state_written}
use Rattle.session.proofs.KeptLaws.{state_passes}
use Rattle.session.proofs.ListLaws.{next_has, all_has}
use Rattle.session.proofs.SinglesLaws.{next_is, answers_length, all_split}

-- a transfer more at the end
started_more : (s : List ℕ) (ts : List Transfer) (t : Transfer) → started_all s (ts ++ (t ∷ [])) ≡ started_next (started_all s ts) t
unfolding started_all
started_more s ts t = all_split ts [] t s

answers_more : (s : List ℕ) (ts : List Transfer) (t : Transfer)
    → answers_all s (ts ++ (t ∷ [])) ≡ answers_all s ts ++ (transfer_number (started_all s ts) t ∷ [])
unfolding started_all answers_all
answers_more s [] t = refl
answers_more s (u ∷ ts) t = ap (λ (l : List ℕ). transfer_number s u ∷ l) (answers_more (started_next s u) ts t)

-- a start leaves a state that passes 12 and 13 again
next_passes : (s : List ℕ) (t : Transfer) → state_number s ≡ 0 → state_number (started_next s t) ≡ 0
next_passes s t p = next_has (λ x. state_number x ≡ 0) t s (λ e. state_passes (as_start t) (lend_state s) e p) p

-- a single start as `start_sound` leaves the state
pub next_after : (s : List ℕ) (t : Transfer) {x : List ℕ} → x ≡ (after (as_start t) (lend_state s)).state → x ≡ started_next s t
next_after s t e = e ∙ ap (λ (w : Lent). w.state) (next_is t (lend_state s))

-- the state and the answer words after the transfers ts, of what they were before
pub record Started (s₀ answers₀ : List ℕ) (ts : List Transfer) (s answers : List ℕ) : Type 0 where
  pub passes : state_number s ≡ 0
  pub state : s ≡ started_all s₀ ts
  pub answered : answers ≡ answers_all s₀ ts ++ drop (length ts) answers₀
  pub long : length answers ≡ length answers₀

started_none : (s answers : List ℕ) → state_number s ≡ 0 → Started s answers [] s answers
unfolding started_all answers_all
started_none s answers p = record { passes = p; state = refl; answered = refl; long = refl }

-- one answer more, behind those that are there
answer_one : (front rest : List ℕ) (i r : ℕ) → length front ≡ i → i < length rest
    → set (front ++ drop i rest) i r ≡ (front ++ (r ∷ [])) ++ drop (suc i) rest
answer_one front rest i r e l =
    ap (λ (x : List ℕ). set (front ++ x) i r) (drop-cons rest i 0 l)
    ∙ set_at front (word rest i) (drop (suc i) rest) r i e
    ∙ sym (append_snoc front r (drop (suc i) rest))

length_more : (ts : List Transfer) (t : Transfer) → length (ts ++ (t ∷ [])) ≡ suc (length ts)
length_more ts t = length-append ts (t ∷ []) ∙ add-one (length ts)

module _ (s₀ answers₀ : List ℕ) (ts : List Transfer) (t : Transfer) {s answers next : List ℕ} {r i : ℕ} where
  started_one : Started s₀ answers₀ ts s answers → length ts ≡ i → i < length answers₀
      → r ≡ transfer_number s t → next ≡ started_next s t
      → Started s₀ answers₀ (ts ++ (t ∷ [])) next (set answers i r)
  started_one h n l e f =
      let front = answers_all s₀ ts in
      record {
        passes = ap state_number f ∙ next_passes s t h.passes;
        state = f ∙ ap (λ (x : List ℕ). started_next x t) h.state ∙ sym (started_more s₀ ts t);
        answered =
            ap (λ (x : List ℕ). set x i r) h.answered
            ∙ ap (λ k. set (front ++ drop k answers₀) i r) n
            ∙ answer_one front answers₀ i r (answers_length ts s₀ ∙ n) l
            ∙ ap (λ k. (front ++ (k ∷ [])) ++ drop (suc i) answers₀) (e ∙ ap (λ (x : List ℕ). transfer_number x t) h.state)
            ∙ ap (λ (x : List ℕ). x ++ drop (suc i) answers₀) (sym (answers_more s₀ ts t))
            ∙ ap (λ k. answers_all s₀ (ts ++ (t ∷ [])) ++ drop k answers₀) (ap suc (sym n) ∙ sym (length_more ts t));
        long = length-set answers i r ∙ h.long;
      }

-- the transfers at the first places, and one more
pub first_length : (at : ℕ → Transfer) (n : ℕ) → length (first_of n at) ≡ n
unfolding first_of
first_length at zero = refl
first_length at (suc n) = length_more (first_of n at) (at n) ∙ ap suc (first_length at n)

first_more : (at : ℕ → Transfer) (n : ℕ) → first_of (n + 1) at ≡ first_of n at ++ (at n ∷ [])
unfolding first_of
first_more at n = ap (λ k. first_of k at) (add-one n)

-- the first transfers of a list by their places are the list
first_is : (ts : List Transfer) (n : ℕ) → n ≤ length ts → first_of n (item_at ts) ≡ take n ts
unfolding first_of
first_is ts zero m = refl
first_is ts (suc n) m =
    ap (λ (x : List Transfer). x ++ (item_at ts n ∷ [])) (first_is ts n (omega arith)) ∙ sym (take-suc ts n _ (omega arith))

pub first_all : (ts : List Transfer) → first_of (length ts) (item_at ts) ≡ ts
first_all ts = first_is ts (length ts) (omega arith) ∙ take-length ts

-- a loop over the places: its beginning, a turn, and its end
module _ (at : ℕ → Transfer) (s₀ answers₀ : List ℕ) where
  pub loop_none : state_number s₀ ≡ 0 → Started s₀ answers₀ (first_of 0 at) s₀ answers₀
  unfolding first_of
  loop_none p = started_none s₀ answers₀ p

  pub loop_more : {i r : ℕ} {t : Transfer} {s answers next : List ℕ} → Started s₀ answers₀ (first_of i at) s answers → i < length answers₀
      → t ≡ at i → r ≡ transfer_number s t → next ≡ started_next s t → Started s₀ answers₀ (first_of (i + 1) at) next (set answers i r)
  loop_more {i} {r} {t} {s} {answers} {next} h l a e f =
      subst (λ (ts : List Transfer). Started s₀ answers₀ ts next (set answers i r)) (sym (first_more at i))
      (started_one s₀ answers₀ (first_of i at) (at i) h (first_length at i) l (e ∙ ap (transfer_number s) a) (f ∙ ap (started_next s) a))

  pub loop_done : {i : ℕ} (n : ℕ) {s answers : List ℕ} → Started s₀ answers₀ (first_of i at) s answers → i ≡ n
      → (s ≡ started_all s₀ (first_of n at)) × (answers ≡ answers_all s₀ (first_of n at) ++ drop n answers₀)
  loop_done {i} n h e =
      let all = ap (λ k. first_of k at) e in (
        h.state ∙ ap (started_all s₀) all,
        h.answered ∙ ap (λ k. answers_all s₀ (first_of i at) ++ drop k answers₀) (first_length at i ∙ e)
            ∙ ap (λ (ts : List Transfer). answers_all s₀ ts ++ drop n answers₀) all,
      )

-- a list that is taken passes 12 and 13
pub all_passes : (s : List ℕ) (transfers answer_words : ℕ) → start_all_number s transfers answer_words ≡ 0 → state_number s ≡ 0
unfolding start_all_number
all_passes s transfers answer_words e = (then_zero _ _ e).0

-- what a list leaves, from its number
module _ (ts : List Transfer) (s answers : List ℕ) {n : ℕ} (e : n ≡ start_all_number s (length ts) (length answers)) where
  pub all_kept : (n ≡ 0 → ⊥) → (s ≡ (after (start_all ts (length answers)) (lend_state s)).state) × (answers ≡ answers_after s ts answers)
  unfolding answers_after
  all_kept ne = (state_kept (start_all ts (length answers)) (lend_state s) e ne, rw (no= (λ z. ne (e ∙ z))) refl)

  pub all_written : {next written : List ℕ} → n ≡ 0 → next ≡ started_all s ts → written ≡ answers_all s ts ++ drop (length ts) answers
      → (next ≡ (after (start_all ts (length answers)) (lend_state s)).state) × (written ≡ answers_after s ts answers)
  unfolding answers_after
  all_written z f g = (state_written (start_all ts (length answers)) (lend_state s) e z f, rw (yes= (sym e ∙ z)) g)

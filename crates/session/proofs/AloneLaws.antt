-- A call that is lent the state alone: its number and the state after it are the same whatever memory is lent beside it, and that memory
-- stays. So its contract, which lends it no memory, says what demand 3 takes it to do.
-- Assumes nothing.
use Rattle.std.proofs.Common.{◌≡◌, ℕ, Bool, true, false, List, refl, ap, ◌∙◌}
use mathlib.Core.Bool.{false≢true}
use Rattle.words.specs.Tests.{◌=?◌}
use Rattle.words.specs.Words.{pick}
use Rattle.session.specs.Calls.{fetch, left, period_number, what_landed, Call, load, start, start_all, store, order, cycle, ask, lend, lend_state}
use Rattle.session.specs.Calls.{number, does, after}

-- start, a list of starts, order, words left, the period number and what landed
abbrev pub is_alone : Call → Bool
is_alone (load z) = false
is_alone (start circuit read_address write_address count kind) = true
is_alone (start_all ts answer_words) = true
is_alone (store node address new) = false
is_alone (order schedule period) = true
is_alone cycle = false
is_alone (ask (fetch node address)) = false
is_alone (ask (left circuit)) = true
is_alone (ask period_number) = true
is_alone (ask (what_landed node)) = true

module _ (s m : List ℕ) where
  pub number_alone : (x : Call) → is_alone x ≡ true → number x (lend s m) ≡ number x (lend_state s)
  number_alone (load z) e = absurd (false≢true e)
  number_alone (start circuit read_address write_address count kind) e = refl
  number_alone (start_all ts answer_words) e = refl
  number_alone (store node address new) e = absurd (false≢true e)
  number_alone (order schedule period) e = refl
  number_alone cycle e = absurd (false≢true e)
  number_alone (ask (fetch node address)) e = absurd (false≢true e)
  number_alone (ask (left circuit)) e = refl
  number_alone (ask period_number) e = refl
  number_alone (ask (what_landed node)) e = refl

  does_alone : (x : Call) → is_alone x ≡ true → does x (lend s m) ≡ lend (does x (lend_state s)).state m
  does_alone (load z) e = absurd (false≢true e)
  does_alone (start circuit read_address write_address count kind) e = refl
  does_alone (start_all ts answer_words) e = refl
  does_alone (store node address new) e = absurd (false≢true e)
  does_alone (order schedule period) e = refl
  does_alone cycle e = absurd (false≢true e)
  does_alone (ask question) e = refl

  pub after_alone : (x : Call) → is_alone x ≡ true → after x (lend s m) ≡ lend (after x (lend_state s)).state m
  unfolding after
  after_alone x e = ap (λ n. pick (n =? 0) (does x (lend s m)) (lend s m)) (number_alone x e) ∙ go (number x (lend_state s) =? 0)
    where
      go : (t : Bool) → pick t (does x (lend s m)) (lend s m) ≡ lend (pick t (does x (lend_state s)) (lend_state s)).state m
      go true = does_alone x e
      go false = refl

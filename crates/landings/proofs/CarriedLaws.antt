-- How many cycles are carried out, and the line behind theirs.
-- Assumes nothing.
use Prim.Native.Nat.{ℕ, zero, suc, ◌+◌, ◌≤◌, ◌<◌}
use mathlib.Core.Bool.{Bool, true, false, false≢true}
use mathlib.Core.List.{List, []}
use mathlib.Core.Path.{◌≡◌, refl, sym, ◌∙◌, ap}
use native.Mathlib.Omega.{arith}
use native.Mathlib.Decide.{dec_lt}
use lib.ListN.{length, length-append}
use Rattle.words.specs.Tests.{◌≤?◌, ◌=?◌}
use Rattle.words.specs.Words.{pick, least_from}
use Rattle.words.proofs.TestLaws.{yes=, no=, yes≤, no≤}
use Rattle.words.proofs.WordLaws.{least_from_most, least_from_is}
use Rattle.session.specs.Calls.{Lent, cycle, number}
use Rattle.listing.specs.Text.{line_end, field, refused}
use Rattle.listing.proofs.TextLaws.{field_short}
use Rattle.landings.specs.Lines.{cycles_on, carried_out, refused_line, last_line}

-- none before a number passes the test: then the least is not before it
least_past : (test : ℕ → Bool) (n k b : ℕ) → b ≤ k + n → ((j : ℕ) → k ≤ j → j < b → test j ≡ false) → b ≤ least_from n k test
unfolding least_from
least_past test zero k b l f = omega arith
least_past test (suc n) k b l f = go (test k) refl (least_past test n (k + 1) b)
  where
    go : (t : Bool) → test k ≡ t
        → (b ≤ k + 1 + n → ((j : ℕ) → k + 1 ≤ j → j < b → test j ≡ false) → b ≤ least_from n (k + 1) test)
        → b ≤ least_from (suc n) k test
    go true q rest = rw (q, least_from) (here (dec_lt k b))
      where
        here : Dec (k < b) → b ≤ k
        here (yes p) = absurd (false≢true (sym (f k (omega arith) p) ∙ q))
        here (no p) = omega (arith, p)
    go false q rest = rw (q, least_from) (rest (omega arith) (λ j a c. f j (omega arith) c))

module _ (n : ℕ) (w : Lent) where
  abbrev is_refused : ℕ → Bool
  is_refused k = 1 ≤? number cycle (cycles_on k w)

  not_refused : (k : ℕ) → number cycle (cycles_on k w) ≡ 0 → is_refused k ≡ false
  not_refused k e = no≤ (omega (arith, e))

  pub carried_most : carried_out n w ≤ n
  unfolding carried_out
  carried_most = omega (arith, least_from_most is_refused n 0)

  -- the first k are carried out; the next may be refused
  module _ (k : ℕ) (f : (j : ℕ) → j < k → number cycle (cycles_on j w) ≡ 0) where
    pub carried_past : k ≤ n → k ≤ carried_out n w
    unfolding carried_out
    carried_past l = least_past is_refused n 0 k (omega arith) (λ j a b. not_refused j (f j b))

    pub carried_stop : k < n → (number cycle (cycles_on k w) ≡ 0 → ⊥) → carried_out n w ≡ k
    unfolding carried_out
    carried_stop l ne = least_from_is is_refused n 0 k (omega arith) (omega arith) (yes≤ (omega (arith, ne))) (λ j a b. not_refused j (f j b))

  pub carried_all : ((j : ℕ) → j < n → number cycle (cycles_on j w) ≡ 0) → carried_out n w ≡ n
  carried_all f = omega (arith, carried_most, carried_past n f (omega arith))

  abbrev refusal : List ℕ
  refusal = refused_line (number cycle (cycles_on (carried_out n w) w))

  pub last_none : carried_out n w ≡ n → last_line n w ≡ []
  unfolding last_line
  last_none e = ap (λ (t : Bool). pick t [] refusal) (yes= e)

  pub last_refused : (k r : ℕ) → carried_out n w ≡ k → k < n → r ≡ number cycle (cycles_on k w) → last_line n w ≡ refused_line r
  unfolding last_line
  last_refused k r e l f =
      ap (λ (t : Bool). pick t [] refusal) (no= (λ q. omega (arith, q, e, l)))
      ∙ ap (λ j. refused_line (number cycle (cycles_on j w))) e
      ∙ ap refused_line (sym f)

  pub last_short : length (last_line n w) ≤ 20
  unfolding last_line refused
  last_short = go (carried_out n w =? n)
    where
      go : (t : Bool) → length (pick t [] refusal) ≤ 20
      go true = omega arith
      go false =
          let r = number cycle (cycles_on (carried_out n w) w) in
          omega (arith, length-append refused (field r line_end), field_short r line_end)

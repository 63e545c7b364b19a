-- What each start of a list keeps, the list keeps.
-- Assumes nothing.
use Rattle.std.proofs.Common.{◌≡◌, ℕ, Bool, true, false, List, [], ◌∷◌, refl}
use Rattle.words.specs.Tests.{◌=?◌}
use Rattle.words.specs.Words.{pick}
use Rattle.words.proofs.TestLaws.{is=}
use Rattle.session.specs.declared.Transfer.{Transfer}
use Rattle.session.specs.Calls.{transfer_number, started_by, started_next, started_all}

-- what holds of a state, and after a start on it that is carried out, holds after a start
pub next_has : (P : List ℕ → Type 0) (t : Transfer) (s : List ℕ)
    → (transfer_number s t ≡ 0 → P (started_by s t)) → P s → P (started_next s t)
unfolding started_next
next_has P t s a b = go (transfer_number s t =? 0) refl
  where
    go : (d : Bool) → (transfer_number s t =? 0) ≡ d → P (pick d (started_by s t) s)
    go true e = a (is= _ _ e)
    go false e = b

-- and so after a list of them
pub all_has : (P : List ℕ → Type 0)
    → ((t : Transfer) (s : List ℕ) → transfer_number s t ≡ 0 → P s → P (started_by s t))
    → (ts : List Transfer) (s : List ℕ) → P s → P (started_all s ts)
unfolding started_all
all_has P h [] s p = p
all_has P h (t ∷ ts) s p = all_has P h ts (started_next s t) (next_has P t s (λ e. h t s e p) p)

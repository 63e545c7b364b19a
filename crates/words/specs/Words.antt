-- Words in a list: total access, a choice between two values, and three folds over the places below n.
use Rattle.std.specs.Prelude.{Bool, true, false, List, [], ◌∷◌, ◌++◌, ℕ, suc, zero, ◌+◌, get_or}

-- word k of a list of words, 0 past its end
abbrev pub word : List ℕ → ℕ → ℕ
word list k = get_or list k 0

-- a where the test holds, else b
abbrev pub pick : {A : Type 0} → Bool → A → A → A
pick true a b = a
pick false a b = b

-- f 0, f 1, .., f (n - 1)
unfoldable pub tab : ℕ → (ℕ → ℕ) → List ℕ
tab zero f = []
tab (suc n) f = tab n f ++ (f n ∷ [])

-- one more than the last place below n at which the test holds, 0 where there is none
unfoldable pub last_of : ℕ → (ℕ → Bool) → ℕ
last_of zero test = 0
last_of (suc n) test = pick (test n) (suc n) (last_of n test)

-- at how many places below n the test holds
unfoldable pub count_of : ℕ → (ℕ → Bool) → ℕ
count_of zero test = 0
count_of (suc n) test = pick (test n) (suc (count_of n test)) (count_of n test)

-- the least number from k on, of so many, at which the test holds; past them all where there is none
unfoldable pub least_from : ℕ → ℕ → (ℕ → Bool) → ℕ
least_from zero k test = k
least_from (suc n) k test = elim (test k) [ true ↦ k | false ↦ least_from n (k + 1) test ]

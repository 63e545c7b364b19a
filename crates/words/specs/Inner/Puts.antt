-- Words put into a list one behind another, as code that fills a buffer does.
use Rattle.std.specs.Prelude.{ℕ, ◌+◌, List, [], ◌∷◌, set}

-- the list with some words put in from a place on
unfoldable pub put_all : List ℕ → ℕ → List ℕ → List ℕ
put_all s at [] = s
put_all s at (x ∷ xs) = put_all (set s at x) (at + 1) xs

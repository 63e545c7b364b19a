-- How long words are on their way along a route: the delays of its uses one by one, and that of the last.
use Rattle.std.specs.Prelude.{ℕ, zero, suc, List, [], ◌∷◌}
use Rattle.torus.specs.Route.{Use, Route, leads, nowhere}

-- the delay of use k of a list of uses: 0 past the end
unfoldable pub delay_at : List Use → ℕ → ℕ
delay_at [] k = 0
delay_at (u ∷ uses) zero = u.delay
delay_at (u ∷ uses) (suc k) = delay_at uses k

-- the delay of a route's last use, which is its memory output
abbrev pub last_delay : Route → ℕ
last_delay (leads uses node hops vertical) = delay_at uses (suc hops)
last_delay nowhere = 0

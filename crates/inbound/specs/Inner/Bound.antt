-- A node that may be none, as the number that stands for it in network/specs/Inbound.
use Rattle.std.specs.Prelude.{ℕ, ◌+◌, Option, None, Some}

-- one more than the node, 0 for none
abbrev pub one_more : Option ℕ → ℕ
one_more None = 0
one_more (Some node) = node + 1

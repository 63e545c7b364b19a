-- A cycle leaves the lengths of the state and of the memories.
-- Assumes nothing.
use Prim.Native.Nat.{ℕ, ◌≤◌}
use mathlib.Core.Path.{◌≡◌}
use mathlib.Core.List.{List}
use native.Mathlib.Omega.{arith}
use lib.ListN.{length, length-append, length-drop}
use Rattle.words.proofs.WordLaws.{length_tab}
use Rattle.network.specs.Registers.{moving_words}
use Rattle.network.specs.Inner.Machine.{next_state, next_memory}

pub state_length : (s m : List ℕ) → moving_words ≤ length s → length (next_state s m) ≡ length s
unfolding next_state
state_length s m long = simp (length-append, length_tab, length-drop) (omega arith)

pub memory_length : (s m : List ℕ) → length (next_memory s m) ≡ length m
unfolding next_memory
memory_length s m = length_tab (length m) _
